-- A client that goes through the plan of one of its jobs in each session, and what this promises of the device. Histories have their newest element
-- first.
use Rattle.std.specs.Prelude.{◌≡◌, ◌⊎◌, ℕ, true, List, [], ◌∷◌, Option, Some, None}
use Rattle.std.specs.List.{AllByRecursion}
use Rattle.knx_model.specs.declared.config.Image.{Image}
use Rattle.knx_model.specs.declared.device.FrameSupport.{FrameSupport}
use Rattle.knx_model.specs.declared.plan.Expect.{Expect}
use Rattle.knx_model.specs.declared.plan.Expect.TheVariants.{AckOnly}
use Rattle.knx_model.specs.ClientConnection.{awaits_nothing}
use Rattle.knx_model.specs.Device.{NonVolatile, HasCapacities, runs, answer_in}
use Rattle.knx_model.specs.GoodPlan.{Beginning, WholeRun, OldStoppedOrImage, IsSendable}
use Rattle.knx_model.specs.LoadPlan.{load_plan, check_plan}
use Rattle.knx_model.specs.Plans.{Plan, Over, Asks as Operation, Suits}
use Rattle.session_law.specs.World.{World}
use Rattle.session_law.specs.Events.{Event, Asks, replay, IsLegal}

-- The services that were sent are operations of the plan, each was answered as wanted, and this is left of the plan.
pub data Went (plan : Plan) : List (List ℕ) → List (List ℕ) → Plan → Type 0 where
  NotBegun : Went plan [] [] plan
  Acknowledged : (place : ℕ) (apdu : List ℕ) (next : Option (List ℕ) → Plan) (sent accepted : List (List ℕ)) → Went plan sent accepted (Operation place apdu AckOnly next) → Went plan (apdu ∷ sent) accepted (next None)
  Answered : (place : ℕ) (apdu : List ℕ) (expect : Expect) (next : Option (List ℕ) → Plan) (got : List ℕ) (sent accepted : List (List ℕ)) → Went plan sent accepted (Operation place apdu expect next) → Suits apdu expect (Some got)
      → Went plan (apdu ∷ sent) (got ∷ accepted) (next (Some got))

-- a service that the client sends is the plan's next operation, and nothing is awaited
pub record IsNext (plan : Plan) (w : World) (apdu : List ℕ) : Type 0 where
  pub free : awaits_nothing w.client.end ≡ true
  pub place : ℕ
  pub expect : Expect
  pub next : Option (List ℕ) → Plan
  pub went : Went plan w.client.sent w.client.accepted (Operation place apdu expect next)

-- of a plan that is a job's
abbrev pub MayAsk : (Plan → Type 0) → World → Event → Type 0
MayAsk IsJob w (Asks apdu) = (plan : Plan) × IsJob plan × IsNext plan w apdu
MayAsk IsJob w _ = Unit {0}

abbrev pub Follows : (Plan → Type 0) → World → List Event → Type 0
Follows IsJob start [] = Unit {0}
Follows IsJob start (e ∷ events) = MayAsk IsJob (replay start events) e × Follows IsJob start events

-- an attempt of the plan is done: the plan is over, and nothing is awaited
pub record IsDone (plan : Plan) (w : World) : Type 0 where
  pub over : awaits_nothing w.client.end ≡ true
  pub all : Went plan w.client.sent w.client.accepted Over

-- some events, in which the client goes through the jobs' plans, lead to a done attempt of this plan
pub record CanEndDone (IsJob : Plan → Type 0) (plan : Plan) (w : World) : Type 0 where
  pub events : List Event
  pub legal : IsLegal w events
  pub follows : Follows IsJob w events
  pub done : IsDone plan (replay w events)

-- what the device keeps is as it was, or it is stopped, or it runs the image; and where an attempt of a job is done it runs the image
pub record IsRight (IsJob : Plan → Type 0) (image : Image) (first : NonVolatile) (w : World) : Type 0 where
  pub case : OldStoppedOrImage first image w.device.kept
  pub done : (plan : Plan) → IsJob plan → IsDone plan w → runs w.device.kept ≡ Some image

-- ---- the jobs

-- a plan is good, as `GoodPlan` says it, for a device whose memories have their capacities, and can be sent
pub record IsGood (plan : Plan) (image : Image) : Type 0 where
  pub beginnings : (frames : FrameSupport) (start end : NonVolatile) → HasCapacities start → Beginning (answer_in frames) plan start end → OldStoppedOrImage start image end
  pub whole_runs : (frames : FrameSupport) (start end : NonVolatile) → HasCapacities start → WholeRun (answer_in frames) plan start end → runs end ≡ Some image
  pub sendable : IsSendable plan

-- the plans of several jobs
abbrev pub AllGood : List Plan → Image → Type 0
AllGood plans image = AllByRecursion (λ plan. IsGood plan image) plans

abbrev pub IsAmong : List Plan → Plan → Type 0
IsAmong [] plan = ⊥
IsAmong (one ∷ plans) plan = (plan ≡ one) ⊎ IsAmong plans plan

-- one plan alone
abbrev pub IsOnly : Plan → Plan → Type 0
IsOnly only plan = plan ≡ only

-- loads, or loads and checks of an image
abbrev pub IsLoad : Image → Plan → Type 0
IsLoad image = IsOnly (load_plan image)

abbrev pub IsLoadOrCheck : Image → Plan → Type 0
IsLoadOrCheck image plan = (plan ≡ load_plan image) ⊎ (plan ≡ check_plan image)

-- ---- after a done attempt

-- no service is sent
abbrev pub IsSilent : Event → Type 0
IsSilent (Asks apdu) = ⊥
IsSilent _ = Unit {0}

abbrev pub AsksNothing : List Event → Type 0
AsksNothing [] = Unit {0}
AsksNothing (e ∷ events) = IsSilent e × AsksNothing events
