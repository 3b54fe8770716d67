-- What makes a plan good, said by its runs: whatever a device held before, any beginning of the plan leaves it as it was, or stopped, or
-- with the image, and all of it leaves the image. A run here is of one device, whose answers are a function of what it keeps.
use Rattle.std.specs.Prelude.{ℕ, ◌≡◌, Bool, true, false, List, [], ◌∷◌, Option, Some, None, ◌⊎◌}
use Rattle.knx_model.specs.declared.config.Image.{Image}
use Rattle.knx_model.specs.declared.device.FrameSupport.{FrameSupport}
use Rattle.knx_model.specs.declared.plan.Expect.{Expect}
use Rattle.knx_model.specs.declared.plan.Expect.TheVariants.{AckOnly, Is, Note}
use Rattle.knx_model.specs.Connection.{IsApdu}
use Rattle.knx_model.specs.ClientConnection.{has_answer}
use Rattle.knx_model.specs.Device.{NonVolatile, runs, whole, effect_in, answer_in}
use Rattle.knx_model.specs.DeviceFrames.{Outcome, Whole, Torn, Worn, kept_after}
use Rattle.knx_model.specs.Plans.{Plan, Over, Asks, Suits}

-- what a device answers to a service, by its octets, while it keeps this
abbrev pub Answering : Type 0
Answering = NonVolatile → List ℕ → Option (List ℕ)

-- what a device keeps after it took a service in this way
abbrev pub kept_by : NonVolatile → List ℕ → Outcome → NonVolatile
kept_by nv apdu outcome = kept_after nv (effect_in apdu) outcome

abbrev pub IsNotTorn : Outcome → Type 0
IsNotTorn Whole = Unit {0}
IsNotTorn (Worn octets) = Unit {0}
IsNotTorn (Torn fresh octets) = ⊥

-- A beginning of a plan leads from what is kept first to what is kept last: nothing is begun; or the first operation is taken in any way,
-- and is the last; or it is taken whole or worn and answered as wanted, and then comes a beginning of the plan that follows.
pub data Beginning (answers : Answering) : Plan → NonVolatile → NonVolatile → Type 0 where
  NotBegun : (plan : Plan) (nv : NonVolatile) → Beginning answers plan nv nv
  Last : (place : ℕ) (apdu : List ℕ) (expect : Expect) (next : Option (List ℕ) → Plan) (nv : NonVolatile) (outcome : Outcome) → Beginning answers (Asks place apdu expect next) nv (kept_by nv apdu outcome)
  Then : (place : ℕ) (apdu : List ℕ) (expect : Expect) (next : Option (List ℕ) → Plan) (nv : NonVolatile) (outcome : Outcome) (end : NonVolatile)
      → IsNotTorn outcome → Suits apdu expect (answers nv apdu) → Beginning answers (next (answers nv apdu)) (kept_by nv apdu outcome) end → Beginning answers (Asks place apdu expect next) nv end

-- a whole run: each operation is taken whole or worn and answered as wanted, until the plan is over
pub data WholeRun (answers : Answering) : Plan → NonVolatile → NonVolatile → Type 0 where
  AtEnd : (nv : NonVolatile) → WholeRun answers Over nv nv
  Goes : (place : ℕ) (apdu : List ℕ) (expect : Expect) (next : Option (List ℕ) → Plan) (nv : NonVolatile) (outcome : Outcome) (end : NonVolatile)
      → IsNotTorn outcome → Suits apdu expect (answers nv apdu) → WholeRun answers (next (answers nv apdu)) (kept_by nv apdu outcome) end → WholeRun answers (Asks place apdu expect next) nv end

-- the content is as it was at the start, or the device doesn't run, or it runs the image
abbrev pub OldStoppedOrImage : NonVolatile → Image → NonVolatile → Type 0
OldStoppedOrImage start image nv = (nv ≡ start) ⊎ ((runs nv ≡ None) ⊎ (runs nv ≡ Some image))

pub record GoodPlan (plan : Plan) (image : Image) : Type 0 where
  pub beginnings : (frames : FrameSupport) (start end : NonVolatile) → Beginning (answer_in frames) plan start end → OldStoppedOrImage start image end
  pub whole_runs : (frames : FrameSupport) (start end : NonVolatile) → WholeRun (answer_in frames) plan start end → runs end ≡ Some image

-- ---- a plan that is given to a device that nothing disturbs: each operation is taken whole

-- from nv on each operation is answered as wanted
abbrev pub AnswersAll : Answering → Plan → NonVolatile → Type 0
AnswersAll answers Over nv = Unit {0}
AnswersAll answers (Asks place apdu expect next) nv = Suits apdu expect (answers nv apdu) × AnswersAll answers (next (answers nv apdu)) (whole nv (effect_in apdu))

-- what is kept after all operations
abbrev pub kept_by_all : Answering → Plan → NonVolatile → NonVolatile
kept_by_all answers Over nv = nv
kept_by_all answers (Asks place apdu expect next) nv = kept_by_all answers (next (answers nv apdu)) (whole nv (effect_in apdu))

-- the services that are given, in order
abbrev pub services_given : Answering → Plan → NonVolatile → List (List ℕ)
services_given answers Over nv = []
services_given answers (Asks place apdu expect next) nv = apdu ∷ services_given answers (next (answers nv apdu)) (whole nv (effect_in apdu))

-- ---- what a client can send

abbrev pub awaits_answer : Expect → Bool
awaits_answer AckOnly = false
awaits_answer (Is wanted) = true
awaits_answer Note = true

-- each operation is an APDU with transport bits 0, and awaits an answer exactly where its service has one
abbrev pub IsSendable : Plan → Type 0
IsSendable Over = Unit {0}
IsSendable (Asks place apdu expect next) = IsApdu apdu × (awaits_answer expect ≡ has_answer apdu) × ((answer : Option (List ℕ)) → IsSendable (next answer))
