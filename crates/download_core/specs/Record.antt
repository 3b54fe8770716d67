-- A downloader fits the record: of all moments since its job was taken, the newest first, it knows the attempts of the job as the line's view has
-- them; the sign of each attempt that failed holds in its stretch; and of the last attempt it knows the session, or what it came to, which the
-- record shows too.
use Rattle.std.specs.Prelude.{◌≡◌, ◌≢◌, ℕ, List, [], ◌∷◌, None}
use Rattle.knx_model.specs.declared.log.Sign.{Sign}
use Rattle.knx_model.specs.ClientConnection.{ClientEnd, Asked, Up, Asking, Awaiting, Ended as NoConnection}
use Rattle.knx_model.specs.GoodPlan.{IsSendable}
use Rattle.knx_model.specs.Plans.{Plan, Over}
use Rattle.line_model.specs.Moments.{Moment, stretches, Course, Unconfirmed, WithError, InSession, Left, course, session}
use Rattle.line_model.specs.Signs.{Holds, EachHolds}
use Rattle.line_model.specs.Told.{WentThrough, IsRefused}
use Rattle.line_model.specs.Attempts.{attempts}
use Rattle.download_core.specs.declared.flight.Flight.TheVariants.{Frame}
use Rattle.download_core.specs.declared.outcome.Outcome.{Outcome}
use Rattle.download_core.specs.declared.outcome.Outcome.TheVariants.{Failed, Done, Refused}
use Rattle.download_core.specs.declared.signs.Signs.{Signs}
use Rattle.download_core.specs.declared.signs.Signs.TheVariants.{Zero, One, Two}
use Rattle.download_core.specs.Attempt.{Next, Attempt, Phase, Resting, Running, Closing, Leaving, Ended, DownloaderState}
use Rattle.download_core.specs.Fits.{Fits}
use Rattle.download_core.specs.InSession.{SessionFits}

-- the newest first
abbrev pub signs_of : Signs → List Sign
signs_of Zero = []
signs_of (One first) = first ∷ []
signs_of (Two first second) = second ∷ first ∷ []

-- ---- an attempt that runs, by what came of its T_Connect

abbrev pub IsAsked : ClientEnd → Type 0
IsAsked (Asked to) = Unit {0}
IsAsked (Up s) = ⊥
IsAsked (Asking s q) = ⊥
IsAsked (Awaiting s) = ⊥
IsAsked NoConnection = ⊥

-- its T_Connect isn't confirmed
pub record HasBegun (plan : Plan) (a : Attempt) : Type 0 where
  pub asked : IsAsked a.conn
  pub flight : a.flight ≡ Frame
  pub sent : a.sent ≡ 0
  pub last : a.last ≡ 0
  pub standing : a.standing ≡ Next plan
  pub wrong : a.wrong ≡ None

abbrev pub RunFits : ℕ → Plan → Attempt → Course → Type 0
RunFits device plan a Unconfirmed = HasBegun plan a
RunFits device plan a WithError = ⊥
RunFits device plan a (InSession l) = SessionFits device plan a l
RunFits device plan a (Left l) = ⊥

-- ---- an attempt that came to its end: nothing that comes later counts

abbrev pub IsFinal : Course → Type 0
IsFinal Unconfirmed = ⊥
IsFinal WithError = Unit {0}
IsFinal (InSession l) = ⊥
IsFinal (Left l) = Unit {0}

-- neither did the plan go through nor was an answer refused
pub record IsUnfinished (device : ℕ) (plan : Plan) (l : List Moment) : Type 0 where
  pub goes_on : ¬ WentThrough device plan l
  pub agrees : (op : ℕ) (got expected : List ℕ) → ¬ IsRefused device plan op got expected l

-- what the stretch shows
abbrev pub Shows : ℕ → Plan → Outcome → List Moment → Type 0
Shows device plan (Failed sign) stretch = Holds device sign stretch × IsUnfinished device plan (session (course device stretch))
Shows device plan Done stretch = WentThrough device plan (session (course device stretch))
Shows device plan (Refused wrong) stretch = IsRefused device plan wrong.op wrong.got wrong.expected (session (course device stretch))

pub record CameTo (device : ℕ) (plan : Plan) (outcome : Outcome) (stretch : List Moment) : Type 0 where
  pub final : IsFinal (course device stretch)
  pub shows : Shows device plan outcome stretch

-- ---- the whole

-- the last stretch is the last attempt's, and in each before it the sign holds that was kept
abbrev pub LastFits : (List Moment → Type 0) → ℕ → Signs → List (List Moment) → Type 0
LastFits P device signs [] = ⊥
LastFits P device signs (stretch ∷ past) = P stretch × EachHolds device (signs_of signs) past

abbrev pub PhaseFits : ℕ → Plan → Signs → Phase → List (List Moment) → Type 0
PhaseFits device plan signs Resting xs = xs ≡ []
PhaseFits device plan signs (Running a) xs = LastFits (λ x. RunFits device plan a (course device x)) device signs xs
PhaseFits device plan signs (Closing flight outcome) xs = LastFits (CameTo device plan outcome) device signs xs
PhaseFits device plan signs (Leaving outcome) xs = LastFits (CameTo device plan outcome) device signs xs
PhaseFits device plan signs (Ended outcome) xs = LastFits (CameTo device plan outcome) device signs xs

-- the time of the newest
abbrev pub IsTime : ℕ → List Moment → Type 0
IsTime now [] = Unit {0}
IsTime now (m ∷ l) = m.now ≡ now

-- `l` are the moments since the job was taken, the newest first, and the last of them was at this time
pub record FitsRecord (s : DownloaderState) (now : ℕ) (l : List Moment) : Type 0 where
  pub job : Fits s (attempts s.device s.plan l)
  pub shown : PhaseFits s.device.raw s.plan s.signs s.phase (stretches s.device.raw l)
  pub time : IsTime now l
  pub sendable : IsSendable s.plan
  pub begins : s.plan ≢ Over
