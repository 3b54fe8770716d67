-- What a downloader's step answers, by the record: an end of its job is told exactly where no attempt of it runs and an entry of the log that
-- tells an end would be true; something is sent exactly where there is something to send; and it waits exactly where neither is so.
use Rattle.std.specs.Prelude.{◌≡◌, ◌⊎◌, ◌↔◌, ℕ, Bool, true, false, List}
use Rattle.knx_model.specs.declared.address.IndAddr.{IndAddr}
use Rattle.knx_model.specs.declared.log.Sign.{Sign}
use Rattle.knx_model.specs.Plans.{Plan}
use Rattle.line_model.specs.Moments.{Moment, stretches, course, session}
use Rattle.line_model.specs.Signs.{SignsHold}
use Rattle.line_model.specs.Told.{last_stretch, WentThrough, IsRefused}
use Rattle.line_model.specs.Attempts.{attempts}
use Rattle.line_model.specs.Waiting.{NextIsSending, IsResting, attempt_deadline}
use Rattle.download_core.specs.declared.did.Did.{Did}
use Rattle.download_core.specs.declared.did.Did.TheVariants as did
use Rattle.download_core.specs.Attempt.{DownloaderState}
use Rattle.download_core.specs.Calls.{phase_deadline}
use Rattle.download_core.specs.Steps.{next_did, is_send}
use Rattle.download_core.specs.Record.{FitsRecord}

-- the last session of a job, of the moments since it was taken
abbrev pub last_session : IndAddr → List Moment → List Moment
last_session device l = session (course device.raw (last_stretch (stretches device.raw l)))

-- ---- the job's end is told truly

abbrev pub TellsTruly : IndAddr → Plan → List Moment → Did → Type 0
TellsTruly device plan l (did.Send tpdu) = Unit {0}
TellsTruly device plan l did.Wait = Unit {0}
TellsTruly device plan l did.Done = WentThrough device.raw plan (last_session device l)
TellsTruly device plan l (did.Failed signs) = SignsHold device.raw signs l
TellsTruly device plan l (did.Refused op got expected) = IsRefused device.raw plan op got expected (last_session device l)

abbrev pub EndsTruly : Type 0
EndsTruly = (s : DownloaderState) (now : ℕ) (l : List Moment) → FitsRecord s now l → TellsTruly s.device s.plan l (next_did s now)

-- ---- and exactly there

abbrev pub IsFailed : IndAddr → List Moment → Type 0
IsFailed device l = (signs : List Sign) × SignsHold device.raw signs l

abbrev pub WasRefused : IndAddr → Plan → List Moment → Type 0
WasRefused device plan l = (op : ℕ) × (got expected : List ℕ) × IsRefused device.raw plan op got expected (last_session device l)

-- no attempt runs, and an end can be told
pub record IsAtEnd (device : IndAddr) (plan : Plan) (l : List Moment) : Type 0 where
  pub rests : IsResting (attempts device plan l)
  pub which : WentThrough device.raw plan (last_session device l) ⊎ (IsFailed device l ⊎ WasRefused device plan l)

abbrev pub is_end : Did → Bool
is_end (did.Send tpdu) = false
is_end did.Wait = false
is_end did.Done = true
is_end (did.Failed signs) = true
is_end (did.Refused op got expected) = true

abbrev pub EndsExactly : Type 0
EndsExactly = (s : DownloaderState) (now : ℕ) (l : List Moment) → FitsRecord s now l → (is_end (next_did s now) ≡ true) ↔ IsAtEnd s.device s.plan l

-- ---- it sends, or waits

pub record HasToSendNow (device : IndAddr) (plan : Plan) (now : ℕ) (l : List Moment) : Type 0 where
  pub next : NextIsSending (attempts device plan l) now
  pub goes_on : ¬ IsAtEnd device plan l

abbrev pub SendsExactly : Type 0
SendsExactly = (s : DownloaderState) (now : ℕ) (l : List Moment) → FitsRecord s now l → (is_send (next_did s now) ≡ true) ↔ HasToSendNow s.device s.plan now l

pub record HasToWait (device : IndAddr) (plan : Plan) (now : ℕ) (l : List Moment) : Type 0 where
  pub goes_on : ¬ IsAtEnd device plan l
  pub sends_nothing : ¬ NextIsSending (attempts device plan l) now

abbrev pub WaitsExactly : Type 0
WaitsExactly = (s : DownloaderState) (now : ℕ) (l : List Moment) → FitsRecord s now l → (next_did s now ≡ did.Wait) ↔ HasToWait s.device s.plan now l

-- ---- and its deadline is that of the attempt that runs

abbrev pub DeadlineIsExact : Type 0
DeadlineIsExact = (s : DownloaderState) (now : ℕ) (l : List Moment) → FitsRecord s now l → phase_deadline s.phase ≡ attempt_deadline (attempts s.device s.plan l)
