-- How the jobs end on a calm line: each that is over was told done or refused, and one that a device answers wholly, whatever it keeps, as it does a load, was told done.
use Rattle.std.specs.Prelude.{◌≡◌, ◌⊎◌, ℕ, List, [], ◌∷◌, Some}
use Rattle.knx_model.specs.declared.device.FrameSupport.{FrameSupport}
use Rattle.knx_model.specs.Device.{NonVolatile, HasCapacities, answer_in}
use Rattle.knx_model.specs.GoodPlan.{AnswersAll}
use Rattle.line_model.specs.declared.log.LogEntry.{LogEntry}
use Rattle.line_model.specs.declared.log.LogWhat.{LogWhat}
use Rattle.line_model.specs.declared.log.LogWhat.TheVariants.{Done, Refused}
use Rattle.line_model.specs.Log.{Job, Over, job_of, state_of}

-- ---- the jobs

abbrev pub IsAnsweredJob : Job → Type 0
IsAnsweredJob job = (frames : FrameSupport) (nv : NonVolatile) → HasCapacities nv → AnswersAll (answer_in frames) job.plan nv

-- ---- what was told

-- an entry of the log tells so
abbrev pub Told : (LogWhat → Type 0) → List LogEntry → Type 0
Told P [] = ⊥
Told P (e ∷ log) = P e.what ⊎ Told P log

abbrev pub IsToldDone : ℕ → List LogEntry → Type 0
IsToldDone k log = Told (λ what. what ≡ Done k) log

abbrev pub IsToldRefused : ℕ → List LogEntry → Type 0
IsToldRefused k log = Told (λ what. (op : ℕ) × (got : List ℕ) × (expected : List ℕ) × (what ≡ Refused k op got expected)) log

pub record EndWell (jobs : List Job) (log : List LogEntry) : Type 0 where
  pub each : (k : ℕ) (job : Job) → job_of jobs k ≡ Some job → state_of k log ≡ Over → IsToldDone k log ⊎ IsToldRefused k log
  pub answered : (k : ℕ) (job : Job) → job_of jobs k ≡ Some job → IsAnsweredJob job → state_of k log ≡ Over → IsToldDone k log
