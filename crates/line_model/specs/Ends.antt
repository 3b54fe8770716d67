-- How the attempts of a job end, by record and log (this project's own): the job's end is told only where no attempt of it runs, and once its plan
-- went through, or an answer was refused, no further attempt of it begins.
use Rattle.std.specs.Prelude.{◌≡◌, ℕ, List, [], ◌∷◌, Some}
use Rattle.knx_model.specs.declared.connection.TransportFrame.TheVariants.{Connect}
use Rattle.line_model.specs.declared.log.LogEntry.{LogEntry}
use Rattle.line_model.specs.declared.log.LogWhat.{LogWhat}
use Rattle.line_model.specs.declared.log.LogWhat.TheVariants.{Took, Done, Failed, Refused, Sent, Lost}
use Rattle.line_model.specs.Record.{Placed}
use Rattle.line_model.specs.Moments.{Moment, put_to}
use Rattle.line_model.specs.Log.{Job, job_of, state_of, log_before}
use Rattle.line_model.specs.Told.{session_since, WentThrough, IsRefused, OfJob}
use Rattle.line_model.specs.Asks.{moment_of}
use Rattle.line_model.specs.Waiting.{IsHeldJob, attempts_of, IsResting}

-- ---- an entry that ends a job stands where no attempt of it runs

abbrev pub IsAtRest : List Job → List Placed → List LogEntry → ℕ → ℕ → Type 0
IsAtRest jobs places log at k = OfJob (λ job since. IsResting (attempts_of job since at places)) (job_of jobs k) (state_of k log)

abbrev pub EndsSo : List Job → List Placed → List LogEntry → ℕ → LogWhat → Type 0
EndsSo jobs places log at (Took k) = Unit {0}
EndsSo jobs places log at (Done k) = IsAtRest jobs places log at k
EndsSo jobs places log at (Failed k signs) = IsAtRest jobs places log at k
EndsSo jobs places log at (Refused k op got expected) = IsAtRest jobs places log at k
EndsSo jobs places log at (Sent k) = Unit {0}
EndsSo jobs places log at (Lost k) = Unit {0}

abbrev pub EndsAtRest : List Job → List Placed → List LogEntry → Type 0
EndsAtRest jobs places [] = Unit {0}
EndsAtRest jobs places (e ∷ log) = EndsSo jobs places log e.at e.what × EndsAtRest jobs places log

-- ---- a T_Connect for a job that is held is put only where its last session, if there is one, is undecided

-- the plan didn't go through in it, and none of its answers is a refused one
pub record IsUndecided (job : Job) (since at : ℕ) (places : List Placed) : Type 0 where
  pub not_through : ¬ WentThrough job.device.raw job.plan (session_since job.device.raw since at places)
  pub not_refused : (op : ℕ) (got expected : List ℕ) → ¬ IsRefused job.device.raw job.plan op got expected (session_since job.device.raw since at places)

abbrev pub BeginsSo : List Job → List LogEntry → List Placed → Moment → Type 0
BeginsSo jobs log older m = (k since : ℕ) (job : Job) → IsHeldJob jobs log k job since → put_to job.device.raw m.what ≡ Some Connect → IsUndecided job since m.at older

abbrev pub BeginsUndecided : List Job → List LogEntry → List Placed → Type 0
BeginsUndecided jobs log [] = Unit {0}
BeginsUndecided jobs log (p ∷ older) = BeginsSo jobs (log_before p.at log) older (moment_of older p) × BeginsUndecided jobs log older
