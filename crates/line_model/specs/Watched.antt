-- What a watcher is told of a run: each entry of the log, in the very turn in which it is made, and how far the jobs are that workers hold, at most once a
-- second of each. A watcher that tells nothing of itself, as a terminal, was told the same. The newest first.
use Rattle.std.specs.Prelude.{◌≡◌, ℕ, ◌+◌, ◌≤◌, ◌==◌, List, [], ◌∷◌, ◌++◌, reverse, if◌then◌else◌, Option, Some, None}
use Rattle.knx_model.specs.declared.address.IndAddr.{IndAddr}
use Rattle.knx_model.specs.Plans.{Plan}
use Rattle.line_model.specs.declared.log.LogEntry.{LogEntry}
use Rattle.line_model.specs.declared.outside.watcher.JobProgress.{JobProgress}
use Rattle.line_model.specs.Log.{Job, Held, job_of, numbered_from_one, state_of}
use Rattle.line_model.specs.Moments.{answers}
use Rattle.line_model.specs.Progress.{Reaches}
use Rattle.line_model.specs.Record.{Placed}
use Rattle.line_model.specs.Told.{OfJob, session_since}

-- ---- what it was told

pub data Notice : Type 0 where
  Logged : LogEntry → Notice
  Reported : JobProgress → Notice

pub data Watch : Type 0 where
  Untold : Watch
  Told : List Notice → Watch

abbrev pub Tells : Notice → Watch → Watch → Type 0
Tells notice Untold after = after ≡ Untold
Tells notice (Told notices) after = after ≡ Told (notice ∷ notices)

-- where there may be no watcher
abbrev pub watch_in : {W : Type 0} → (W → Watch) → Option W → Watch
watch_in watch None = Untold
watch_in watch (Some w) = watch w

-- ---- the entries of the log that it was told

abbrev pub entries_in : List Notice → List LogEntry
entries_in [] = []
entries_in (Logged e ∷ notices) = e ∷ entries_in notices
entries_in (Reported p ∷ notices) = entries_in notices

-- ---- what it is told of a job is true: it is a job of this device, by the entries before it the worker holds it, and not more is done than all

pub record IsRunning (devices : List IndAddr) (log : List LogEntry) (p : JobProgress) : Type 0 where
  pub device : numbered_from_one devices p.job ≡ Some p.device
  pub since : ℕ
  pub held : state_of p.job log ≡ Held p.worker since
  pub within : p.done ≤ p.all

abbrev pub EachRuns : List IndAddr → List Notice → Type 0
EachRuns devices [] = Unit {0}
EachRuns devices (Logged e ∷ notices) = EachRuns devices notices
EachRuns devices (Reported p ∷ notices) = IsRunning devices (entries_in notices) p × EachRuns devices notices

-- and by the record so many operations of its plan are over in the session that runs: with the answers that were taken the plan has gone so far
abbrev pub HasGone : ℕ → Plan → ℕ → ℕ → ℕ → List Placed → Type 0
HasGone device plan done since upto places = (left : Plan) × Reaches plan done (reverse (answers device (session_since device since upto places))) left

abbrev pub ShowsProgress : List Job → List Placed → List LogEntry → JobProgress → Type 0
ShowsProgress jobs places log p = OfJob (λ j since. HasGone j.device.raw j.plan p.done since p.at places) (job_of jobs p.job) (state_of p.job log)

abbrev pub EachShown : List Job → List Placed → List Notice → Type 0
EachShown jobs places [] = Unit {0}
EachShown jobs places (Logged e ∷ notices) = EachShown jobs places notices
EachShown jobs places (Reported p ∷ notices) = ShowsProgress jobs places (entries_in notices) p × EachShown jobs places notices

-- ---- at most once a second of each job

-- when the job was told of last
abbrev pub last_told : ℕ → List Notice → Option ℕ
last_told job [] = None
last_told job (Logged e ∷ notices) = last_told job notices
last_told job (Reported p ∷ notices) = if p.job == job then Some p.now else last_told job notices

abbrev pub second : ℕ
second = 1000

abbrev pub ASecondAfter : ℕ → Option ℕ → Type 0
ASecondAfter now None = Unit {0}
ASecondAfter now (Some before) = before + second ≤ now

abbrev pub IsPaced : List Notice → Type 0
IsPaced [] = Unit {0}
IsPaced (Logged e ∷ notices) = IsPaced notices
IsPaced (Reported p ∷ notices) = ASecondAfter p.now (last_told p.job notices) × IsPaced notices

-- ---- a run over jobs of these devices that has made this log: nothing but that, whatever the watcher was told before the run

pub record Watches (devices : List IndAddr) (log : List LogEntry) (notices : List Notice) : Type 0 where
  pub entries : entries_in notices ≡ log
  pub runs : EachRuns devices notices
  pub paced : IsPaced notices

-- P of what it was told between these
abbrev pub SinceThen : (List Notice → Type 0) → Watch → Watch → Type 0
SinceThen P Untold after = after ≡ Untold
SinceThen P (Told before) after = (notices : List Notice) × (after ≡ Told (notices ++ before)) × P notices
