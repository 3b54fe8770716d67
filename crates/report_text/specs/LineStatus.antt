-- The status that a run over the line ends with (this project's own): where it ended without a fault, whether its log holds a job that failed or was
-- refused; else its fault's.
use Rattle.std.specs.Prelude.{◌≡◌, ◌≢◌, ◌↔◌, ℕ, Bool, true, false, ◌==◌, List, reverse, Option, Some, None, if◌then◌else◌}
use Rattle.std.specs.List.{list_any}
use Rattle.call_words.specs.declared.status.Status.{Status}
use Rattle.call_words.specs.declared.status.Status.TheVariants as status
use Rattle.line_model.specs.declared.fault.HubFault.{HubFault}
use Rattle.line_model.specs.declared.fault.HubFault.TheVariants as fault
use Rattle.line_model.specs.declared.group.GroupTurn.{GroupTurn}
use Rattle.line_model.specs.declared.log.LogEntry.{LogEntry}
use Rattle.line_model.specs.declared.log.LogWhat.{LogWhat}
use Rattle.line_model.specs.declared.log.LogWhat.TheVariants.{Done, Failed, Refused}
use Rattle.line_model.specs.declared.log.Report.{Report}
use Rattle.line_model.specs.Log.{Job, job_of, IsLog, AllOver}

-- a job's three attempts ended, or an answer differed
abbrev pub is_failure : LogWhat → Bool
is_failure (Failed job signs) = true
is_failure (Refused job op got expected) = true
is_failure _ = false

abbrev pub has_failure : List LogEntry → Bool
has_failure log = list_any (λ (e : LogEntry). is_failure e.what) log

abbrev pub fault_status : HubFault → Status
fault_status (fault.NoMemory want) = status.NoMemory want
fault_status fault.LinkFailed = status.Link
fault_status (fault.GatewayRefused tries) = status.GatewayRefused
fault_status fault.Flooded = status.Flooded
fault_status (fault.WrongLine device tunnel) = status.WrongLine

abbrev pub status_of : Option HubFault → List LogEntry → Status
status_of None log = if has_failure log then status.SomeFailed else status.Done
status_of (Some why) log = fault_status why

abbrev pub line_status : Report → Status
line_status report = status_of report.fault report.log

-- ---- a law of it, in the words of the log

abbrev pub is_done : ℕ → LogWhat → Bool
is_done job (Done k) = k == job
is_done job _ = false

abbrev pub tells_done : ℕ → List LogEntry → Bool
tells_done job log = list_any (λ (e : LogEntry). is_done job e.what) log

abbrev pub EachDone : List Job → List LogEntry → Type 0
EachDone jobs log = (job : ℕ) → job_of jobs job ≢ None → tells_done job log ≡ true

-- of a run whose jobs are over where it ended without a fault: it is done exactly where it ended so and its log tells done of each job
abbrev pub DoneExactly : Type 0
DoneExactly =
    (jobs : List Job) (turns : List GroupTurn) (count : ℕ) (log : List LogEntry) (report : Report)
    → report.log ≡ reverse log → IsLog jobs turns count log → (report.fault ≡ None → AllOver jobs log)
    → (line_status report ≡ status.Done) ↔ ((report.fault ≡ None) × EachDone jobs report.log)
