-- What a run comes to, whose hub began so: its link goes on and keeps its script; that it failed, or had no memory, is told exactly where one call of it did so, or
-- there was no memory for a cell, and nothing was done; what is told is told of the hub's jobs and telegrams and of as many workers as it had.
use Rattle.std.specs.Prelude.{◌≡◌, ◌⊎◌, ℕ, List, length}
use Rattle.knx_model.specs.declared.address.IndAddr.{IndAddr}
use Rattle.line_model.specs.declared.log.LogEntry.{LogEntry}
use Rattle.line_model.specs.declared.log.Report.{Report}
use Rattle.line_model.specs.declared.outside.fault_counts.FaultCounts.{FaultCounts}
use Rattle.line_model.specs.Lines.{Script}
use Rattle.line_model.specs.LinkStory.{Story}
use Rattle.line_model.specs.Log.{Job}
use Rattle.line_model.specs.Polled.{after_fault}
use Rattle.line_model.specs.Watched.{EachShown, Notice, SinceThen, Watch, Watches}
use Rattle.tunnel_link.specs.Goes.{GoesOn}
use Rattle.tunnel_link.specs.Rights.{WhereTold}
use Rattle.hub_work.specs.Downloaders.{AreJobsWith, Task}
use Rattle.hub_core.specs.Commissioned.{TellsRun, WantsAtFirst, log_of}
use Rattle.hub_core.specs.Seen.{Seen, tasks_seen}

pub record RunsOf {L : Type 0} (story_of : L → Story) (place_of : L → ℕ) (script_of : L → Script) (faults_of : L → FaultCounts) (opening : Seen L) (after : L) (report : Report) : Type 0 where
  pub grows : GoesOn (story_of opening.link) (story_of after)
  pub script : script_of after ≡ script_of opening.link
  pub counts : (faults_of after ≡ after_fault report.fault (faults_of opening.link)) ⊎ (WantsAtFirst report × (after ≡ opening.link))
  pub tells : TellsRun (length opening.crew) (tasks_seen opening.jobs) opening.devices opening.turns (story_of after) (place_of after) report

-- who watched was told the log and true reports, since the run began, and nothing else; where the link tells its record, it shows what was reported
pub record WatchesSo (tasks : List Task) (story : Story) (devices : List IndAddr) (log : List LogEntry) (notices : List Notice) : Type 0 where
  pub watches : Watches devices log notices
  pub shown : (jobs : List Job) → AreJobsWith tasks jobs → WhereTold (λ places. EachShown jobs places notices) story

abbrev pub WatchesRun : List Task → Story → List IndAddr → Watch → Watch → Report → Type 0
WatchesRun tasks story devices before after report = SinceThen (WatchesSo tasks story devices (log_of report)) before after
