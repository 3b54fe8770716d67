-- What a commission of a line leaves: how its link went on, and what is told of the run. It is so over every link, and at want of memory and after a
-- fault too; what is said of a record or of events holds where the link tells them.
use Rattle.std.specs.Prelude.{◌≡◌, ◌⊎◌, ℕ, List, [], map, reverse, None, Some}
use Rattle.std.specs.List.{AllByRecursion}
use Rattle.knx_model.specs.declared.address.IndAddr.{IndAddr}
use Rattle.line_model.specs.declared.fault.HubFault.TheVariants.{NoMemory}
use Rattle.line_model.specs.declared.group.GroupTurn.{GroupTurn}
use Rattle.line_model.specs.declared.log.LogEntry.{LogEntry}
use Rattle.line_model.specs.declared.log.Report.{Report}
use Rattle.line_model.specs.declared.outside.fault_counts.FaultCounts.{FaultCounts}
use Rattle.line_model.specs.Headline.{Keeps, IsGoodJob}
use Rattle.line_model.specs.Lines.{Script}
use Rattle.line_model.specs.LinkStory.{Story, record_in}
use Rattle.line_model.specs.Polled.{after_fault}
use Rattle.line_model.specs.Log.{Job, IsLog, OneDownloaderPerDevice, TakenInOrder, AllOver, TurnUnfinished}
use Rattle.tunnel_link.specs.Goes.{GoesOn}
use Rattle.tunnel_link.specs.Rights.{WhereTold}
use Rattle.hub_work.specs.declared.job.HubJob.{HubJob}
use Rattle.hub_work.specs.Books.{AreJobsOf}
use Rattle.hub_work.specs.Downloaders.{Task, AreJobsWith}
use Rattle.hub_core.specs.Closed.{HasClosed}
use Rattle.hub_core.specs.Heard.{HeardIn}
use Rattle.hub_core.specs.Promises.{DropsIn, FaultRightIn, HastensIn, IsRightOver, IsSafeOver, LeavesOver}
use Rattle.hub_core.specs.Seats.{IsOfWorkers}
use Rattle.hub_core.specs.Seen.{tasks_seen}
use Rattle.hub_core.specs.Thorough.{IsThoroughOver}

-- the log as the definitions have it, the newest entry first
abbrev pub log_of : Report → List LogEntry
log_of report = reverse report.log

-- ---- what is told of a run by so many workers, when its link tells this and there were so many events

pub record TellsRun (workers : ℕ) (tasks : List Task) (devices : List IndAddr) (turns : List GroupTurn) (story : Story) (place : ℕ) (report : Report) : Type 0 where
  -- for any jobs with these devices and plans: the client kept its discipline and lost no time, and so what the line promises holds, of good jobs what its law says
  pub headline : (jobs : List Job) → AreJobsWith tasks jobs → Keeps jobs turns story (log_of report)
  pub safe : (jobs : List Job) → AreJobsWith tasks jobs → IsSafeOver jobs turns story (log_of report)
  pub thorough : (jobs : List Job) → AreJobsWith tasks jobs → IsThoroughOver jobs story (log_of report)
  pub hastens : (jobs : List Job) → AreJobsWith tasks jobs → HastensIn jobs turns (log_of report) story
  pub right : (jobs : List Job) → AreJobsWith tasks jobs → AllByRecursion IsGoodJob jobs → IsRightOver jobs story (log_of report)
  -- and a fault has its cause
  pub fault : (jobs : List Job) → AreJobsWith tasks jobs → FaultRightIn jobs (log_of report) report.fault (record_in story)
  pub dropped : DropsIn report.dropped (record_in story)
  -- for any jobs of these devices: the log is one of theirs, no device had two downloaders at once, each job that was taken was the first that was free,
  -- and the channel was left rightly
  pub form : (jobs : List Job) → AreJobsOf devices jobs → IsLog jobs turns place (log_of report)
  pub alone : (jobs : List Job) → AreJobsOf devices jobs → OneDownloaderPerDevice jobs (log_of report)
  pub in_order : (jobs : List Job) → AreJobsOf devices jobs → TakenInOrder jobs (log_of report)
  pub leaves : (jobs : List Job) → AreJobsOf devices jobs → LeavesOver jobs turns story (log_of report)
  pub seats : IsOfWorkers workers (log_of report)
  -- what was heard is told, in order, but for what was missed
  pub heard : HeardIn report.fault report.missed report.heard (record_in story)
  -- without a fault every job has its end, every group telegram is told, and the closing is over
  pub over : report.fault ≡ None → (jobs : List Job) → AreJobsOf devices jobs → AllOver jobs (log_of report)
  pub told : report.fault ≡ None → ¬ TurnUnfinished turns (log_of report)
  pub closed : report.fault ≡ None → WhereTold (HasClosed (log_of report)) story

-- ---- there was no memory before the first turn: nothing more is told than that

pub record WantsAtFirst (report : Report) : Type 0 where
  pub wants : report.fault ≡ Some (NoMemory tt)
  pub log : report.log ≡ []
  pub heard : report.heard ≡ []
  pub missed : report.missed ≡ 0
  pub dropped : report.dropped ≡ 0

-- ---- a commission of these jobs and group telegrams by so many workers, over a link of which this is seen, before it and when it is handed back

pub record Commissioned {L : Type 0} (story_of : L → Story) (place_of : L → ℕ) (script_of : L → Script) (faults_of : L → FaultCounts) (workers : ℕ) (hub_jobs : List HubJob) (turns : List GroupTurn) (before after : L) (report : Report) : Type 0 where
  pub grows : GoesOn (story_of before) (story_of after)
  pub script : script_of after ≡ script_of before
  -- that the link failed, or had no memory, is told exactly where one call of it did so, and no call failed else; or there was no memory before the first turn, and
  -- the link is as it was
  pub counts : (faults_of after ≡ after_fault report.fault (faults_of before)) ⊎ (WantsAtFirst report × (after ≡ before))
  pub tells : TellsRun workers (tasks_seen hub_jobs) (map (λ (job : HubJob). job.device) hub_jobs) turns (story_of after) (place_of after) report
