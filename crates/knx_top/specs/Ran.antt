-- What a run did: from where it began, over all events of the line, to what was told of it. This is the headline on `sim`: in every interleaving and
-- at every moment, whatever is lost, repeated or cut, each device has its starting content, or is stopped, or runs what the new project says; each
-- group telegram acts on exactly the objects that the running configuration links; `done` is told only where the new project's runs; no device has
-- two downloaders at once, and no tunnelling request acts twice.
use Rattle.std.specs.Prelude.{ℕ, List, [], None, Option, Some, ◌≡◌, ◌⊎◌, ◌≤◌, length}
use Rattle.line_model.specs.ActedOnce.{ActedOnce}
use Rattle.line_model.specs.Telegrams.{ActsByProject, TelegramsActRight}
use Rattle.line_model.specs.Log.{AllOver, IsLog, Job, OneDownloaderPerDevice, TakenInOrder, TurnUnfinished}
use Rattle.call_parts.specs.Jobs.{AreJobs, ArePlanned}
use Rattle.call_parts.specs.Turns.{most_turns, turns_of}
use Rattle.bus_sim.specs.Loaded.{BusNow}
use Rattle.line_model.specs.StartOf.{BusOf, nothing_kept}
use Rattle.line_model.specs.Tunnel.{Commissions}
use Rattle.line_model.specs.Follows.{Follows}
use Rattle.line_model.specs.declared.group.GroupTurn.{GroupTurn}
use Rattle.hub_core.specs.Closed.{HasClosed}
use Rattle.hub_core.specs.Commissioned.{WantsAtFirst, log_of}
use Rattle.line_model.specs.declared.fault.HubFault.{HubFault}
use Rattle.knx_model.specs.Meaning.{Installation}
use Rattle.bus_sim.specs.Ended.{IsAtEnd}
use Rattle.line_model.specs.Headline.{Keeps}
use Rattle.line_model.specs.Fresh.{IsFresh}
use Rattle.line_model.specs.Legal.{IsLegal}
use Rattle.hub_core.specs.Heard.{HeardIn}
use Rattle.hub_core.specs.Promises.{DropsIn, FaultRightIn, HastensIn, IsRightOver, LeavesOver}
use Rattle.hub_core.specs.Seats.{IsOfWorkers}
use Rattle.hub_core.specs.Thorough.{IsThoroughOver}
use Rattle.call_words.specs.declared.job_word.JobWord.{JobWord}
use Rattle.line_model.specs.LinkStory.{Full, Story, record_in}
use Rattle.line_model.specs.declared.fault.HubFault.TheVariants.{GatewayRefused, LinkFailed}
use Rattle.line_model.specs.declared.fault.Try.{Try}
use Rattle.line_model.specs.declared.log.LogEntry.{LogEntry}
use Rattle.line_model.specs.Polled.{after_fault, none_failed}
use Rattle.line_model.specs.OldStoppedOrNew.{MeansWhereDone, OldStoppedOrNew, RunsMeaning}
use Rattle.line_model.specs.declared.log.Report.{Report}
use Rattle.bus_sim.specs.RunNow.{RunNow, start}
use Rattle.knx_model.specs.declared.script.ScriptLine.{ScriptLine}
use Rattle.call_parts.specs.declared.options.SimOptions.{SimOptions}
use Rattle.call_parts.specs.Options.{workers_of}
use Rattle.call_parts.specs.OptionValues.{most_jobs}
use Rattle.line_model.specs.Lines.{script_of}
use Rattle.tunnel_link.specs.Rights.{WhereTold}
use Rattle.knx_top.specs.Undisturbed.{IsUndisturbed, NothingFails}

-- ---- what a run is begun with

-- what a run is begun with: NEW, OLD, the lines of the script, and the options and jobs of the words; and how many workers drive the hub, and which group
-- telegrams are sent
pub record Commission : Type 0 where
  pub project : Installation
  pub before : Installation
  pub script : List ScriptLine
  pub options : SimOptions
  pub workers : ℕ
  pub turns : List GroupTurn

-- as many workers drive the hub as the words say, and the group telegrams of the script are sent
abbrev pub commission_of : Installation → Installation → List ScriptLine → SimOptions → Commission
commission_of project before script options = record { project = project; before = before; script = script; options = options; workers = workers_of options; turns = turns_of script }

-- ---- the premises: the line began as it is stated, and what happened is what may happen and what the script says

pub record IsRunOf (c : Commission) (r : RunNow) : Type 0 where
  pub begins : BusOf c.project c.before (script_of c.script) nothing_kept (start r)
  pub fresh : IsFresh (start r)
  pub legal : IsLegal Commissions (start r) r.events
  pub follows : Follows (script_of c.script) Commissions (start r) r.events

-- ---- the headline

pub record KeepsPromises (c : Commission) (jobs : List Job) (r : RunNow) (log : List LogEntry) : Type 0 where
  -- whatever is lost, repeated or cut, at every moment each device keeps its starting content, or is stopped, or runs what the new project says
  pub devices : OldStoppedOrNew (RunsMeaning c.project) jobs (start r) r.events log
  -- each group telegram acts on exactly the objects that the running configuration links
  pub telegrams : TelegramsActRight (ActsByProject nothing_kept c.before c.project) (start r) r.events
  -- done is told only where what the new project says runs
  pub done : MeansWhereDone c.project jobs (start r) r.events log
  -- no tunnelling request acts twice
  pub once : ActedOnce (start r) r.events

-- ---- what is told, over any link

-- refused connects are told of three tries
abbrev pub HasThreeTries : Option HubFault → Type 0
HasThreeTries fault = (tries : List Try) → fault ≡ Some (GatewayRefused tries) → length tries ≡ 3

-- all that is told of a run by so many workers, with these jobs and group telegrams, by what its link told: its events, or its record, or nothing
pub record IsToldOver (workers : ℕ) (turns : List GroupTurn) (jobs : List Job) (story : Story) (report : Report) : Type 0 where
  -- the client keeps the discipline of the line, and so the headline holds: no device has two downloaders at once, the log tells no end that the record doesn't
  -- show, and all that is sent is right
  pub keeps : Keeps jobs turns story (log_of report)
  pub right : IsRightOver jobs story (log_of report)
  -- it loses no time, so far as its link's clock allows to say: a poll lasts at most 100 ms, a heartbeat is in time, and no time passes while a job that has
  -- begun has something to send that can be sent; and it goes on only where there is no cause to end
  pub hastens : HastensIn jobs turns (log_of report) story
  -- an end is told only where no attempt of its job runs, no attempt begins once the last one has decided the job, and each loss of the channel is
  -- followed by what is due to the gateway then, and by nothing more
  pub thorough : IsThoroughOver jobs story (log_of report)
  -- the open channel isn't asked to end before all jobs are over, and then once, after the listening
  pub leaves : LeavesOver jobs turns story (log_of report)
  -- a fault has its cause in the record, want of memory and a failed link aside, whose cause the link tells, and refused connects are told of three tries; without
  -- a fault there is none in the end, every job has its end, every group telegram is told, and the closing is over
  pub fault : FaultRightIn jobs (log_of report) report.fault (record_in story)
  pub tries : HasThreeTries report.fault
  pub ended : report.fault ≡ None → AllOver jobs (log_of report)
  pub sent : report.fault ≡ None → ¬ TurnUnfinished turns (log_of report)
  pub closed : report.fault ≡ None → WhereTold (HasClosed (log_of report)) story
  -- over every link the log is one of the jobs, no device has two downloaders at once, and each job that was taken was the first that was free
  pub place : ℕ
  pub form : IsLog jobs turns place (log_of report)
  pub alone : OneDownloaderPerDevice jobs (log_of report)
  pub in_order : TakenInOrder jobs (log_of report)
  -- what was done was done by one of the workers, or by the group thread
  pub seats : IsOfWorkers workers (log_of report)
  -- what was heard is told, in order, but for what was missed; and what was dropped, a number of 64 bits, which stands still at its greatest
  pub heard : HeardIn report.fault report.missed report.heard (record_in story)
  pub dropped : DropsIn report.dropped (record_in story)

-- ---- all of it

-- a run that has begun, whether it ends or not, with its jobs, as their words and with their plans, and its report; there are at most 1,024 jobs, and at most
-- 65,536 group telegrams
pub record Ran (c : Commission) (r : RunNow) (report : Report) (words : List JobWord) : Type 0 where
  pub run : IsRunOf c r
  pub words_are : AreJobs c.options.jobs c.project words
  pub jobs : List Job
  pub planned : ArePlanned c.project jobs words
  pub few_jobs : length jobs ≤ most_jobs
  pub few_turns : length c.turns ≤ most_turns
  pub promises : KeepsPromises c jobs r (log_of report)
  -- the simulated line tells its start and its events
  pub told : IsToldOver c.workers c.turns jobs (Full (start r) r.events) report
  -- Where no line of the script disturbs, and the jobs' devices are on the line, nothing fails, and the run isn't broken off but for want of memory, by a
  -- flood of datagrams where a group telegram asks for values, or at the last time of 64 bits: each load is told done, each check done exactly where an
  -- earlier job loads its device or its device began with the new image, and each group telegram sent.
  pub undisturbed : IsUndisturbed c.project c.before c.script jobs → NothingFails jobs c.turns r (log_of report) report.fault

-- ---- what a call leaves of it

-- what a call leaves: the simulated line, and the report of the run, where the call began one
pub record Left : Type 0 where
  pub line : BusNow
  pub report : Option Report

-- ---- the counts of its link

-- That the line failed, or had no memory, is told exactly where one call of it did so, and no other call failed; the counts are 0 where a run begins. It fails only at
-- the end of a run, which is the last time of 64 bits, 2^64 - 1 ms after it began. Or there was no memory before the first turn, and nothing has happened.
pub record CountsOnLine (report : Report) (after : BusNow) : Type 0 where
  pub counts : (after.faults ≡ after_fault report.fault none_failed) ⊎ (WantsAtFirst report × (after.run.events ≡ []) × (after.faults ≡ none_failed))
  pub last : report.fault ≡ Some LinkFailed → IsAtEnd after.run

abbrev pub FaultsOfLine : Option Report → BusNow → Type 0
FaultsOfLine None after = Unit {0}
FaultsOfLine (Some report) after = CountsOnLine report after
