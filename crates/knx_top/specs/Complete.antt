-- What valid input comes to: where the files of `check`, `tables` or `migrate` are told, or the word of `decode` is one of octets, and no count rose, the
-- whole text is written with status 0, or there was no memory. So it is with `sim` and `big`: a run is begun, and the whole text of its report, or of its sums,
-- is written with its status. And where nothing disturbs a run of `sim`, all is served, and the status is 0 or 1. Nothing disturbs a run of `big`: each device
-- that is made is loaded, and runs what the project says. With `download` and `gateway` what the words name is dialled or bound, once; where that fails, that is
-- told, and else the whole of what came of it, with its status.
use Rattle.std.specs.Prelude.{ℕ, ◌≡◌, ◌*◌, ◌<◌, ◌⊎◌, true, List, take, Option, Some, None}
use Rattle.std.specs.List.{AllByRecursion}
use Rattle.bus_sim.specs.Ended.{IsAtEnd}
use Rattle.bus_sim.specs.RunNow.{RunNow, start}
use Rattle.call_words.specs.Sums.{sums_line}
use Rattle.call_words.specs.declared.job_word.JobWord.{JobWord}
use Rattle.call_words.specs.declared.status.Status.{Status}
use Rattle.call_words.specs.declared.status.Status.TheVariants as status
use Rattle.knx_model.specs.declared.counts.Counts.{Counts}
use Rattle.knx_model.specs.Outside.{FileContent, FilesNow, SinkNow, Untold, Absent, Holds, Rose, Wrote}
use Rattle.line_model.specs.Dialled.{Address, DialerNow, FailsToOpen}
use Rattle.line_model.specs.declared.group.GroupTurn.{GroupTurn}
use Rattle.line_model.specs.declared.log.Report.{Report}
use Rattle.bus_sim.specs.Loaded.{BusNow}
use Rattle.calm_law.specs.CalmCounts.{some_reads}
use Rattle.line_model.specs.Faults.{datagrams_taken, flood}
use Rattle.line_model.specs.Lines.{script_of}
use Rattle.line_model.specs.Log.{Job}
use Rattle.line_model.specs.Record.{record_of}
use Rattle.line_model.specs.StartOf.{is_on_bus}
use Rattle.line_model.specs.Undisturbed as line
use Rattle.report_text.specs.LineStatus.{line_status}
use Rattle.call_parts.specs.Ending.{end_text, service_status, service_text}
use Rattle.call_parts.specs.Jobs.{AreJobs, ArePlanned}
use Rattle.hub_core.specs.Commissioned.{log_of}
use Rattle.knx_top.specs.Ran.{Commission, Left}
use Rattle.knx_top.specs.Undisturbed.{AllServed}
use Rattle.knx_top.specs.commands.big.{BigWords}
use Rattle.call_parts.specs.Project.{ProjectWords, project_tests}
use Rattle.knx_top.specs.commands.download.{DialledRun, Download, DownloadWords, download_tests, project_named}
use Rattle.knx_top.specs.commands.gateway.{GatewayWords, ServedRun, Service, gateway_tests}
use Rattle.knx_top.specs.commands.sim.{IsReported, SimWords, sim_tests}
use Rattle.knx_top.specs.declared.commands.gateway.GatewayTexts.{GatewayTexts}
use Rattle.knx_top.specs.declared.commands.sim.SimTexts.{SimTexts}
use Rattle.call_parts.specs.declared.ending.End.{End}
use Rattle.call_parts.specs.declared.ending.End.TheVariants as ends
use Rattle.call_parts.specs.declared.ending.Reported.{Reported}
use Rattle.call_parts.specs.declared.ending.ServiceEnd.{ServiceEnd}
use Rattle.call_parts.specs.Input.{limit, goes_on, first_some}
use Rattle.call_parts.specs.declared.project.ProjectTexts.{ProjectTexts}
use Rattle.call_parts.specs.declared.input.Reading.{Reading}
use Rattle.call_parts.specs.declared.input.Reading.TheVariants as read

-- a file that is told to be there, as it is read
abbrev pub reading_told : FileContent → Reading
reading_told (Holds content) = read.Whole (take limit content)
reading_told Absent = read.Unread
reading_told Untold = read.Unread

abbrev pub named_told : (List ℕ → FileContent) → Option (List ℕ) → Reading
named_told file None = read.Unnamed
named_told file (Some name) = reading_told (file name)

abbrev pub texts_told : (List ℕ → FileContent) → ProjectWords → ProjectTexts
texts_told file words = record { catalogue = named_told file words.catalogue; project = reading_told (file words.project) }

-- the files that the words name are there, and no test fails
pub record IsValid (file : List ℕ → FileContent) (words : ProjectWords) : Type 0 where
  pub catalogue : goes_on (named_told file words.catalogue) ≡ true
  pub project : goes_on (reading_told (file words.project)) ≡ true
  pub passes : first_some (project_tests words (texts_told file words)) ≡ None

pub record NoneRose (files files' : FilesNow) (out out' : SinkNow) : Type 0 where
  pub reads : (name : List ℕ) → ¬ Rose (files.faults name) (files'.faults name)
  pub writes : ¬ Rose out.faults out'.faults

-- a whole text of the kind was written and the status is 0, or there was no memory
abbrev pub IsToldWhole : (List ℕ → Type 0) → SinkNow → SinkNow → Status → Type 0
IsToldWhole IsText out out' ending = (ending ≡ status.NoMemory tt) ⊎ ((ending ≡ status.Done) × ((text : List ℕ) × (IsText text × Wrote text out.taken out'.taken)))

-- ---- a run of `sim` or `big`

abbrev pub sim_texts_told : (List ℕ → FileContent) → SimWords → SimTexts
sim_texts_told file words = record {
  catalogue = named_told file words.options.catalogue;
  new = reading_told (file words.new);
  old = reading_told (file words.old);
  script = reading_told (file words.script);
}

-- the files that the words of `sim` name are there, and no test fails
pub record IsValidRun (file : List ℕ → FileContent) (words : SimWords) : Type 0 where
  pub catalogue : goes_on (named_told file words.options.catalogue) ≡ true
  pub new : goes_on (reading_told (file words.new)) ≡ true
  pub old : goes_on (reading_told (file words.old)) ≡ true
  pub script : goes_on (reading_told (file words.script)) ≡ true
  pub passes : first_some (sim_tests words (sim_texts_told file words)) ≡ None

-- what was asked for was run, and what is shown of the run was written whole, with its status
pub record IsReportedWhole (shown : Reported → End) (c : Commission) (after : Left) (out out' : SinkNow) (ending : Status) : Type 0 where
  pub told : Reported
  pub is : after.report ≡ Some told.report
  pub reported : IsReported c after.line.run told
  pub written : Wrote (end_text (shown told)) out.taken out'.taken
  pub status_is : ending ≡ line_status told.report

-- or there was no memory
abbrev pub IsRunTold : (Reported → End) → Commission → Left → SinkNow → SinkNow → Status → Type 0
IsRunTold shown c after out out' ending = (ending ≡ status.NoMemory tt) ⊎ IsReportedWhole shown c after out out' ending

-- ---- a run of `sim` that nothing disturbs

-- no line of the script disturbs, and the device of each job is on the line
pub record NothingDisturbs (c : Commission) : Type 0 where
  pub says : line.IsUndisturbed (script_of c.script)
  pub devices : (jobs : List JobWord) → AreJobs c.options.jobs c.project jobs → AllByRecursion (λ (job : JobWord). is_on_bus c.project c.before job.device.raw ≡ true) jobs

-- where a group telegram asks for values, fewer datagrams came than those at which it is given up; and it was over before the last time of 64 bits
pub record IsWithinBounds (turns : List GroupTurn) (r : RunNow) : Type 0 where
  pub unflooded : some_reads turns ≡ true → datagrams_taken (record_of (start r) r.events) < flood
  pub early : ¬ IsAtEnd r

-- P holds of the jobs of the run: those that the words name, or a load of each device, with the plans of the new project's compiled images
pub record OfItsJobs (c : Commission) (P : List Job → Type 0) : Type 0 where
  pub words : List JobWord
  pub are : AreJobs c.options.jobs c.project words
  pub jobs : List Job
  pub planned : ArePlanned c.project jobs words
  pub holds : P jobs

-- the whole report was written, all was served, and the status is 0, or 1 where a check was refused
pub record IsServedWhole (c : Commission) (after : Left) (out out' : SinkNow) (ending : Status) : Type 0 where
  pub whole : IsReportedWhole (λ told. ends.Reports told) c after out out' ending
  pub served : OfItsJobs c (λ jobs. AllServed jobs c.turns (start after.line.run) (log_of whole.told.report))
  pub passes : (ending ≡ status.Done) ⊎ (ending ≡ status.SomeFailed)

-- or there was no memory
abbrev pub IsRunServed : Commission → Left → SinkNow → SinkNow → Status → Type 0
IsRunServed c after out out' ending = (ending ≡ status.NoMemory tt) ⊎ IsServedWhole c after out out' ending

-- ---- a run of `big`, of N devices

-- N devices of eight objects each, with four links an object
abbrev pub counts_made : ℕ → Counts
counts_made n = record { devices = n; objects = 8 * n; links = 32 * n }

-- the whole line was written, which tells that each of them was loaded and is new, and the status is 0; or there was no memory
abbrev pub IsLoadedWhole : BigWords → SinkNow → SinkNow → Status → Type 0
IsLoadedWhole words out out' ending =
    (ending ≡ status.NoMemory tt) ⊎ ((ending ≡ status.Done) × Wrote (sums_line (counts_made words.devices) words.devices words.devices) out.taken out'.taken)

-- ---- what is dialled or bound

-- one call of `dial` or `bind` failed, and that was told
pub record IsUnopened (at : Address) (before after : DialerNow) (out out' : SinkNow) (ending : Status) : Type 0 where
  pub fails : FailsToOpen at before after
  pub written : Wrote (end_text ends.NotOpened) out.taken out'.taken
  pub status_is : ending ≡ status.Link

-- ---- a run of `download`

-- the files that the words name are there, and no test fails
pub record IsValidDownload (file : List ℕ → FileContent) (words : DownloadWords) : Type 0 where
  pub catalogue : goes_on (named_told file words.options.catalogue) ≡ true
  pub new : goes_on (reading_told (file words.new)) ≡ true
  pub passes : first_some (download_tests words (texts_told file (project_named words))) ≡ None

-- the gateway was dialled, and the whole report of the run was written, with its status
pub record IsDownloadedWhole (d : Download) (before after : DialerNow) (report : Option Report) (out out' : SinkNow) (ending : Status) : Type 0 where
  pub told : Reported
  pub is : report ≡ Some told.report
  pub ran : DialledRun d before after told.report told.jobs
  pub written : Wrote (end_text (ends.Reports told)) out.taken out'.taken
  pub status_is : ending ≡ line_status told.report

-- or it couldn't be dialled, or there was no memory
abbrev pub IsDownloadTold : Download → DialerNow → DialerNow → Option Report → SinkNow → SinkNow → Status → Type 0
IsDownloadTold d before after report out out' ending =
    (ending ≡ status.NoMemory tt) ⊎ (IsUnopened d.at before after out out' ending ⊎ IsDownloadedWhole d before after report out out' ending)

-- ---- a serving of `gateway`

abbrev pub gateway_texts_told : (List ℕ → FileContent) → GatewayWords → GatewayTexts
gateway_texts_told file words = record { catalogue = named_told file words.catalogue; old = reading_told (file words.old); script = reading_told (file words.script) }

-- the files that the words name are there, and no test fails
pub record IsValidGateway (file : List ℕ → FileContent) (words : GatewayWords) : Type 0 where
  pub catalogue : goes_on (named_told file words.catalogue) ≡ true
  pub old : goes_on (reading_told (file words.old)) ≡ true
  pub script : goes_on (reading_told (file words.script)) ≡ true
  pub passes : first_some (gateway_tests words (gateway_texts_told file words)) ≡ None

-- the port was bound and the line served there, and how that ended was written, with its status
pub record IsServedToEnd (s : Service) (before after : DialerNow) (line : BusNow) (out out' : SinkNow) (ending : Status) : Type 0 where
  pub end : ServiceEnd
  pub served : ServedRun s before after line end
  pub written : Wrote (service_text end) out.taken out'.taken
  pub status_is : ending ≡ service_status end

-- or it couldn't be bound, or there was no memory
abbrev pub IsGatewayTold : Service → DialerNow → DialerNow → BusNow → SinkNow → SinkNow → Status → Type 0
IsGatewayTold s before after line out out' ending =
    (ending ≡ status.NoMemory tt) ⊎ (IsUnopened s.at before after out out' ending ⊎ IsServedToEnd s before after line out out' ending)
