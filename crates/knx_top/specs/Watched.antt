-- What a call tells who watches: of a run that isn't to be quiet its log, each entry once and in order, and true reports of its jobs, at most one a second of each
-- job; and else nothing. The jobs are those of the run: the jobs that the words name, or else a load of each device of the new project.
use Rattle.std.specs.Prelude.{◌≡◌, ℕ, Bool, true, false, List, map, Option, Some, None}
use Rattle.knx_model.specs.declared.address.IndAddr.{IndAddr}
use Rattle.knx_model.specs.Meaning.{Installation}
use Rattle.knx_model.specs.Outside.{FileContent}
use Rattle.line_model.specs.declared.log.Report.{Report}
use Rattle.line_model.specs.Watched.{SinceThen, Watch, Watches}
use Rattle.hub_core.specs.Commissioned.{log_of}
use Rattle.call_words.specs.declared.job_word.JobWord.{JobWord}
use Rattle.call_words.specs.declared.stop.Stop.{Stop}
use Rattle.call_parts.specs.Input.{first_some}
use Rattle.call_parts.specs.Jobs.{AreJobs}
use Rattle.call_parts.specs.declared.options.SimOptions.{SimOptions}
use Rattle.call_parts.specs.Options.{no_options}
use Rattle.call_parts.specs.Project.{ProjectIsRead, project_told}
use Rattle.call_parts.specs.Stops.{project_in}
use Rattle.call_parts.specs.declared.project.ProjectTexts.{ProjectTexts}
use Rattle.knx_top.specs.commands.{Big, Command, Download, Sim}
use Rattle.knx_top.specs.commands.big.{made}
use Rattle.knx_top.specs.commands.download.{download_tests, project_named}
use Rattle.knx_top.specs.commands.sim.{SimIsRead, sim_tests}
use Rattle.knx_top.specs.declared.commands.sim.SimTexts.{SimTexts}

-- ---- of a run with this report

-- by the devices of its jobs, and whether it is to be quiet
abbrev pub TellsWatcher : List IndAddr → Bool → Report → Watch → Watch → Type 0
TellsWatcher devices true report before after = after ≡ before
TellsWatcher devices false report before after = SinceThen (Watches devices (log_of report)) before after

-- by its options and the new project: the jobs are those that the options name, or else a load of each device of the project
pub record TellsOfJobs (options : SimOptions) (project : Installation) (report : Report) (before after : Watch) : Type 0 where
  pub jobs : List JobWord
  pub are : AreJobs options.jobs project jobs
  pub tells : TellsWatcher (map (λ (job : JobWord). job.device) jobs) options.quiet report before after

-- which begins where none of these tests fails
pub record TellsTested (tests : List (Option Stop)) (options : SimOptions) (project : Installation) (report : Report) (before after : Watch) : Type 0 where
  pub passes : first_some tests ≡ None
  pub tells : TellsOfJobs options project report before after

-- by the words that ask for it, and what the files gave; no other command begins a run
abbrev pub TellsOfRun : Option Command → (List ℕ → FileContent) → Report → Watch → Watch → Type 0
TellsOfRun (Some (Sim words)) file report before after =
    (texts : SimTexts) × SimIsRead file words texts × TellsTested (sim_tests words texts) words.options (project_in texts.catalogue texts.new) report before after
TellsOfRun (Some (Download words)) file report before after =
    (texts : ProjectTexts) × ProjectIsRead file (project_named words) texts × TellsTested (download_tests words texts) words.options (project_told texts) report before after
TellsOfRun (Some (Big words)) file report before after = TellsOfJobs no_options (made words) report before after
TellsOfRun command file report before after = ⊥

-- ---- of a call

-- where no run was begun, nothing is told
abbrev pub WhereRun : (Report → Watch → Watch → Type 0) → Option Report → Watch → Watch → Type 0
WhereRun Tells None before after = after ≡ before
WhereRun Tells (Some report) before after = Tells report before after
