-- `download ADDR NEW` with options and jobs. It reads the catalogue and NEW and tells the first test that fails; nothing is dialled then. Else it dials the
-- gateway that its words name. Where that fails, a link fault is told, and nothing else. Else it goes through the jobs over the link that was dialled, and
-- hands the link back.
use Rattle.std.specs.Prelude.{ℕ, Err, List, None, Ok, Option, Result, Some, option_to_list, ◌≡◌, ◌++◌, ◌∷◌, map, length, [], ◌<◌, ◌^◌, option_and_then}
use Rattle.line_model.specs.Dialled.{Address, DialerNow, FailsToOpen, Tells}
use Rattle.std.specs.List.{AllByRecursion, list_all}
use Rattle.call_parts.specs.Jobs.{AreJobs, ArePlanned, seen_job}
use Rattle.call_parts.specs.Judged.{ComesTo, known_jobs}
use Rattle.knx_top.specs.declared.commands.download.DownloadNames.{DownloadNames}
use Rattle.call_parts.specs.declared.ending.End.{End}
use Rattle.knx_top.specs.Dialled.{CountsDialled, MeansOver}
use Rattle.knx_model.specs.Outside.{FilesNow, one_more}
use Rattle.line_model.specs.declared.group.GroupTurn.{GroupTurn}
use Rattle.knx_model.specs.Meaning.{Installation}
use Rattle.line_model.specs.Headline.{IsGoodJob}
use Rattle.line_model.specs.Log.{Job}
use Rattle.call_words.specs.declared.job_word.JobWord.{JobWord}
use Rattle.call_parts.specs.Input.{OnlyRose, first_some}
use Rattle.call_parts.specs.Project.{ProjectIsRead, ProjectWords, failed_of_project, judged_project, project_tests, project_told}
use Rattle.call_parts.specs.declared.project.ProjectTexts.{ProjectTexts}
use Rattle.knx_top.specs.declared.commands.download.Ready.{Ready}
use Rattle.line_model.specs.declared.log.Report.{Report}
use Rattle.call_parts.specs.declared.options.SimOptions.{SimOptions}
use Rattle.call_parts.specs.Options.{sim_options, workers_of}
use Rattle.call_words.specs.declared.stop.Stop.{Stop}
use Rattle.call_parts.specs.Ending.{StopsFor, report_in}
use Rattle.call_parts.specs.Names.{address_of}
use Rattle.call_parts.specs.Host.{address_value}
use Rattle.call_parts.specs.Stops.{is_known, unless_known}
use Rattle.hub_core.specs.Commissioned.{log_of}
use Rattle.knx_top.specs.Ran.{IsToldOver}
use Rattle.call_words.specs.declared.stop.Stop.TheVariants as stop
use Rattle.call_parts.specs.declared.ending.End.TheVariants as ends
use Rattle.std.specs.Option.{option_map}
use Rattle.knx_model.specs.Answers.{◌>>=◌}

-- ADDR NEW, with options and jobs
pub record DownloadWords : Type 0 where
  pub at : Address
  pub new : List ℕ
  pub options : SimOptions

abbrev pub download_words : List (List ℕ) → Option DownloadWords
download_words (address ∷ new ∷ others) =
    option_and_then (λ (at : Address). option_map (λ (options : SimOptions). let w : DownloadWords = record { at = at; new = new; options = options } in w) (sim_options others)) (address_value address)
download_words _ = None

-- ---- what it reads

abbrev pub files_of_download : DownloadWords → List (List ℕ)
files_of_download words = option_to_list words.options.catalogue ++ words.new ∷ []

-- NEW and the catalogue, which are read as for `check`
abbrev pub project_named : DownloadWords → ProjectWords
project_named words = record { project = words.new; catalogue = words.options.catalogue }

-- ---- what it asks for, and its tests

-- a download: the gateway, NEW, and the options and jobs of the words; and how many workers drive the hub, and which group telegrams are sent
pub record Download : Type 0 where
  pub at : Address
  pub project : Installation
  pub options : SimOptions
  pub workers : ℕ
  pub turns : List GroupTurn

-- as many workers drive the hub as the words say, and no group telegrams are sent
abbrev pub download_of : DownloadWords → Installation → Download
download_of words project = record { at = words.at; project = project; options = words.options; workers = workers_of words.options; turns = [] }

abbrev pub download_told : DownloadWords → ProjectTexts → Download
download_told words texts = download_of words (project_told texts)

abbrev pub download_tests : DownloadWords → ProjectTexts → List (Option Stop)
download_tests words texts = project_tests (project_named words) texts ++ (unless_known (list_all (is_known (project_told texts)) words.options.jobs) ∷ [])

-- ---- what comes of it

-- a run of a download, its jobs as their words and with their plans, and its report, where the dialer told `before` and tells `after`
pub record DialledRun (d : Download) (before after : DialerNow) (report : Report) (words : List JobWord) : Type 0 where
  -- there was one call of `dial`, with just the host and the port number of the words
  pub given : Tells d.at.host d.at.port after.given
  pub once : after.dials ≡ one_more before.dials
  pub words_are : AreJobs d.options.jobs d.project words
  pub jobs : List Job
  pub planned : ArePlanned d.project jobs words
  -- the link was handed back, and this is so of what it told
  pub told : IsToldOver d.workers d.turns jobs after.link_back report
  pub means : MeansOver d.project jobs after.link_back (log_of report)
  pub counts : CountsDialled report before after

-- memory is wanting before anything is dialled; or the dial failed; or a link was dialled, gone through and handed back, whether the report of that is
-- written or memory is wanting for it
abbrev pub Dials : Download → DialerNow → DialerNow → End → Type 0
Dials d before after (ends.Stops told) = (told ≡ stop.NoMemory tt) × (after ≡ before)
Dials d before after ends.NotOpened = FailsToOpen d.at before after
Dials d before after (ends.BreaksOff report want) = (words : List JobWord) × DialledRun d before after report words
-- no devices are shown
Dials d before after (ends.Reports told) = DialledRun d before after told.report told.jobs × (told.turns ≡ length d.turns) × (told.devices ≡ []) × (told.log ≡ d.options.log)
Dials d before after end = ⊥

-- ---- a call, where the dialer told `before` and tells `after`, and `Replied` says what was written

-- `download ADDR NEW` with options and jobs
pub record RunsDialled (words : DownloadWords) (files files' : FilesNow) (before after : DialerNow) (report : Option Report) (Replied : End → Type 0) : Type 0 where
  -- what was read, in order, up to the first read that was refused
  pub texts : ProjectTexts
  pub is_read : ProjectIsRead files.file (project_named words) texts
  pub counts : OnlyRose (failed_of_project (project_named words) texts) files.faults files'.faults
  pub end : End
  -- the first test that fails is told, and nothing is dialled
  pub stops : (why : Stop) → first_some (download_tests words texts) ≡ Some why → StopsFor why end × (after ≡ before)
  -- where none fails, the gateway of the words is dialled
  pub dials : first_some (download_tests words texts) ≡ None → Dials (download_told words texts) before after end
  pub report_is : report ≡ report_in end
  pub replied : Replied end

-- ---- the same tests one after another: what the code does

abbrev pub with_project : DownloadWords → Installation → Result Download Stop
with_project words project = known_jobs project words.options.jobs >>= λ jobs. Ok (download_of words project)

abbrev pub judged_download : DownloadWords → ProjectTexts → Result Download Stop
judged_download words texts = judged_project (project_named words) texts >>= with_project words

-- it stops where it must, and the dialer is as it was, or else it dials
abbrev pub DialsOr : Result Download Stop → DialerNow → DialerNow → End → Type 0
DialsOr j before after end = ComesTo (after ≡ before) (λ d. Dials d before after) j end

-- ---- the words, and what it is begun with, in the code

abbrev pub download_words_of : DownloadNames → DownloadWords
download_words_of names = record { at = address_of names.at; new = names.new.now; options = names.options }

-- the jobs of a run, by the jobs that words name
pub record IsReady (project : Installation) (named : List JobWord) (ready : Ready) : Type 0 where
  pub jobs : AreJobs named project ready.jobs
  pub few : length ready.plans < 2 ^ 32
  pub plans : ArePlanned project (map seen_job ready.plans) ready.jobs
  pub good : AllByRecursion IsGoodJob (map seen_job ready.plans)

-- a download with its jobs, which the workers of its words drive, and which sends no group telegrams
pub record IsReadyFor (d : Download) (ready : Ready) : Type 0 where
  pub prepared : IsReady d.project d.options.jobs ready
  pub workers : d.workers ≡ workers_of d.options
  pub turns : d.turns ≡ []

-- what was judged has its jobs
abbrev pub ReadyFor : Result Download Stop → Ready → Type 0
ReadyFor (Ok d) ready = IsReadyFor d ready
ReadyFor (Err why) ready = ⊥
