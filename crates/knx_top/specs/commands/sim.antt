-- `sim NEW OLD SCRIPT` with options and jobs: its words, what it reads, its tests in their order, and what a call of it comes to.
use Rattle.std.specs.Prelude.{ℕ, Bool, List, None, Ok, Option, Result, Some, option_to_list, ◌≡◌, ◌++◌, ◌∷◌, length, true, []}
use Rattle.knx_top.specs.Shown.{AreShown, AreShownOf}
use Rattle.bus_sim.specs.Loaded.{BusNow}
use Rattle.call_parts.specs.Judged.{ComesTo, known_jobs, models_of, read_of, unless_refused, unless_strange, sound, installed}
use Rattle.knx_top.specs.Ran.{Commission, Left, Ran, commission_of}
use Rattle.call_parts.specs.declared.ending.End.{End}
use Rattle.knx_model.specs.Outside.{FileContent, FilesNow}
use Rattle.knx_model.specs.declared.config.Image.{Image}
use Rattle.knx_model.specs.declared.address.IndAddr.{IndAddr}
use Rattle.knx_model.specs.Meaning.{Installation}
use Rattle.call_parts.specs.Input.{IsRead, OnlyRose, fault_in, first_some, goes_on, octets_of, failed}
use Rattle.call_words.specs.declared.job_word.JobWord.{JobWord}
use Rattle.knx_model.specs.declared.catalogue.model.NamedModel.{NamedModel}
use Rattle.line_model.specs.declared.log.Report.{Report}
use Rattle.call_parts.specs.declared.ending.Reported.{Reported}
use Rattle.bus_sim.specs.RunNow.{RunNow, world}
use Rattle.knx_model.specs.declared.script.ScriptLine.{ScriptLine}
use Rattle.knx_top.specs.declared.commands.sim.SimNames.{SimNames}
use Rattle.call_parts.specs.declared.options.SimOptions.{SimOptions}
use Rattle.call_parts.specs.Options.{sim_options}
use Rattle.knx_top.specs.declared.commands.sim.SimTexts.{SimTexts}
use Rattle.knx_model.specs.declared.project.Statement.{Statement}
use Rattle.call_words.specs.declared.stop.Stop.{Stop}
use Rattle.call_parts.specs.Ending.{StopsFor, report_in}
use Rattle.call_parts.specs.Stops.{catalogue_refused, is_known, lines_in, project_in, rule_broken, stranger_named, text_refused, unless_known}
use Rattle.knx_model.specs.ScriptText.{first_stranger, script_reading}
use Rattle.std.specs.List.{list_all}
use Rattle.call_parts.specs.OnLine.{on_bus}
use Rattle.call_words.specs.declared.stop.Stop.TheVariants as stop
use Rattle.call_parts.specs.declared.ending.End.TheVariants as ends
use Rattle.call_words.specs.declared.input_file.InputFile.TheVariants as file
use Rattle.knx_model.specs.Statements.{reading}
use Rattle.std.specs.Option.{option_map}
use Rattle.knx_model.specs.Answers.{◌>>=◌}

-- NEW OLD SCRIPT, with options and jobs
pub record SimWords : Type 0 where
  pub new : List ℕ
  pub old : List ℕ
  pub script : List ℕ
  pub options : SimOptions

abbrev pub sim_words : List (List ℕ) → Option SimWords
sim_words (new ∷ old ∷ script ∷ others) = option_map (λ (options : SimOptions). let w : SimWords = record { new = new; old = old; script = script; options = options } in w) (sim_options others)
sim_words _ = None

-- ---- what it reads

abbrev pub files_of_sim : SimWords → List (List ℕ)
files_of_sim words = option_to_list words.options.catalogue ++ words.new ∷ words.old ∷ words.script ∷ []

pub record SimIsRead (file : List ℕ → FileContent) (words : SimWords) (texts : SimTexts) : Type 0 where
  pub catalogue : IsRead file true words.options.catalogue texts.catalogue
  pub new : IsRead file (goes_on texts.catalogue) (Some words.new) texts.new
  pub old : IsRead file (goes_on texts.new) (Some words.old) texts.old
  pub script : IsRead file (goes_on texts.old) (Some words.script) texts.script

abbrev pub failed_of_sim : SimWords → SimTexts → Option (List ℕ)
failed_of_sim words texts =
    first_some (failed words.options.catalogue texts.catalogue ∷ failed (Some words.new) texts.new ∷ failed (Some words.old) texts.old ∷ failed (Some words.script) texts.script ∷ [])

-- ---- what it asks for, and its tests

-- what the words and the texts of `sim` ask for
abbrev pub commission_told : SimWords → SimTexts → Commission
commission_told words texts = commission_of (project_in texts.catalogue texts.new) (project_in texts.catalogue texts.old) (lines_in texts.script) words.options

abbrev pub sim_tests : SimWords → SimTexts → List (Option Stop)
sim_tests words texts =
    let c : Commission = commission_told words texts in
    fault_in words.options.catalogue texts.catalogue
    ∷ fault_in (Some words.new) texts.new
    ∷ fault_in (Some words.old) texts.old
    ∷ fault_in (Some words.script) texts.script
    ∷ catalogue_refused texts.catalogue
    ∷ text_refused file.New (reading (octets_of texts.new))
    ∷ rule_broken file.New c.project
    ∷ text_refused file.Old (reading (octets_of texts.old))
    ∷ rule_broken file.Old c.before
    ∷ text_refused file.Script (script_reading (octets_of texts.script))
    ∷ stranger_named (first_stranger (on_bus c.project c.before) c.script)
    ∷ unless_known (list_all (is_known c.project) c.options.jobs)
    ∷ []

-- ---- what comes of it

-- what is reported of a run: its jobs, and what the devices have come to
pub record IsReported (c : Commission) (r : RunNow) (told : Reported) : Type 0 where
  pub ran : Ran c r told.report told.jobs
  pub with_turns : told.turns ≡ length c.turns
  pub shown : AreShown c.project (world r) told.devices (on_bus c.project c.before)
  pub with_log : told.log ≡ c.options.log

-- What comes of a commission, where the line was `before` and is `after`: memory is wanting and no run is begun, or a run is begun and the line has it,
-- from its beginning on, whether it ends or memory is wanting on the way.
abbrev pub Runs : Commission → BusNow → BusNow → End → Type 0
Runs c before after (ends.Stops told) = (told ≡ stop.NoMemory tt) × (after ≡ before)
Runs c before after (ends.BreaksOff report want) = (jobs : List JobWord) × Ran c after.run report jobs
Runs c before after (ends.Reports told) = IsReported c after.run told
Runs c before after end = ⊥

-- ---- a call, where the files told `files` and tell `files'`, and `Replied` says what was written

-- `sim NEW OLD SCRIPT` with options and jobs
pub record RunsScript (words : SimWords) (files files' : FilesNow) (before : BusNow) (after : Left) (Replied : End → Type 0) : Type 0 where
  pub texts : SimTexts
  pub is_read : SimIsRead files.file words texts
  pub counts : OnlyRose (failed_of_sim words texts) files.faults files'.faults
  pub end : End
  -- the first test that fails is told, and no run is begun
  pub stops : (why : Stop) → first_some (sim_tests words texts) ≡ Some why → StopsFor why end × (after.line ≡ before)
  -- where none fails, what the words and the texts ask for is run
  pub runs : first_some (sim_tests words texts) ≡ None → Runs (commission_told words texts) before after.line end
  pub report : after.report ≡ report_in end
  pub replied : Replied end

-- ---- the same tests one after another, each with what it gives to the next: what the code does

abbrev pub with_known : SimOptions → Installation → Installation → List ScriptLine → Result Commission Stop
with_known options project before ls = known_jobs project options.jobs >>= λ jobs. Ok (commission_of project before ls options)

abbrev pub with_lines : SimOptions → Installation → Installation → List ScriptLine → Result Commission Stop
with_lines options project before ls = unless_strange project before ls >>= with_known options project before

abbrev pub with_before : SimOptions → List ℕ → Installation → Installation → Result Commission Stop
with_before options script project before = unless_refused file.Script (script_reading script) >>= with_lines options project before

abbrev pub with_old : SimOptions → List NamedModel → List ℕ → Installation → List Statement → Result Commission Stop
with_old options models script project ss = sound file.Old (installed models ss) >>= with_before options script project

abbrev pub with_project : SimOptions → List NamedModel → List ℕ → List ℕ → Installation → Result Commission Stop
with_project options models old script project = unless_refused file.Old (reading old) >>= with_old options models script project

abbrev pub with_new : SimOptions → List NamedModel → List ℕ → List ℕ → List Statement → Result Commission Stop
with_new options models old script ss = sound file.New (installed models ss) >>= with_project options models old script

abbrev pub with_models : SimOptions → List ℕ → List ℕ → List ℕ → List NamedModel → Result Commission Stop
with_models options new old script models = unless_refused file.New (reading new) >>= with_new options models old script

abbrev pub after_script : SimOptions → SimTexts → List ℕ → List ℕ → List ℕ → Result Commission Stop
after_script options texts new old script = models_of texts.catalogue >>= with_models options new old script

abbrev pub after_old : SimWords → SimTexts → List ℕ → List ℕ → Result Commission Stop
after_old words texts new old = read_of (Some words.script) texts.script >>= after_script words.options texts new old

abbrev pub after_new : SimWords → SimTexts → List ℕ → Result Commission Stop
after_new words texts new = read_of (Some words.old) texts.old >>= after_old words texts new

abbrev pub after_catalogue : SimWords → SimTexts → List ℕ → Result Commission Stop
after_catalogue words texts catalogue = read_of (Some words.new) texts.new >>= after_new words texts

abbrev pub judged : SimWords → SimTexts → Result Commission Stop
judged words texts = read_of words.options.catalogue texts.catalogue >>= after_catalogue words texts

-- ---- the words, and what comes of it, in the code

abbrev pub sim_words_of : SimNames → SimWords
sim_words_of names = record { new = names.new.now; old = names.old.now; script = names.script.now; options = names.options }

-- it stops where it must, and the line is as it was, or else it runs
abbrev pub Comes : Result Commission Stop → BusNow → BusNow → End → Type 0
Comes j before after end = ComesTo (after ≡ before) (λ c. Runs c before after) j end

-- a run of which this is reported, or memory is wanting for that
abbrev pub ShowsRun : RunNow → Report → List JobWord → ℕ → List (IndAddr × Option Image) → Bool → End → Type 0
ShowsRun r report jobs turns devices log (ends.BreaksOff told want) = told ≡ report
ShowsRun r report jobs turns devices log (ends.Reports told) =
    (told.report ≡ report) × (told.jobs ≡ jobs) × (told.turns ≡ turns) × AreShownOf (world r) told.devices devices × (told.log ≡ log)
ShowsRun r report jobs turns devices log end = ⊥
