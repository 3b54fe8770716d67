-- A command of one project, `check`, `tables` or `migrate`: its words, what it reads, its tests in their order, and what a call of it comes to. `download` reads its
-- project so too.
use Rattle.std.specs.Prelude.{ℕ, List, None, Ok, Option, Result, Some, option_to_list, ◌≡◌, ◌++◌, ◌∷◌, true, []}
use Rattle.call_parts.specs.declared.ending.End.{End}
use Rattle.knx_model.specs.Outside.{FileContent, FilesNow}
use Rattle.knx_model.specs.Meaning.{Installation}
use Rattle.call_parts.specs.Input.{IsRead, OnlyRose, fault_in, first_some, goes_on, octets_of, failed}
use Rattle.knx_model.specs.declared.catalogue.model.NamedModel.{NamedModel}
use Rattle.call_parts.specs.declared.project.ProjectNames.{ProjectNames}
use Rattle.call_parts.specs.declared.project.ProjectTexts.{ProjectTexts}
use Rattle.call_parts.specs.declared.project.ReadProject.{ReadProject}
use Rattle.call_parts.specs.declared.options.SimOptions.{SimOptions}
use Rattle.call_parts.specs.Options.{project_options}
use Rattle.call_words.specs.declared.stop.Stop.{Stop}
use Rattle.call_parts.specs.Ending.{StopsFor, TellsText}
use Rattle.call_parts.specs.Stops.{catalogue_refused, project_in, rule_broken, text_refused}
use Rattle.call_parts.specs.Judged.{models_of, read_of, unless_refused, sound, installed}
use Rattle.call_words.specs.declared.input_file.InputFile.TheVariants as file
use Rattle.knx_model.specs.Statements.{reading}
use Rattle.call_parts.specs.Names.{named}
use Rattle.std.specs.Option.{option_map}
use Rattle.knx_model.specs.Answers.{◌>>=◌}

-- P [catalogue=F]
pub record ProjectWords : Type 0 where
  pub project : List ℕ
  pub catalogue : Option (List ℕ)

abbrev pub project_words : List (List ℕ) → Option ProjectWords
project_words (project ∷ others) = option_map (λ (options : SimOptions). let w : ProjectWords = record { project = project; catalogue = options.catalogue } in w) (project_options others)
project_words [] = None

-- ---- what it reads

abbrev pub files_of_project : ProjectWords → List (List ℕ)
files_of_project words = option_to_list words.catalogue ++ words.project ∷ []

pub record ProjectIsRead (file : List ℕ → FileContent) (words : ProjectWords) (texts : ProjectTexts) : Type 0 where
  pub catalogue : IsRead file true words.catalogue texts.catalogue
  pub project : IsRead file (goes_on texts.catalogue) (Some words.project) texts.project

abbrev pub failed_of_project : ProjectWords → ProjectTexts → Option (List ℕ)
failed_of_project words texts = first_some (failed words.catalogue texts.catalogue ∷ failed (Some words.project) texts.project ∷ [])

-- ---- its tests, and what it is told of

abbrev pub project_told : ProjectTexts → Installation
project_told texts = project_in texts.catalogue texts.project

abbrev pub project_tests : ProjectWords → ProjectTexts → List (Option Stop)
project_tests words texts =
    fault_in words.catalogue texts.catalogue
    ∷ fault_in (Some words.project) texts.project
    ∷ catalogue_refused texts.catalogue
    ∷ text_refused file.New (reading (octets_of texts.project))
    ∷ rule_broken file.New (project_told texts)
    ∷ []

-- ---- a call, where the files told `files` and tell `files'`, and `Replied` says what was written

-- `check P`, `tables P` and `migrate P`
pub record TellsOfProject (IsText : Installation → List ℕ → Type 0) (words : ProjectWords) (files files' : FilesNow) (Replied : End → Type 0) : Type 0 where
  -- what was read, in order, up to the first read that was refused
  pub texts : ProjectTexts
  pub is_read : ProjectIsRead files.file words texts
  -- the count of no file rose but of the one whose read failed
  pub counts : OnlyRose (failed_of_project words texts) files.faults files'.faults
  pub end : End
  -- the first test that fails is told
  pub stops : (why : Stop) → first_some (project_tests words texts) ≡ Some why → StopsFor why end
  -- where none fails, the project's text is told
  pub tells : first_some (project_tests words texts) ≡ None → TellsText (IsText (project_told texts)) end
  pub replied : Replied end

-- ---- the same tests one after another, each with what it gives to the next: what the code does

abbrev pub project_of_models : ProjectTexts → List ℕ → List NamedModel → Result Installation Stop
project_of_models texts project models = unless_refused file.New (reading project) >>= λ ss. Ok (installed models ss)

abbrev pub project_of_text : ProjectTexts → List ℕ → Result Installation Stop
project_of_text texts project = models_of texts.catalogue >>= project_of_models texts project

abbrev pub project_of_catalogue : ProjectWords → ProjectTexts → List ℕ → Result Installation Stop
project_of_catalogue words texts catalogue = read_of (Some words.project) texts.project >>= project_of_text texts

abbrev pub project_of : ProjectWords → ProjectTexts → Result Installation Stop
project_of words texts = read_of words.catalogue texts.catalogue >>= project_of_catalogue words texts

abbrev pub judged_project : ProjectWords → ProjectTexts → Result Installation Stop
judged_project words texts = project_of words texts >>= sound file.New

-- ---- the words, and what was read, in the code

abbrev pub project_words_of : ProjectNames → ProjectWords
project_words_of names = record { project = names.project.now; catalogue = named names.catalogue }

abbrev pub installation_of : ReadProject → Installation
installation_of read = record { statements = read.project.statements; catalogue = read.models }
