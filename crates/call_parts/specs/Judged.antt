-- Tests that are made one after another, each with what it gives to the next: what the code does.
use Rattle.std.specs.Prelude.{ℕ, Err, List, None, Ok, Option, Result, Some, unwrap_or, ◌≡◌, []}
use Rattle.knx_model.specs.Answers.{AnswersUnless}
use Rattle.knx_model.specs.declared.catalogue.refused.CatRefused.{CatRefused}
use Rattle.call_parts.specs.declared.ending.End.{End}
use Rattle.call_words.specs.declared.input_file.InputFile.{InputFile}
use Rattle.knx_model.specs.Meaning.{Installation}
use Rattle.call_words.specs.declared.job_word.JobWord.{JobWord}
use Rattle.knx_model.specs.declared.catalogue.model.NamedModel.{NamedModel}
use Rattle.call_parts.specs.declared.input.Reading.{Reading}
use Rattle.knx_model.specs.declared.script.ScriptLine.{ScriptLine}
use Rattle.knx_model.specs.declared.project.Statement.{Statement}
use Rattle.call_words.specs.declared.stop.Stop.{Stop}
use Rattle.call_parts.specs.Ending.{StopsFor}
use Rattle.catalogue.specs.Catalogue.{catalogue_of}
use Rattle.call_parts.specs.Input.{fault_told}
use Rattle.knx_model.specs.Rules.{first_broken}
use Rattle.knx_model.specs.ScriptText.{first_stranger}
use Rattle.call_parts.specs.Stops.{is_known, stranger_named, unless_known}
use Rattle.std.specs.List.{list_all}
use Rattle.call_parts.specs.OnLine.{on_bus}
use Rattle.call_parts.specs.declared.input.Reading.TheVariants as read
use Rattle.call_words.specs.declared.stop.Stop.TheVariants as stop
use Rattle.knx_model.specs.declared.refusal.Refused.{Refused}

-- the octets of a file, or its fault
abbrev pub read_of : Option (List ℕ) → Reading → Result (List ℕ) Stop
read_of name (read.Whole octets) = Ok octets
read_of name (read.Fault why) = Err (fault_told (unwrap_or name []) why)
read_of name read.Unnamed = Ok []
read_of name read.Unread = Ok []

abbrev pub models_or : Result (List NamedModel) CatRefused → Result (List NamedModel) Stop
models_or (Ok models) = Ok models
models_or (Err why) = Err (stop.CatalogueRefused why)

-- the models of the catalogue, and none where no catalogue is named
abbrev pub models_of : Reading → Result (List NamedModel) Stop
models_of (read.Whole octets) = models_or (catalogue_of octets)
models_of read.Unnamed = Ok []
models_of read.Unread = Ok []
models_of (read.Fault why) = Ok []

abbrev pub unless_refused : {A : Type 0} → InputFile → Result A Refused → Result A Stop
unless_refused place (Ok x) = Ok x
unless_refused place (Err why) = Err (stop.Refused place why)

abbrev pub unless_broken : {A : Type 0} → InputFile → Option Refused → A → Result A Stop
unless_broken place None x = Ok x
unless_broken place (Some why) x = Err (stop.Refused place why)

-- where they break no rule
abbrev pub sound : InputFile → Installation → Result Installation Stop
sound place i = unless_broken place (first_broken i.catalogue i.statements) i

abbrev pub installed : List NamedModel → List Statement → Installation
installed models ss = record { statements = ss; catalogue = models }

abbrev pub unless_failed : {A : Type 0} → Option Stop → A → Result A Stop
unless_failed None x = Ok x
unless_failed (Some why) x = Err why

abbrev pub unless_strange : Installation → Installation → List ScriptLine → Result (List ScriptLine) Stop
unless_strange project before ls = unless_failed (stranger_named (first_stranger (on_bus project before) ls)) ls

-- jobs of NEW's devices
abbrev pub known_jobs : Installation → List JobWord → Result (List JobWord) Stop
known_jobs project jobs = unless_failed (unless_known (list_all (is_known project) jobs)) jobs

-- what comes of what was judged: the call stops where it must, and all stays as it was; or else it does what is asked for
abbrev pub ComesTo : {A : Type 0} → Type 0 → (A → End → Type 0) → Result A Stop → End → Type 0
ComesTo Stays Does (Err why) end = StopsFor why end × Stays
ComesTo Stays Does (Ok asked) end = Does asked end

-- an answer of the code beside the definition's: the same, unless memory was wanting
abbrev pub Gives : {A B : Type 0} → (A → B) → Result A Stop → Result B Stop → Type 0
Gives view answer defined = AnswersUnless (λ why. why ≡ stop.NoMemory tt) view answer defined
