-- Where a call stops: a list of tests, in the order in which they are made. The first that fails is told. Each command has its list; these are the tests.
use Rattle.std.specs.Prelude.{Bool, true, false, Err, List, None, Ok, Option, Result, Some, []}
use Rattle.call_words.specs.declared.input_file.InputFile.{InputFile}
use Rattle.knx_model.specs.Meaning.{Installation}
use Rattle.call_words.specs.declared.job_word.JobWord.{JobWord}
use Rattle.knx_model.specs.declared.catalogue.model.NamedModel.{NamedModel}
use Rattle.knx_model.specs.declared.refusal.Why.TheVariants.{NoDevice}
use Rattle.call_parts.specs.declared.input.Reading.{Reading}
use Rattle.knx_model.specs.declared.script.ScriptLine.{ScriptLine}
use Rattle.call_words.specs.declared.stop.Stop.{Stop}
use Rattle.catalogue.specs.Catalogue.{catalogue_of}
use Rattle.knx_model.specs.Rules.{first_broken, has_device}
use Rattle.call_parts.specs.Input.{octets_of}
use Rattle.knx_model.specs.ScriptText.{script_reading}
use Rattle.call_parts.specs.declared.input.Reading.TheVariants as read
use Rattle.call_words.specs.declared.stop.Stop.TheVariants as stop
use Rattle.call_words.specs.declared.input_file.InputFile.TheVariants as file
use Rattle.std.specs.Option.{option_map}
use Rattle.knx_model.specs.declared.refusal.Refused.{Refused}
use Rattle.knx_model.specs.Statements.{reading}

-- ---- what an answer refuses, and what it gives

abbrev pub refusal_of : {A E : Type 0} → Result A E → Option E
refusal_of (Ok x) = None
refusal_of (Err why) = Some why

abbrev pub given_or : {A E : Type 0} → A → Result A E → A
given_or default (Ok x) = x
given_or default (Err why) = default

-- ---- the catalogue and a project

-- the catalogue is refused; a catalogue that isn't named isn't
abbrev pub catalogue_refused : Reading → Option Stop
catalogue_refused (read.Whole octets) = option_map (λ why. let s : Stop = stop.CatalogueRefused why in s) (refusal_of (catalogue_of octets))
catalogue_refused reading = None

-- its models; none where no catalogue is named
abbrev pub models_in : Reading → List NamedModel
models_in (read.Whole octets) = given_or [] (catalogue_of octets)
models_in reading = []

-- the text of a file has no reading
abbrev pub text_refused : {A : Type 0} → InputFile → Result A Refused → Option Stop
text_refused place answer = option_map (λ refused. let s : Stop = stop.Refused place refused in s) (refusal_of answer)

-- what the text of a project says, with the models of the catalogue
abbrev pub project_in : Reading → Reading → Installation
project_in catalogue text = record { statements = given_or [] (reading (octets_of text)); catalogue = models_in catalogue }

-- it breaks a rule
abbrev pub rule_broken : InputFile → Installation → Option Stop
rule_broken place i = option_map (λ refused. let s : Stop = stop.Refused place refused in s) (first_broken i.catalogue i.statements)

-- ---- a script

abbrev pub lines_in : Reading → List ScriptLine
lines_in text = given_or [] (script_reading (octets_of text))

-- a line of the script names a device that isn't on the bus
abbrev pub stranger_named : Option Refused → Option Stop
stranger_named stranger = option_map (λ refused. let s : Stop = stop.Refused file.Script refused in s) stranger

-- ---- the jobs of a run

-- the job's device is one of NEW's
abbrev pub is_known : Installation → JobWord → Bool
is_known project job = has_device project.statements job.device.raw

-- a job's device that NEW hasn't is refused at line 0
abbrev pub unknown_job : Stop
unknown_job = stop.Refused file.New (record { line = 0; why = NoDevice })

abbrev pub unless_known : Bool → Option Stop
unless_known true = None
unless_known false = Some unknown_job
