-- The texts that the program prints: the words of a report, a checked project, and the line of a call that stops before its report. Each
-- line ends with a line feed; numbers are decimal.
use Rattle.std.specs.Prelude.{ℕ, codes, List, [], ◌∷◌, ◌++◌, Option, Some, None}
use Rattle.std.specs.Fmt.{decimal}
use Rattle.knx_model.specs.Addresses.{device_text}
use Rattle.knx_model.specs.declared.address.IndAddr.{IndAddr}
use Rattle.knx_model.specs.declared.catalogue.refused.CatRefused.{CatRefused}
use Rattle.knx_model.specs.declared.catalogue.refused.CatRefused.TheVariants as cat
use Rattle.knx_model.specs.declared.counts.Counts.{Counts}
use Rattle.knx_model.specs.declared.config.Image.{Image}
use Rattle.knx_model.specs.declared.log.Sign.{Sign}
use Rattle.knx_model.specs.declared.log.Sign.TheVariants as sign
use Rattle.knx_model.specs.declared.refusal.Refused.{Refused}
use Rattle.knx_model.specs.declared.refusal.Why.{Why}
use Rattle.knx_model.specs.declared.refusal.Why.TheVariants.{TooMany}
use Rattle.knx_model.specs.Refusal.{why_number, why_word, catalogue_number, catalogue_word}
use Rattle.knx_model.specs.TextLines.{line, octets_text}
use Rattle.call_words.specs.declared.input_file.InputFile.{InputFile}
use Rattle.call_words.specs.declared.input_file.InputFile.TheVariants as file
use Rattle.call_words.specs.declared.stop.Stop.{Stop}
use Rattle.call_words.specs.declared.stop.Stop.TheVariants as stop
use Rattle.call_words.specs.declared.case.Case.{Case}
use Rattle.call_words.specs.declared.case.Case.TheVariants as case
use Rattle.call_words.specs.declared.job_word.JobKind.{JobKind}
use Rattle.call_words.specs.declared.job_word.JobKind.TheVariants as job
use Rattle.call_words.specs.declared.status.Status.{Status}
use Rattle.call_words.specs.declared.status.Status.TheVariants as status

-- ---- the words of a report

abbrev pub sign_word : Sign → List ℕ
sign_word (sign.Silent ms) = codes "silent"
sign_word sign.Closed = codes "closed"
sign_word sign.NoCon = codes "nocon"
sign_word sign.TunnelLost = codes "tunnel"

abbrev pub first_or_open : List (List (List ℕ)) → List (List ℕ)
first_or_open [] = codes "open" ∷ []
first_or_open (ends ∷ others) = ends

abbrev pub job_word : JobKind → List ℕ
job_word job.Load = codes "load"
job_word job.Check = codes "check"

abbrev pub case_word : Case → List ℕ
case_word case.New = codes "new"
case_word case.Old = codes "old"
case_word case.Stopped = codes "stopped"

-- ---- a checked project

-- devices N objects N links N
abbrev pub counts_words : Counts → List (List ℕ)
counts_words counts = codes "devices" ∷ decimal counts.devices ∷ codes "objects" ∷ decimal counts.objects ∷ codes "links" ∷ decimal counts.links ∷ []

-- ok devices N objects N links N
abbrev pub counts_line : Counts → List ℕ
counts_line counts = line (codes "ok" ∷ counts_words counts)

-- a word and octets
unfoldable pub list_line : List ℕ → List ℕ → List ℕ
list_line word octets = line (word ∷ octets_text octets ∷ [])

-- the tables and the parameter memory of an image
abbrev pub image_lines : Image → List ℕ
image_lines image =
    list_line (codes "address") image.addr
    ++ (list_line (codes "association") image.assoc
    ++ (list_line (codes "objects") image.objs
    ++ list_line (codes "params") image.params))

-- the same of a device
abbrev pub tables_lines : IndAddr → Image → List ℕ
tables_lines device image = line (codes "device" ∷ device_text device ∷ []) ++ image_lines image

-- ---- a call that stops before its report

abbrev pub usage_line : List ℕ
usage_line = line (codes "usage: knx check, tables, migrate, sim, download, gateway, decode, find, assign or big, with their words" ∷ [])

abbrev pub file_word : InputFile → List ℕ
file_word file.Catalogue = codes "catalogue"
file_word file.New = codes "new"
file_word file.Old = codes "old"
file_word file.Script = codes "script"

abbrev pub optional_number : Option ℕ → List (List ℕ)
optional_number None = []
optional_number (Some n) = decimal n ∷ []

abbrev pub limit_of : Why → Option ℕ
limit_of (TooMany limit) = Some limit
limit_of why = None

-- new line L: N WHY, or old, or script; too many of something is followed by its limit
abbrev pub refusal_line : InputFile → Refused → List ℕ
refusal_line place refused =
    line (file_word place ∷ codes "line" ∷ (decimal refused.line ++ codes ":") ∷ (optional_number (why_number refused.why) ++ (why_word refused.why ∷ optional_number (limit_of refused.why))))

-- the model and the parameter that a catalogue's refusal has
abbrev pub refused_names : CatRefused → List (List ℕ)
refused_names (cat.NoMemory want) = []
refused_names cat.Toml = []
refused_names (cat.Shape model) = model ∷ []
refused_names (cat.Overlap model parameter) = model ∷ parameter ∷ []
refused_names (cat.Range model parameter) = model ∷ parameter ∷ []
refused_names cat.Long = []

-- the number and the word of a catalogue's refusal, then the model and the parameter where it has them
abbrev pub catalogue_words : CatRefused → List (List ℕ)
catalogue_words refused = optional_number (catalogue_number refused) ++ (catalogue_word refused ∷ refused_names refused)

-- catalogue: N WHY
abbrev pub catalogue_line : CatRefused → List ℕ
catalogue_line refused = line (codes "catalogue:" ∷ catalogue_words refused)

-- read fault NAME WHY
abbrev pub read_fault_line : List ℕ → List ℕ → List ℕ
read_fault_line name why = line (codes "read" ∷ codes "fault" ∷ name ∷ why ∷ [])

-- what is printed at a stop
abbrev pub stop_text : Stop → List ℕ
stop_text stop.Usage = usage_line
stop_text (stop.NotThere name) = read_fault_line name (codes "NotThere")
stop_text (stop.ReadFailed name) = read_fault_line name (codes "Failed")
stop_text (stop.CatalogueRefused refused) = catalogue_line refused
stop_text (stop.Refused place refused) = refusal_line place refused
stop_text (stop.NoMemory want) = line (codes "no memory" ∷ [])

abbrev pub refusal_status : InputFile → Status
refusal_status file.Catalogue = status.Catalogue
refusal_status file.New = status.Project
refusal_status file.Old = status.Project
refusal_status file.Script = status.Script

abbrev pub stop_status : Stop → Status
stop_status stop.Usage = status.Usage
stop_status (stop.NotThere name) = status.Read
stop_status (stop.ReadFailed name) = status.Read
stop_status (stop.CatalogueRefused refused) = status.Catalogue
stop_status (stop.Refused place refused) = refusal_status place
stop_status (stop.NoMemory want) = status.NoMemory want
