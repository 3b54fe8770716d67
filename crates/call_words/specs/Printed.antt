-- What is printed of a run over the line (this project's own): a line for each job, each group telegram and each group telegram that was heard; for
-- the simulated line a line for each device with its values; how many that were heard are left out; the log, where it is asked for, and how many
-- datagrams were dropped; and why the run ended without its end. A job whose device isn't on the tunnel's line is told alone.
use Rattle.std.specs.Prelude.{ℕ, Bool, true, false, ◌==◌, codes, List, [], ◌∷◌, ◌++◌, map, Option, Some, None, if◌then◌else◌}
use Rattle.std.specs.List.{flat_map, filter_map, list_all, enumerate_from, range_with_len}
use Rattle.std.specs.Fmt.{decimal}
use Rattle.knx_model.specs.declared.address.IndAddr.{IndAddr}
use Rattle.knx_model.specs.declared.frames.value.Value.{Value}
use Rattle.knx_model.specs.declared.frames.value.Value.TheVariants.{Short, Long}
use Rattle.knx_model.specs.declared.script.GroupService.{GroupService}
use Rattle.knx_model.specs.declared.script.GroupService.TheVariants.{Read, Write, Response}
use Rattle.knx_model.specs.Addresses.{device_text, group_text}
use Rattle.knx_model.specs.DeviceState.{DeviceState, value_of}
use Rattle.knx_model.specs.TextLines.{line, hex_octet, octets_text, value_text}
use Rattle.line_model.specs.declared.fault.HubFault.{HubFault}
use Rattle.line_model.specs.declared.fault.HubFault.TheVariants as fault
use Rattle.line_model.specs.declared.fault.Try.{Try}
use Rattle.line_model.specs.declared.fault.Try.TheVariants as try
use Rattle.line_model.specs.declared.group.Indication.{Indication}
use Rattle.line_model.specs.declared.log.LogEntry.{LogEntry}
use Rattle.line_model.specs.declared.log.LogWhat.{LogWhat}
use Rattle.line_model.specs.declared.log.LogWhat.TheVariants as told
use Rattle.line_model.specs.declared.log.Report.{Report}
use Rattle.call_words.specs.declared.case.Case.{Case}
use Rattle.call_words.specs.declared.job_word.JobWord.{JobWord}
use Rattle.call_words.specs.ReportText.{sign_word, job_word, case_word, first_or_open}

abbrev pub Words : Type 0
Words = List (List ℕ)

-- ---- jobs: the first entry that ends job k, or `open`

abbrev pub end_of : ℕ → LogWhat → Option Words
end_of k (told.Took job) = None
end_of k (told.Done job) = if job == k then Some (codes "done" ∷ []) else None
end_of k (told.Failed job signs) = if job == k then Some (codes "failed" ∷ map sign_word signs) else None
end_of k (told.Refused job op got expected) =
    if job == k then Some (codes "refused" ∷ decimal op ∷ codes "got" ∷ octets_text got ∷ codes "expected" ∷ octets_text expected ∷ []) else None
end_of k (told.Sent turn) = None
end_of k (told.Lost turn) = None

abbrev pub job_line : List LogEntry → ℕ → JobWord → List ℕ
job_line log k job = line (codes "job" ∷ decimal k ∷ job_word job.kind ∷ device_text job.device ∷ first_or_open (filter_map (λ entry. end_of k entry.what) log))

-- ---- group telegrams

abbrev pub end_of_turn : ℕ → LogWhat → Option Words
end_of_turn k (told.Sent turn) = if turn == k then Some (codes "sent" ∷ []) else None
end_of_turn k (told.Lost turn) = if turn == k then Some (codes "lost" ∷ []) else None
end_of_turn k _ = None

abbrev pub turn_line : List LogEntry → ℕ → List ℕ
turn_line log k = line (codes "group" ∷ decimal k ∷ first_or_open (filter_map (λ entry. end_of_turn k entry.what) log))

abbrev pub service_words : GroupService → Words
service_words Read = codes "read" ∷ []
service_words (Write value) = codes "write" ∷ value_text value ∷ []
service_words (Response value) = codes "response" ∷ value_text value ∷ []

abbrev pub heard_line : Indication → List ℕ
heard_line heard = line (codes "heard" ∷ group_text heard.group ∷ device_text heard.from ∷ service_words heard.service)

-- ---- devices of the simulated line: what each has come to, and the values of its objects that aren't all zero, ascending

pub record DeviceShown : Type 0 where
  pub device : IndAddr
  pub case : Case
  pub values : List (ℕ × Value)

abbrev pub is_zero : Value → Bool
is_zero (Short value) = value == 0
is_zero (Long octets) = list_all (λ (octet : ℕ). octet == 0) octets

abbrev pub shown : ℕ → Option Value → Option (ℕ × Value)
shown o None = None
shown o (Some value) = if is_zero value then None else Some (o, value)

-- a device without power shows none
abbrev pub values_shown : DeviceState → List (ℕ × Value)
values_shown d = if d.power then filter_map (λ o. shown o (value_of d o)) (range_with_len 1 255) else []

abbrev pub value_word : ℕ × Value → List ℕ
value_word value = decimal value.0 ++ codes "=" ++ value_text value.1

abbrev pub device_line : DeviceShown → List ℕ
device_line d = line (codes "device" ∷ device_text d.device ∷ case_word d.case ∷ map value_word d.values)

-- ---- the log

abbrev pub what_words : LogWhat → Words
what_words (told.Took job) = codes "took" ∷ decimal job ∷ []
what_words (told.Done job) = codes "done" ∷ decimal job ∷ []
what_words (told.Failed job signs) = codes "failed" ∷ decimal job ∷ []
what_words (told.Refused job op got expected) = codes "refused" ∷ decimal job ∷ []
what_words (told.Sent turn) = codes "sent" ∷ decimal turn ∷ []
what_words (told.Lost turn) = codes "lost" ∷ decimal turn ∷ []

abbrev pub log_line : LogEntry → List ℕ
log_line entry = line (codes "log" ∷ decimal entry.at ∷ decimal entry.worker ∷ what_words entry.what)

abbrev pub count_line : List ℕ → ℕ → List ℕ
count_line word n = line (word ∷ decimal n ∷ [])

-- where it is asked for; and then how many datagrams were dropped
abbrev pub log_lines : Bool → Report → List ℕ
log_lines true report = flat_map log_line report.log ++ count_line (codes "dropped") report.dropped
log_lines false report = []

-- ---- why it ended without its end

-- a status in two digits, or `-` for a wait
abbrev pub try_word : Try → List ℕ
try_word (try.Status status) = hex_octet status
try_word try.NoAnswer = codes "-"

abbrev pub fault_words : HubFault → Words
fault_words (fault.NoMemory want) = codes "no" ∷ codes "memory" ∷ []
fault_words fault.LinkFailed = codes "link" ∷ codes "fault" ∷ []
fault_words (fault.GatewayRefused tries) = codes "gateway" ∷ codes "refused" ∷ map try_word tries
fault_words fault.Flooded = codes "flooded" ∷ []
fault_words (fault.WrongLine device tunnel) = codes "wrong" ∷ codes "line" ∷ device_text device ∷ codes "tunnel" ∷ device_text tunnel ∷ []

abbrev pub fault_line : Option HubFault → List ℕ
fault_line None = []
fault_line (Some why) = line (fault_words why)

-- want of memory, and a job elsewhere, are told alone
abbrev pub is_told_alone : Option HubFault → Bool
is_told_alone None = false
is_told_alone (Some (fault.NoMemory want)) = true
is_told_alone (Some fault.LinkFailed) = false
is_told_alone (Some (fault.GatewayRefused tries)) = false
is_told_alone (Some fault.Flooded) = false
is_told_alone (Some (fault.WrongLine device tunnel)) = true

-- ---- all of it, for so many group telegrams

abbrev pub run_lines : Report → List JobWord → ℕ → List DeviceShown → Bool → List ℕ
run_lines report jobs turns devices with_log =
    flat_map (λ p. job_line report.log p.0 p.1) (enumerate_from 1 jobs)
    ++ flat_map (turn_line report.log) (range_with_len 1 turns)
    ++ flat_map heard_line report.heard
    ++ flat_map device_line devices
    ++ count_line (codes "missed") report.missed
    ++ log_lines with_log report

unfoldable pub line_report_text : Report → List JobWord → ℕ → List DeviceShown → Bool → List ℕ
line_report_text report jobs turns devices with_log =
    (if is_told_alone report.fault then [] else run_lines report jobs turns devices with_log) ++ fault_line report.fault
