-- What is printed of a run over a line that a number makes (this project's own): one line with how many devices, objects and links its project has, how many
-- entries of its log tell that a job is done, and how many of its devices are shown as new; and why the run ended without its end. Want of memory, and a job
-- elsewhere, are told alone.
use Rattle.std.specs.Prelude.{ℕ, Bool, true, false, codes, count_by, List, [], ◌∷◌, ◌++◌, if◌then◌else◌}
use Rattle.std.specs.Fmt.{decimal}
use Rattle.call_words.specs.Printed.{DeviceShown, fault_line, is_told_alone}
use Rattle.call_words.specs.ReportText.{counts_words}
use Rattle.call_words.specs.declared.case.Case.{Case}
use Rattle.call_words.specs.declared.case.Case.TheVariants.{New}
use Rattle.knx_model.specs.TextLines.{line}
use Rattle.knx_model.specs.declared.counts.Counts.{Counts}
use Rattle.line_model.specs.declared.log.LogEntry.{LogEntry}
use Rattle.line_model.specs.declared.log.LogWhat.{LogWhat}
use Rattle.line_model.specs.declared.log.LogWhat.TheVariants.{Done}
use Rattle.line_model.specs.declared.log.Report.{Report}

abbrev pub tells_done : LogWhat → Bool
tells_done (Done job) = true
tells_done _ = false

-- how many entries tell that a job is done
abbrev pub done_in : List LogEntry → ℕ
done_in log = count_by (λ (entry : LogEntry). tells_done entry.what) log

abbrev pub is_new : Case → Bool
is_new New = true
is_new _ = false

-- how many devices run what the new project says
abbrev pub new_among : List DeviceShown → ℕ
new_among devices = count_by (λ (shown : DeviceShown). is_new shown.case) devices

-- devices N objects N links N done N new N
abbrev pub sums_line : Counts → ℕ → ℕ → List ℕ
sums_line counts done new = line (counts_words counts ++ codes "done" ∷ decimal done ∷ codes "new" ∷ decimal new ∷ [])

unfoldable pub sums_text : Report → Counts → List DeviceShown → List ℕ
sums_text report counts devices = (if is_told_alone report.fault then [] else sums_line counts (done_in report.log) (new_among devices)) ++ fault_line report.fault
