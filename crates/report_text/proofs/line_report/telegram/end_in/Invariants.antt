use Rattle.std.proofs.Common.{◌≡◌, drop}
use Rattle.std.specs.List.{filter_map}
use Rattle.call_words.specs.ReportText.{first_or_open}
use Rattle.call_words.specs.Printed.{end_of_turn}
use Rattle.report_text.proofs.line_report.telegram.end_in.Given as goal

-- the entries that are left end the telegram as all do
abbrev pub invariant-loop-entry : goal.invariant-loop-entry
invariant-loop-entry l = first_or_open (filter_map (λ entry. end_of_turn l.turn entry.what) (drop l.entry-index l.log)) ≡ first_or_open (filter_map (λ entry. end_of_turn l.turn entry.what) l.log)
