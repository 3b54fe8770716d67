use Rattle.std.proofs.Common.{◌≡◌, ◌++◌, drop}
use Rattle.std.specs.List.{flat_map}
use Rattle.call_words.specs.Printed.{log_line}
use Rattle.report_text.proofs.line_report.log.put_entries.Given as goal

-- the lines so far and those that are left are all lines
abbrev pub invariant-loop-entry : goal.invariant-loop-entry
invariant-loop-entry l = l.out ++ flat_map log_line (drop l.entry-index l.log) ≡ l.fn.out ++ flat_map log_line l.log
