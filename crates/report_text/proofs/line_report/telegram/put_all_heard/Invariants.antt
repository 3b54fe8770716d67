use Rattle.std.proofs.Common.{◌≡◌, ◌++◌, drop}
use Rattle.std.specs.List.{flat_map}
use Rattle.call_words.specs.Printed.{heard_line}
use Rattle.report_text.proofs.line_report.telegram.put_all_heard.Given as goal

-- the lines so far and those that are left are all lines
abbrev pub invariant-loop-heard : goal.invariant-loop-heard
invariant-loop-heard l = l.out ++ flat_map heard_line (drop l.heard-index l.all) ≡ l.fn.out ++ flat_map heard_line l.all
