use Rattle.std.proofs.Common.{◌≡◌, ◌+◌, ◌-◌, ◌++◌}
use Rattle.std.specs.List.{flat_map, range_with_len}
use Rattle.call_words.specs.Printed.{turn_line}
use Rattle.report_text.proofs.line_report.telegram.put_turns.Given as goal

-- the lines so far and those of the telegrams that are left are all lines
abbrev pub invariant-loop-place : goal.invariant-loop-place
invariant-loop-place l = l.out ++ flat_map (turn_line l.log) (range_with_len (l.place + 1) (l.turns - l.place)) ≡ l.fn.out ++ flat_map (turn_line l.log) (range_with_len 1 l.turns)
