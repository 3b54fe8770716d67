use Rattle.std.proofs.Common.{◌≡◌, ◌++◌, drop, map}
use Rattle.call_words.specs.Printed.{value_word}
use Rattle.report_text.specs.Behind.{behind}
use Rattle.report_text.proofs.line_report.device.put_values.Given as goal

-- the words so far and those that are left are all words
abbrev pub invariant-loop-shown : goal.invariant-loop-shown
invariant-loop-shown l = l.out ++ behind (map value_word (drop l.shown-index l.values)) ≡ l.fn.out ++ behind (map value_word l.values)
