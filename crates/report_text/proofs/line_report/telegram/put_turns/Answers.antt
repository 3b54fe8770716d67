use Rattle.call_words.specs.Printed.{turn_line}
use Rattle.report_text.proofs.Lines.{one_line_more}
use Rattle.report_text.proofs.line_report.telegram.put_turns.Goals as goal

pub loop-place-preserved : goal.loop-place-preserved
loop-place-preserved c =
    one_line_more (turn_line c.args.log.now) c.loop-place.place c.from.result c.args.turns c.loop-place.out c.put_turn.new.out _ c.loop-place-test.true c.from.ensures c.in_ok-put_turn.ensures c.loop-place.invariant
