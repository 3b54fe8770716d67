use Rattle.project_text.proofs.SendsKept.{first_more}
use Rattle.project_text.proofs.migration.firsts.Goals as goal

pub loop-statement-preserved : goal.loop-statement-preserved
loop-statement-preserved c = first_more c.loop-statement.first c.add_first.new.first c.args.statements.now c.loop-statement.statement-index c.statement-item.result c.loop-statement-test.true c.statement-item.is c.loop-statement.invariant c.in_ok-add_first.ensures
