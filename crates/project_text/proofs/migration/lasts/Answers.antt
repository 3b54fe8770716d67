use Rattle.project_text.proofs.SendsKept.{last_more}
use Rattle.project_text.proofs.migration.lasts.Goals as goal

pub loop-statement-preserved : goal.loop-statement-preserved
loop-statement-preserved c = last_more c.loop-statement.last c.add_last.new.last c.args.statements.now c.loop-statement.statement-index c.statement-item.result c.loop-statement-test.true c.statement-item.is c.loop-statement.invariant c.in_ok-add_last.ensures
