use Rattle.knx_model.specs.declared.project.Statement.{Statement}
use Rattle.project_text.specs.Migrated.{one_by_one, kept}
use Rattle.project_text.proofs.Appending.{step}
use Rattle.project_text.proofs.MigratedAgain.{spelled_at}
use Rattle.project_text.proofs.migration.put_all_kept.Goals as goal

pub put_kept-requires : goal.put_kept-requires
put_kept-requires c = (c.requires.0, spelled_at c.requires.0 c.args.statements.now c.loop-statement.statement-index c.statement-item.result c.loop-statement-test.true c.statement-item.is c.requires.1)

pub loop-statement-preserved : goal.loop-statement-preserved
unfolding kept
loop-statement-preserved c = step (λ (s : Statement). one_by_one s.what) c.args.statements.now c.loop-statement.statement-index c.statement-item.result c.args.out.now c.loop-statement.out c.put_kept.new.out c.loop-statement-test.true c.statement-item.is c.loop-statement.invariant c.in_ok-put_kept.ensures
