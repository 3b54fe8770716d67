use Rattle.project_text.proofs.MigratedAgain.{twice}
use Rattle.project_text.proofs.laws.migrated_twice.Goals as goal

pub returns : goal.returns
returns c = twice
