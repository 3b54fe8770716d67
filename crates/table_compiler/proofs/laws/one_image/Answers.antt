use Rattle.table_compiler.proofs.Unique.{one_image}
use Rattle.table_compiler.proofs.laws.one_image.Goals as goal

pub returns : goal.returns
returns c = one_image
