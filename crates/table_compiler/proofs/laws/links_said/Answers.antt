use Rattle.table_compiler.proofs.Said.{said, is_link}
use Rattle.table_compiler.proofs.laws.links_said.Goals as goal

pub returns : goal.returns
returns c = λ sends lines link. (said sends lines link, is_link sends lines link)
