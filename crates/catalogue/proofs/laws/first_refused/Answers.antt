use Rattle.catalogue.proofs.FirstFault.{is_refused}
use Rattle.catalogue.proofs.FirstRefusal.{first}
use Rattle.catalogue.proofs.laws.first_refused.Goals as goal

pub returns : goal.returns
returns c = λ document why. (first document why, is_refused document why)
