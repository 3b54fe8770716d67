use Rattle.catalogue.proofs.FirstFault.{is_taken}
use Rattle.catalogue.proofs.FirstRefusal.{taken}
use Rattle.catalogue.proofs.laws.taken_whole.Goals as goal

pub returns : goal.returns
returns c = λ document models. (taken document models, is_taken document models)
