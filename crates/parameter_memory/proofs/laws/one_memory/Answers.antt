use Rattle.parameter_memory.proofs.One.{one}
use Rattle.parameter_memory.proofs.laws.one_memory.Goals as goal

pub returns : goal.returns
returns c = one
