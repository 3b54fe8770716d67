use Rattle.parameter_memory.proofs.One.{one_value}
use Rattle.parameter_memory.proofs.laws.setting_or_default.Goals as goal

pub returns : goal.returns
returns c = one_value
