use Rattle.knx_gen.proofs.Lawful.{checked}
use Rattle.knx_gen.proofs.laws.each_project_is_checked.Goals as goal

pub returns-clause-checked : goal.returns-clause-checked
returns-clause-checked c = checked
