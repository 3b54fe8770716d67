use Rattle.line_sim.proofs.Allowing.{may_happen}
use Rattle.line_sim.proofs.laws.what_is_allowed_may_happen.Goals as goal

pub returns : goal.returns
returns c = may_happen
