use Rattle.line_sim.proofs.Settling.{is_settled}
use Rattle.line_sim.proofs.laws.what_is_settled.Goals as goal

pub returns : goal.returns
returns c = is_settled
