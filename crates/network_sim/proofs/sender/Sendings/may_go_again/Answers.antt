use Rattle.std.proofs.Common.{◌∙◌}
use Rattle.network_sim.proofs.Ages.{goes_again_kept}
use Rattle.network_sim.proofs.sender.Sendings.may_go_again.Goals as goal

pub returns-clause-simulates : goal.returns-clause-simulates
returns-clause-simulates c = λ sent same tells. c.goes_again.ensures.value ∙ goes_again_kept c.args.reach c.args.made sent c.args.self.now c.args.number same tells
