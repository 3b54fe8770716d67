use Rattle.std.proofs.Common.{refl}
use Rattle.line_model.specs.World.{LoseDown}
use Rattle.bus_sim.proofs.Turning.{happens}
use Rattle.bus_sim.proofs.run.Run.next_down.Goals as goal

pub returns-in_ok-lose_down-clause-turns : goal.returns-in_ok-lose_down-clause-turns
returns-in_ok-lose_down-clause-turns c = λ left. happens c.args.self.now c.lose_down.new.self (LoseDown c.args.age) c.in_ok-lose_down.ensures.went (c.loses_down.ensures.lost c.if-loses_down.true) refl refl
