use Rattle.std.proofs.Common.{refl}
use Rattle.line_model.specs.World.{LoseUp}
use Rattle.bus_sim.proofs.Turning.{ok_happens, ok_delivered}
use Rattle.bus_sim.proofs.run.Run.next_up.Goals as goal

pub returns-then-loses_up-clause-happens : goal.returns-then-loses_up-clause-happens
returns-then-loses_up-clause-happens c = ok_happens c.lose_up.result c.args.self.now c.lose_up.new.self (LoseUp c.args.age) c.lose_up.ensures.went (c.loses_up.ensures.lost c.if-loses_up.true) refl refl

pub returns-else-loses_up-clause-happens : goal.returns-else-loses_up-clause-happens
returns-else-loses_up-clause-happens c = ok_delivered c.deliver_up.result c.args.self.now c.deliver_up.new.self c.args.age c.deliver_up.ensures.went (c.loses_up.ensures.comes c.if-loses_up.false)
