use Rattle.bus_sim.proofs.Turning.{ok_carried}
use Rattle.bus_sim.proofs.run.Run.next_frame.Goals as goal

pub returns-clause-happens : goal.returns-clause-happens
returns-clause-happens c = ok_carried c.carry.result c.args.self.now c.carry.new.self c.args.frame.now c.requires.due c.carry.ensures.carries c.carry.ensures.right
