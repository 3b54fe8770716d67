use Rattle.bus_sim.proofs.Turning.{ok_delivered}
use Rattle.bus_sim.proofs.run.Run.deliver_again.Goals as goal

pub returns-clause-happens : goal.returns-clause-happens
returns-clause-happens c = ok_delivered c.deliver_up.result c.args.self.now c.deliver_up.new.self c.again_up-age.result c.deliver_up.ensures.went c.again_up-age.ensures.right
