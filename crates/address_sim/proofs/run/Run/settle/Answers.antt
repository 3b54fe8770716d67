use Rattle.address_sim.proofs.Polling.{stays_more}
use Rattle.address_sim.proofs.Waiting.{got_at_once}
use Rattle.address_sim.proofs.run.Run.settle.Goals as goal

pub returns-in-Some-clause-settled : goal.returns-in-Some-clause-settled
returns-in-Some-clause-settled c = got_at_once c.in-Some.octets c.args.self.now c.make_room.new.self c.down.new.self (stays_more c.args.self.now c.loop-self.self c.make_room.new.self c.loop-self.invariant c.make_room.ensures.stays) c.in-Some.ensures.got
