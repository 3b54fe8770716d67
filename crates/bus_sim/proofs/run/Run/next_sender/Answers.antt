use Rattle.bus_sim.proofs.NextEvents.{sender_is}
use Rattle.bus_sim.proofs.run.Run.next_sender.Goals as goal

pub returns-clause-found : goal.returns-clause-found
returns-clause-found c = sender_is c.self.inside.begun c.self.inside.events.list c.self.inside.index c.self.inside.line c.self.inside.counts c.self.inside.owed.list c.self.invariant c.next_sender.result c.args.self.now c.self.view_is c.next_sender.ensures.found
