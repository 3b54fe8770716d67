use Rattle.bus_sim.proofs.NextEvents.{may_up, next_up_is}
use Rattle.bus_sim.proofs.run.Run.age_up.Goals as goal

pub returns-clause-may : goal.returns-clause-may
returns-clause-may c = may_up c.self.inside.begun c.self.inside.events.list c.self.inside.index c.self.inside.line c.self.inside.counts c.self.inside.owed.list c.self.invariant c.next_up.result c.args.self.now c.self.view_is c.next_up.ensures.allowed

pub returns-clause-value : goal.returns-clause-value
returns-clause-value c = next_up_is c.self.inside.begun c.self.inside.events.list c.self.inside.index c.self.inside.line c.self.inside.counts c.self.inside.owed.list c.self.invariant c.next_up.result c.args.self.now c.self.view_is c.next_up.ensures.value
