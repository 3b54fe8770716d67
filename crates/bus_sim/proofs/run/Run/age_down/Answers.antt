use Rattle.bus_sim.proofs.NextEvents.{may_down, next_down_is}
use Rattle.bus_sim.proofs.run.Run.age_down.Goals as goal

pub returns-clause-may : goal.returns-clause-may
returns-clause-may c = may_down c.self.inside.begun c.self.inside.events.list c.self.inside.index c.self.inside.line c.self.inside.counts c.self.inside.owed.list c.self.invariant c.next_down.result c.args.self.now c.self.view_is c.next_down.ensures.allowed

pub returns-clause-value : goal.returns-clause-value
returns-clause-value c = next_down_is c.self.inside.begun c.self.inside.events.list c.self.inside.index c.self.inside.line c.self.inside.counts c.self.inside.owed.list c.self.invariant c.next_down.result c.args.self.now c.self.view_is c.next_down.ensures.value
