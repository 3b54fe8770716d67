use Rattle.std.proofs.Common.{◌∙◌}
use Rattle.bus_sim.specs.Begun.{said}
use Rattle.bus_sim.specs.RunNow.{seen}
use Rattle.bus_sim.proofs.NextEvents.{up_says, lost_up_right, comes_right, lines_of}
use Rattle.bus_sim.proofs.run.Run.loses_up.Goals as goal

pub returns-clause-lost : goal.returns-clause-lost
returns-clause-lost c = λ yes. lost_up_right (seen c.args.self.now) c.args.age c.requires.free
    (record { next = c.requires.next; says = up_says c.self.inside.begun c.self.inside.events.list c.self.inside.index c.self.inside.line c.self.inside.counts c.self.inside.owed.list c.self.invariant c.args.age c.number_up.result c.loses_up.result c.args.self.now c.self.view_is (c.loses_up.ensures (said c.self.inside.begun) c.self.invariant.indexed) c.number_up.ensures.exact ∙ yes })
    c.requires.may

pub returns-clause-comes : goal.returns-clause-comes
returns-clause-comes c = λ no. comes_right (seen c.args.self.now) c.args.age (lines_of c.self.inside.begun c.self.inside.events.list c.self.inside.index c.self.inside.line c.self.inside.counts c.self.inside.owed.list c.self.invariant c.args.self.now c.self.view_is) c.requires.free
    (record { next = c.requires.next; says = up_says c.self.inside.begun c.self.inside.events.list c.self.inside.index c.self.inside.line c.self.inside.counts c.self.inside.owed.list c.self.invariant c.args.age c.number_up.result c.loses_up.result c.args.self.now c.self.view_is (c.loses_up.ensures (said c.self.inside.begun) c.self.invariant.indexed) c.number_up.ensures.exact ∙ no })
    c.requires.may
