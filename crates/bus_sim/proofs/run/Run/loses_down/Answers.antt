use Rattle.std.proofs.Common.{◌∙◌}
use Rattle.bus_sim.specs.Begun.{said}
use Rattle.bus_sim.specs.RunNow.{seen}
use Rattle.bus_sim.proofs.NextEvents.{down_says, lost_down_right, got_right}
use Rattle.bus_sim.proofs.run.Run.loses_down.Goals as goal

pub returns-clause-lost : goal.returns-clause-lost
returns-clause-lost c = λ yes. lost_down_right (seen c.args.self.now) c.args.age c.requires.free
    (record { next = c.requires.next; says = down_says c.self.inside.begun c.self.inside.events.list c.self.inside.index c.self.inside.line c.self.inside.counts c.self.inside.owed.list c.self.invariant c.args.age c.number_down.result c.loses_down.result c.args.self.now c.self.view_is (c.loses_down.ensures (said c.self.inside.begun) c.self.invariant.indexed) c.number_down.ensures.exact ∙ yes })
    c.requires.may

pub returns-clause-got : goal.returns-clause-got
returns-clause-got c = λ no. got_right (seen c.args.self.now) c.args.age c.requires.free
    (record { next = c.requires.next; says = down_says c.self.inside.begun c.self.inside.events.list c.self.inside.index c.self.inside.line c.self.inside.counts c.self.inside.owed.list c.self.invariant c.args.age c.number_down.result c.loses_down.result c.args.self.now c.self.view_is (c.loses_down.ensures (said c.self.inside.begun) c.self.invariant.indexed) c.number_down.ensures.exact ∙ no })
    c.requires.may
