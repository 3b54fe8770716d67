use Rattle.std.proofs.Common.{ap, sym, ◌∙◌}
use Rattle.line_model.specs.Deliveries.{refused_if}
use Rattle.bus_sim.specs.Begun.{said}
use Rattle.bus_sim.proofs.Wants.{refused_so}
use Rattle.bus_sim.proofs.run.Run.delivery.Goals as goal

pub returns-in-Some : goal.returns-in-Some
returns-in-Some c =
    ap (refused_if c.args.age) (sym c.in-Some.is)
    ∙ refused_so c.self.inside.begun c.self.inside.events.list c.self.inside.index c.self.inside.line c.self.inside.counts c.self.inside.owed.list c.self.invariant c.args.age c.refuses.result c.saturating_add.result c.connects.result c.args.self.now
    (sym (c.is_connect.ensures _ c.self.invariant.pictured) ∙ c.if-not-is_connect.false) (c.refuses.ensures (said c.self.inside.begun) c.self.invariant.indexed) c.saturating_add.ensures c.connects.ensures c.self.view_is

pub returns-in-None : goal.returns-in-None
returns-in-None c =
    ap (refused_if c.args.age) (sym c.in-None.is)
    ∙ refused_so c.self.inside.begun c.self.inside.events.list c.self.inside.index c.self.inside.line c.self.inside.counts c.self.inside.owed.list c.self.invariant c.args.age c.refuses.result c.saturating_add.result c.connects.result c.args.self.now
    (sym (c.is_connect.ensures _ c.self.invariant.pictured) ∙ c.if-not-is_connect.false) (c.refuses.ensures (said c.self.inside.begun) c.self.invariant.indexed) c.saturating_add.ensures c.connects.ensures c.self.view_is
