use Rattle.std.proofs.Common.{ap, sym, ◌∙◌}
use Rattle.line_model.specs.Follows.{at_gateway}
use Rattle.bus_sim.specs.Begun.{said}
use Rattle.bus_sim.proofs.Numbers.{heard_is}
use Rattle.bus_sim.proofs.run.Run.at_gateway.Goals as goal

pub returns-then-loses_from : goal.returns-then-loses_from
returns-then-loses_from c =
    ap at_gateway (sym c.if-loses_from.true)
    ∙ heard_is c.self.inside.begun c.self.inside.events.list c.self.inside.index c.self.inside.line c.self.inside.counts c.self.inside.owed.list c.self.invariant c.args.device c.loses_from.result c.saturating_add-n.result c.of.result c.args.self.now
    (c.loses_from.ensures (said c.self.inside.begun) c.self.invariant.indexed) c.saturating_add-n.ensures c.of.ensures c.self.view_is

pub returns-else-loses_from : goal.returns-else-loses_from
returns-else-loses_from c =
    ap at_gateway (sym c.if-loses_from.false)
    ∙ heard_is c.self.inside.begun c.self.inside.events.list c.self.inside.index c.self.inside.line c.self.inside.counts c.self.inside.owed.list c.self.invariant c.args.device c.loses_from.result c.saturating_add-n.result c.of.result c.args.self.now
    (c.loses_from.ensures (said c.self.inside.begun) c.self.invariant.indexed) c.saturating_add-n.ensures c.of.ensures c.self.view_is
