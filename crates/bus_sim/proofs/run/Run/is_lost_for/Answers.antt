use Rattle.bus_sim.specs.Begun.{said}
use Rattle.bus_sim.proofs.Wants.{lost_so}
use Rattle.bus_sim.proofs.run.Run.is_lost_for.Goals as goal

pub returns : goal.returns
returns c = lost_so c.self.inside.begun c.self.inside.events.list c.self.inside.index c.self.inside.line c.self.inside.counts c.self.inside.owed.list c.self.invariant c.args.device c.loses_to.result c.saturating_add-n.result c.of.result c.args.self.now (c.loses_to.ensures (said c.self.inside.begun) c.self.invariant.indexed) c.saturating_add-n.ensures c.of.ensures c.self.view_is
