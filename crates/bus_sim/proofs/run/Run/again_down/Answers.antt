use Rattle.std.proofs.Common.{subst}
use Rattle.std.specs.Prelude.{slice_get}
use Rattle.line_model.specs.Network.{OfSent}
use Rattle.line_model.specs.World.{Down}
use Rattle.network_sim.specs.Window.{IsDeliverable}
use Rattle.bus_sim.specs.RunNow.{RunState}
use Rattle.bus_sim.specs.Went.{IsRight}
use Rattle.bus_sim.proofs.Meets.{of_some}
use Rattle.bus_sim.proofs.NextEvents.{again_down_right, again_down_there}
use Rattle.bus_sim.proofs.run.Run.again_down.Goals as goal

pub unwrap-requires : goal.unwrap-requires
unwrap-requires c = again_down_there c.self.inside.begun c.self.inside.events.list c.self.inside.index c.self.inside.line c.self.inside.counts c.self.inside.owed.list c.self.invariant c.args.number c.again_down.result c.args.self.now c.self.view_is c.requires c.again_down.ensures.possible

pub returns-clause-deliverable : goal.returns-clause-deliverable
returns-clause-deliverable c = subst (λ (v : RunState). OfSent IsDeliverable (slice_get v.line.tunnel.down.kept c.unwrap.result)) c.self.view_is
    (of_some (λ age. OfSent IsDeliverable (slice_get c.self.inside.line.tunnel.down.kept age)) c.again_down.result c.unwrap.result c.unwrap.ensures c.again_down.ensures.deliverable)

pub returns-clause-right : goal.returns-clause-right
returns-clause-right c = of_some (λ age. IsRight c.args.self.now (Down age)) c.again_down.result c.unwrap.result c.unwrap.ensures
    (again_down_right c.self.inside.begun c.self.inside.events.list c.self.inside.index c.self.inside.line c.self.inside.counts c.self.inside.owed.list c.self.invariant c.args.number c.again_down.result c.args.self.now c.self.view_is c.requires c.again_down.ensures.age c.again_down.ensures.allowed)
