use Rattle.std.proofs.Common.{subst}
use Rattle.std.specs.Prelude.{slice_get}
use Rattle.line_model.specs.Network.{OfSent}
use Rattle.network_sim.specs.Window.{IsDeliverable}
use Rattle.bus_sim.specs.Choices.{delivered}
use Rattle.bus_sim.specs.RunNow.{RunState}
use Rattle.bus_sim.specs.Went.{IsRight}
use Rattle.bus_sim.proofs.Meets.{of_some}
use Rattle.bus_sim.proofs.NextEvents.{again_up_right, again_up_there}
use Rattle.bus_sim.proofs.run.Run.again_up.Goals as goal

pub unwrap-requires : goal.unwrap-requires
unwrap-requires c = again_up_there c.self.inside.begun c.self.inside.events.list c.self.inside.index c.self.inside.line c.self.inside.counts c.self.inside.owed.list c.self.invariant c.args.number c.again_up.result c.args.self.now c.self.view_is c.requires c.again_up.ensures.possible

pub returns-clause-deliverable : goal.returns-clause-deliverable
returns-clause-deliverable c = subst (λ (v : RunState). OfSent IsDeliverable (slice_get v.line.tunnel.up.kept c.unwrap.result)) c.self.view_is
    (of_some (λ age. OfSent IsDeliverable (slice_get c.self.inside.line.tunnel.up.kept age)) c.again_up.result c.unwrap.result c.unwrap.ensures c.again_up.ensures.deliverable)

pub returns-clause-right : goal.returns-clause-right
returns-clause-right c = of_some (λ age. IsRight c.args.self.now (delivered c.args.self.now age)) c.again_up.result c.unwrap.result c.unwrap.ensures
    (again_up_right c.self.inside.begun c.self.inside.events.list c.self.inside.index c.self.inside.line c.self.inside.counts c.self.inside.owed.list c.self.invariant c.args.number c.again_up.result c.args.self.now c.self.view_is c.requires c.again_up.ensures.age c.again_up.ensures.allowed)
