use Rattle.std.proofs.Common.{subst}
use Rattle.address_world.specs.AddressWorld.{AddressWorld, Pass, replay}
use Rattle.address_sim.specs.Told.{start_of}
use Rattle.address_sim.specs.Turns.{RunState, IsCalm, IsRight, begun_of, world}
use Rattle.address_sim.proofs.Quiet.{still}
use Rattle.address_sim.proofs.run.Run.still_for.Goals as goal

pub returns-clause-right : goal.returns-clause-right
returns-clause-right c =
    let w : AddressWorld = replay (start_of (begun_of c.self.inside.begun)) c.self.inside.events.list in
    subst (λ (v : RunState). IsCalm (world v) → IsRight v (Pass c.still_for.result)) c.self.view_is
    (λ calm. record { may = record { tunnel = tt; units = tt }; next = still w c.still_for.result calm (c.still_for.ensures.still w.tunnel c.self.invariant.tunnel calm.due) })
