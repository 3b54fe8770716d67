use Rattle.std.proofs.Common.{◌≡◌, [], refl, sym, subst}
use Rattle.address_world.specs.AddressWorld.{AddressWorld, replay}
use Rattle.address_sim.specs.Told.{start_of}
use Rattle.address_sim.specs.Turns.{RunState, begun_of, world}
use Rattle.address_sim.proofs.Carried.{nothing_waits}
use Rattle.address_sim.proofs.run.Run.carry.Goals as goal

pub returns-in_default-clause-none : goal.returns-in_default-clause-none
returns-in_default-clause-none c = λ none.
    let w : AddressWorld = replay (start_of (begun_of c.self.inside.begun)) c.self.inside.events.list in
    (refl, subst (λ (v : RunState). (world v).tunnel.gateway.bus ≡ []) c.self.view_is (nothing_waits w (sym (c.in_default.ensures.simulates w.tunnel.gateway c.self.invariant.tunnel.gateway))))
