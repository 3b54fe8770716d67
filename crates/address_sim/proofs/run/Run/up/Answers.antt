use Rattle.std.proofs.Common.{◌≡◌, None, refl, sym, subst}
use Rattle.line_model.specs.Deliveries.{next_up}
use Rattle.tunnel_sim.specs.Tunnels.{tunnel_now}
use Rattle.address_world.specs.AddressWorld.{AddressWorld, Up, replay}
use Rattle.address_sim.specs.Told.{start_of}
use Rattle.address_sim.specs.Turns.{RunState, GoesUnseen, begun_of, world}
use Rattle.address_sim.proofs.Held.{can_count, held_after, no_entry, unseen_so}
use Rattle.address_sim.proofs.run.Run.up.Goals as goal

pub returns-in_default-clause-none : goal.returns-in_default-clause-none
returns-in_default-clause-none c = λ none.
    let w : AddressWorld = replay (start_of (begun_of c.self.inside.begun)) c.self.inside.events.list in
    (refl, subst (λ (v : RunState). next_up (world v).tunnel ≡ None) c.self.view_is (sym (c.in_default.ensures.value w.tunnel c.self.invariant.tunnel)))

pub invariant_of-self-2 : goal.invariant_of-self-2
invariant_of-self-2 c =
    let w : AddressWorld = replay (start_of (begun_of c.self.inside.begun)) c.self.inside.events.list in
    held_after (begun_of c.self.inside.begun) c.self.inside.events.list c.reserve.new.self.list c.push.new.self.list (tunnel_now c.self.inside.tunnel) (tunnel_now c.up.new.self) c.self.inside.units c.self.inside.units
    c.self.inside.entries c.self.inside.entries c.self.inside.broadcasts c.self.inside.broadcasts (Up c.in-Some.age) c.reserve.ensures.list c.push.ensures.list c.self.invariant c.in_ok-reserve.ensures.few (record {
      tunnel = λ t is. c.in_ok-up.ensures.next t is (can_count (tunnel_now c.self.inside.tunnel) w.tunnel _ c.self.invariant.tunnel c.self.invariant.numbered c.self.invariant.few).1;
      units = c.self.invariant.units;
      counted = c.self.invariant.counted;
      entries = no_entry (start_of (begun_of c.self.inside.begun)) c.self.inside.events.list (Up c.in-Some.age) c.self.inside.entries refl c.self.invariant.entries;
      broadcast = c.self.invariant.broadcast;
      may = record { tunnel = c.in-Some.ensures.may w.tunnel c.self.invariant.tunnel; units = tt };
      next = sym (c.in-Some.ensures.value w.tunnel c.self.invariant.tunnel);
    })

pub returns-clause-did : goal.returns-clause-did
returns-clause-did c = λ did.
    let w : AddressWorld = replay (start_of (begun_of c.self.inside.begun)) c.self.inside.events.list in
    subst (λ (v : RunState). GoesUnseen v (record { begun = begun_of c.self.inside.begun; events = c.push.new.self.list; room = c.push.new.self.room })) c.self.view_is
    (unseen_so (begun_of c.self.inside.begun) c.self.inside.events.list c.reserve.new.self.list c.push.new.self.list c.self.inside.events.room c.push.new.self.room (Up c.in-Some.age) refl c.reserve.ensures.list c.push.ensures.list
    (record { tunnel = c.in-Some.ensures.may w.tunnel c.self.invariant.tunnel; units = tt }) (sym (c.in-Some.ensures.value w.tunnel c.self.invariant.tunnel)))
