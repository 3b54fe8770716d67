use Rattle.std.proofs.Common.{◌≡◌, suc, [], Some, false, refl, sym, subst, ◌∙◌}
use Rattle.knx_model.specs.declared.frames.cemi.Ldata.{Ldata}
use Rattle.line_model.specs.Tunnel as tunnel
use Rattle.line_model.specs.Tunnel.{Carried}
use Rattle.tunnel_sim.specs.Tunnels.{IsTunnel, tunnel_now}
use Rattle.address_world.specs.AddressWorld.{AddressWorld, Bus, next_frame, replay}
use Rattle.address_sim.specs.Follows.{IsInPlace, broadcasts}
use Rattle.address_sim.specs.Told.{start_of}
use Rattle.address_sim.specs.Turns.{RunState, GoesUnseen, begun_of, world}
use Rattle.address_sim.specs.Units.{AreUnits}
use Rattle.address_sim.proofs.Carried.{bus_may, carried_on, carried_so, counts, none_got, roomy, to_none}
use Rattle.address_sim.proofs.Held.{held_after, no_entry, unseen_so}
use Rattle.address_sim.proofs.run.Run.carry_single.Goals as goal

next_is : (c : goal.After-carried) → next_frame (replay (start_of (begun_of c.self.inside.begun)) c.self.inside.events.list) ≡ Some c.args.frame
next_is c = subst (λ (v : RunState). next_frame (world v) ≡ Some c.args.frame) (sym c.self.view_is) c.requires.next

in_place : (c : goal.After-carried) → IsInPlace c.self.inside.begun.losses (start_of (begun_of c.self.inside.begun)) c.self.inside.events.list (Bus [])
in_place c =
    let b = begun_of c.self.inside.begun in
    carried_so c.self.inside.begun.losses (replay (start_of b) c.self.inside.events.list) c.args.frame (suc (broadcasts (start_of b) c.self.inside.events.list)) [] (next_is c)
    (to_none c.self.inside.begun.losses (suc (broadcasts (start_of b) c.self.inside.events.list)) c.args.frame c.requires.single)

pub invariant_of-self-2 : goal.invariant_of-self-2
invariant_of-self-2 c =
    let b = begun_of c.self.inside.begun in
    let w : AddressWorld = replay (start_of b) c.self.inside.events.list in
    let as_many = counts (start_of b) c.self.inside.events.list [] c.args.frame false (next_is c) c.requires.single in
    held_after b c.self.inside.events.list c.reserve.new.self.list c.push.new.self.list (tunnel_now c.self.inside.tunnel) (tunnel_now c.carried.new.self) c.self.inside.units c.self.inside.units
    c.self.inside.entries c.self.inside.entries c.self.inside.broadcasts c.self.inside.broadcasts (Bus []) c.reserve.ensures.list c.push.ensures.list c.self.invariant c.in_ok-reserve.ensures.few (record {
      tunnel = carried_on w c.args.frame [] c.confirms-is_confirmed.result (tunnel_now c.self.inside.tunnel) (tunnel_now c.carried.new.self) (next_is c) (c.confirms-is_confirmed.ensures w.units c.self.invariant.units)
          (λ t held. subst (λ (con : Ldata). IsTunnel (tunnel_now c.carried.new.self) (tunnel.step t (Carried con))) c.confirmation.ensures (c.carried.ensures t (roomy (tunnel_now c.self.inside.tunnel) _ t c.reserve-2.ensures.items held)));
      units = subst (AreUnits c.self.inside.units) (none_got w c.args.frame (next_is c) c.requires.single) c.self.invariant.units;
      counted = c.self.invariant.counted;
      entries = no_entry (start_of b) c.self.inside.events.list (Bus []) c.self.inside.entries refl c.self.invariant.entries;
      broadcast = c.self.invariant.broadcast ∙ as_many;
      may = bus_may w c.args.frame [] (next_is c);
      next = in_place c;
    })

pub returns-clause-goes : goal.returns-clause-goes
returns-clause-goes c =
    let b = begun_of c.self.inside.begun in
    let w : AddressWorld = replay (start_of b) c.self.inside.events.list in
    subst (λ (v : RunState). GoesUnseen v (record { begun = b; events = c.push.new.self.list; room = c.push.new.self.room })) c.self.view_is
    (unseen_so b c.self.inside.events.list c.reserve.new.self.list c.push.new.self.list c.self.inside.events.room c.push.new.self.room (Bus []) refl c.reserve.ensures.list c.push.ensures.list (bus_may w c.args.frame [] (next_is c)) (in_place c))
