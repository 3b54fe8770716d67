use Rattle.std.proofs.Common.{◌≡◌, suc, ◌+◌, List, Some, true, refl, ap, sym, subst, ◌∙◌, arith}
use Rattle.knx_model.specs.declared.frames.cemi.Ldata.{Ldata}
use Rattle.line_model.specs.Tunnel as tunnel
use Rattle.line_model.specs.Tunnel.{Carried}
use Rattle.tunnel_sim.specs.Tunnels.{IsTunnel, tunnel_now}
use Rattle.address_world.specs.declared.unit.UnitLoss.{UnitLoss}
use Rattle.address_world.specs.AddressWorld.{AddressWorld, Bus, next_frame, replay}
use Rattle.address_law.specs.Calm.{AllSent}
use Rattle.address_sim.specs.Follows.{IsInPlace, broadcasts}
use Rattle.address_sim.specs.Losses.{without}
use Rattle.address_sim.specs.Told.{start_of}
use Rattle.address_sim.specs.Turns.{RunState, GoesUnseen, begun_of, world}
use Rattle.address_sim.specs.Units.{AreUnits}
use Rattle.address_sim.proofs.Carried.{all_got, bus_may, carried_on, carried_so, counts, roomy, to_a_group, to_all}
use Rattle.address_sim.proofs.Held.{few_broadcasts, held_after, no_entry, unseen_so}
use Rattle.address_sim.proofs.run.Run.carry_to_all.Goals as goal

pub overflow_add-n : goal.overflow_add-n
overflow_add-n c = omega (arith, c.self.invariant.broadcast, few_broadcasts (start_of (begun_of c.self.inside.begun)) c.self.inside.events.list, c.self.invariant.few)

next_is : (c : goal.After-carried) → next_frame (replay (start_of (begun_of c.self.inside.begun)) c.self.inside.events.list) ≡ Some c.args.frame
next_is c = subst (λ (v : RunState). next_frame (world v) ≡ Some c.args.frame) (sym c.self.view_is) c.requires.next

in_place : (c : goal.After-carried) → IsInPlace c.self.inside.begun.losses (start_of (begun_of c.self.inside.begun)) c.self.inside.events.list (Bus (without c.as_slice-losses.result.now (c.self.inside.broadcasts + 1)))
in_place c =
    let b = begun_of c.self.inside.begun in
    let w : AddressWorld = replay (start_of b) c.self.inside.events.list in
    carried_so c.self.inside.begun.losses w c.args.frame (suc (broadcasts (start_of b) c.self.inside.events.list)) (without c.as_slice-losses.result.now (c.self.inside.broadcasts + 1)) (next_is c)
    (ap (λ (ls : List UnitLoss). without ls (c.self.inside.broadcasts + 1)) c.as_slice-losses.ensures
    ∙ to_all c.self.inside.begun.losses (c.self.inside.broadcasts + 1) (suc (broadcasts (start_of b) c.self.inside.events.list)) c.args.frame c.requires.broadcast (omega (arith, c.self.invariant.broadcast)))

pub invariant_of-self-2 : goal.invariant_of-self-2
invariant_of-self-2 c =
    let b = begun_of c.self.inside.begun in
    let w : AddressWorld = replay (start_of b) c.self.inside.events.list in
    let left_out = without c.as_slice-losses.result.now (c.self.inside.broadcasts + 1) in
    let sent : AllSent w.units = subst (λ (v : RunState). AllSent (world v).units) (sym c.self.view_is) c.requires.sent in
    let one_more = counts (start_of b) c.self.inside.events.list left_out c.args.frame true (next_is c) c.requires.broadcast in
    held_after b c.self.inside.events.list c.reserve.new.self.list c.push.new.self.list (tunnel_now c.self.inside.tunnel) (tunnel_now c.carried.new.self) c.self.inside.units c.get_all.new.self
    c.self.inside.entries c.self.inside.entries c.self.inside.broadcasts (c.self.inside.broadcasts + 1) (Bus left_out) c.reserve.ensures.list c.push.ensures.list c.self.invariant c.in_ok-reserve.ensures.few (record {
      tunnel = carried_on w c.args.frame left_out true (tunnel_now c.self.inside.tunnel) (tunnel_now c.carried.new.self) (next_is c) (to_a_group w c.args.frame c.requires.broadcast)
          (λ t held. subst (λ (con : Ldata). IsTunnel (tunnel_now c.carried.new.self) (tunnel.step t (Carried con))) c.confirmation.ensures (c.carried.ensures t (roomy (tunnel_now c.self.inside.tunnel) _ t c.reserve-2.ensures.items held)));
      units = subst (AreUnits c.get_all.new.self) (all_got w c.args.frame left_out (next_is c)) (c.get_all.ensures.units c.args.frame w.units c.self.invariant.units sent c.broadcast.ensures);
      counted = c.get_all.ensures.counted c.self.inside.events.list c.self.invariant.counted;
      entries = no_entry (start_of b) c.self.inside.events.list (Bus left_out) c.self.inside.entries refl c.self.invariant.entries;
      broadcast = omega (arith, c.self.invariant.broadcast, one_more);
      may = bus_may w c.args.frame left_out (next_is c);
      next = in_place c;
    })

pub returns-clause-goes : goal.returns-clause-goes
returns-clause-goes c =
    let b = begun_of c.self.inside.begun in
    let w : AddressWorld = replay (start_of b) c.self.inside.events.list in
    let left_out = without c.as_slice-losses.result.now (c.self.inside.broadcasts + 1) in
    subst (λ (v : RunState). GoesUnseen v (record { begun = b; events = c.push.new.self.list; room = c.push.new.self.room })) c.self.view_is
    (unseen_so b c.self.inside.events.list c.reserve.new.self.list c.push.new.self.list c.self.inside.events.room c.push.new.self.room (Bus left_out) refl c.reserve.ensures.list c.push.ensures.list (bus_may w c.args.frame left_out (next_is c)) (in_place c))
