use Rattle.std.proofs.Common.{◌≡◌, ℕ, suc, List, Some, refl, ap, subst, ◌∙◌}
use Rattle.knx_model.specs.declared.frames.cemi.Ldata.{Ldata}
use Rattle.line_model.specs.Follows as follows
use Rattle.line_model.specs.Tunnel as tunnel
use Rattle.line_model.specs.World.{heard}
use Rattle.tunnel_sim.specs.Tunnels.{IsTunnel, at_gateway, tunnel_now}
use Rattle.address_world.specs.declared.unit.UnitLoss.{UnitLoss}
use Rattle.address_world.specs.AddressWorld.{AddressWorld, Respond, oldest_at, replay, response}
use Rattle.address_sim.specs.Follows.{IsInPlace, responses}
use Rattle.address_sim.specs.Losses.{loses_answer}
use Rattle.address_sim.specs.Told.{start_of}
use Rattle.address_sim.specs.Turns.{RunState, GoesUnseen, begun_of}
use Rattle.address_sim.proofs.Carried.{heard_on, heard_so, respond_may, roomy}
use Rattle.address_sim.proofs.Held.{held_after, no_entry, unseen_so}
use Rattle.address_sim.proofs.run.Run.respond.Goals as goal

found : (c : goal.After-push) → oldest_at c.in-Some.place (replay (start_of (begun_of c.self.inside.begun)) c.self.inside.events.list).units ≡ Some (response c.in-Some.address)
found c = c.in-Some.ensures.found (replay (start_of (begun_of c.self.inside.begun)) c.self.inside.events.list).units c.self.invariant.units

number : (c : goal.After-push) → c.next_number-n.result ≡ suc (responses c.in-Some.place c.self.inside.events.list)
number c = c.next_number-n.ensures c.self.inside.events.list c.self.invariant.counted c.self.invariant.few

in_place : (c : goal.After-push) → IsInPlace c.self.inside.begun.losses (start_of (begun_of c.self.inside.begun)) c.self.inside.events.list (Respond c.in-Some.place (at_gateway c.heard_if-at.result))
in_place c = heard_so c.loses_answer-lost.result c.heard_if-at.result c.heard_if-at.ensures.comes c.heard_if-at.ensures.lost
    ∙ ap follows.at_gateway (c.loses_answer-lost.ensures ∙ ap (λ (ls : List UnitLoss). loses_answer ls c.in-Some.place c.next_number-n.result) c.as_slice.ensures
    ∙ ap (λ (k : ℕ). loses_answer c.self.inside.begun.losses c.in-Some.place k) (number c))

pub invariant_of-self-2 : goal.invariant_of-self-2
invariant_of-self-2 c =
    let b = begun_of c.self.inside.begun in
    let w : AddressWorld = replay (start_of b) c.self.inside.events.list in
    held_after b c.self.inside.events.list c.reserve.new.self.list c.push.new.self.list (tunnel_now c.self.inside.tunnel) (tunnel_now c.hear.new.self) c.self.inside.units c.send.new.self
    c.self.inside.entries c.self.inside.entries c.self.inside.broadcasts c.self.inside.broadcasts (Respond c.in-Some.place (at_gateway c.heard_if-at.result)) c.reserve.ensures.list c.push.ensures.list c.self.invariant c.in_ok-reserve.ensures.few (record {
      tunnel = heard_on w c.in-Some.place c.heard_if-at.result (response c.in-Some.address) (tunnel_now c.self.inside.tunnel) (tunnel_now c.hear.new.self) (found c)
          (λ t held. subst (λ (frame : Ldata). IsTunnel (tunnel_now c.hear.new.self) (tunnel.step t (heard (at_gateway c.heard_if-at.result) (Some frame)))) c.response.ensures
          (c.hear.ensures t (roomy (tunnel_now c.self.inside.tunnel) _ t c.reserve-2.ensures.items held)));
      units = c.send.ensures.units w.units c.self.invariant.units;
      counted = c.send.ensures.counted c.self.inside.events.list (at_gateway c.heard_if-at.result) c.self.invariant.counted (number c);
      entries = no_entry (start_of b) c.self.inside.events.list (Respond c.in-Some.place (at_gateway c.heard_if-at.result)) c.self.inside.entries refl c.self.invariant.entries;
      broadcast = c.self.invariant.broadcast;
      may = respond_may w c.in-Some.place (at_gateway c.heard_if-at.result) (response c.in-Some.address) (found c);
      next = in_place c;
    })

pub returns-clause-did : goal.returns-clause-did
returns-clause-did c = λ did.
    let b = begun_of c.self.inside.begun in
    let w : AddressWorld = replay (start_of b) c.self.inside.events.list in
    subst (λ (v : RunState). GoesUnseen v (record { begun = b; events = c.push.new.self.list; room = c.push.new.self.room })) c.self.view_is
    (unseen_so b c.self.inside.events.list c.reserve.new.self.list c.push.new.self.list c.self.inside.events.room c.push.new.self.room (Respond c.in-Some.place (at_gateway c.heard_if-at.result)) refl c.reserve.ensures.list c.push.ensures.list
    (respond_may w c.in-Some.place (at_gateway c.heard_if-at.result) (response c.in-Some.address) (found c)) (in_place c))
