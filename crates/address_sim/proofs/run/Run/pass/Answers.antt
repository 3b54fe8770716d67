use Rattle.std.proofs.Common.{◌≡◌, ℕ, ◌+◌, ◌-◌, ◌^◌, ◌<◌, ◌≤◌, List, length, refl, ap, sym, subst, ◌∙◌, arith}
use Rattle.std.specs.Prelude.{min}
use Rattle.knx_model.specs.Connection.{last_time}
use Rattle.line_model.specs.Record.{Quiet}
use Rattle.line_model.specs.Tunnel as tunnel
use Rattle.line_model.specs.Tunnel.{Tunnel}
use Rattle.tunnel_sim.specs.Tunnels.{IsTunnel, tunnel_now}
use Rattle.address_world.specs.AddressWorld.{AddressWorld, AddressEvent, Pass, replay}
use Rattle.address_sim.specs.Told.{start_of}
use Rattle.address_sim.specs.Turns.{RunState, IsQuiet, IsRight, begun_of, now, world}
use Rattle.address_sim.proofs.Held.{held_after, one_entry}
use Rattle.address_sim.proofs.Quiet.{pass_quiet}
use Rattle.address_sim.proofs.Seen.{no_longer}
use Rattle.address_sim.proofs.run.Run.pass.Goals as goal

fits : (ms now held passed : ℕ) → now + ms ≤ last_time → now ≡ held → passed ≡ min ms (last_time - held) → passed ≡ ms
fits ms now held passed le same is = omega arith

pub overflow_add-self : goal.overflow_add-self
overflow_add-self c = omega (arith, c.self.invariant.entries, no_longer (start_of (begun_of c.self.inside.begun)) c.self.inside.events.list, c.self.invariant.few)

pub invariant_of-self : goal.invariant_of-self
invariant_of-self c =
    let w : AddressWorld = replay (start_of (begun_of c.self.inside.begun)) c.self.inside.events.list in
    let time : w.tunnel.now + c.args.ms ≤ last_time = subst (λ (v : RunState). now v + c.args.ms ≤ last_time) (sym c.self.view_is) c.requires.time in
    let right : IsRight (record { begun = begun_of c.self.inside.begun; events = c.self.inside.events.list; room = c.self.inside.events.room }) (Pass c.args.ms) = subst (λ (v : RunState). IsRight v (Pass c.args.ms)) (sym c.self.view_is) c.requires.right in
    let all : c.pass.result ≡ c.args.ms = fits c.args.ms w.tunnel.now c.self.inside.tunnel.time c.pass.result time c.self.invariant.tunnel.now (c.pass.ensures.value ∙ ap (λ (k : ℕ). min k (last_time - c.self.inside.tunnel.time)) c.from.ensures) in
    held_after (begun_of c.self.inside.begun) c.self.inside.events.list c.self.inside.events.list c.push.new.self.list (tunnel_now c.self.inside.tunnel) (tunnel_now c.pass.new.self) c.self.inside.units c.self.inside.units
    c.self.inside.entries (c.self.inside.entries + 1) c.self.inside.broadcasts c.self.inside.broadcasts (Pass c.args.ms) refl c.push.ensures.list c.self.invariant (subst (λ (v : RunState). length v.events + 1 < 2 ^ 63) (sym c.self.view_is) c.requires.room.few) (record {
      tunnel = subst (λ (k : ℕ). (t : Tunnel) → IsTunnel (tunnel_now c.self.inside.tunnel) t → IsTunnel (tunnel_now c.pass.new.self) (tunnel.step t (tunnel.Pass k))) all c.pass.ensures.next;
      units = c.self.invariant.units;
      counted = c.self.invariant.counted;
      entries = one_entry (start_of (begun_of c.self.inside.begun)) c.self.inside.events.list (Pass c.args.ms) Quiet c.self.inside.entries (c.self.inside.entries + 1) refl c.self.invariant.entries refl;
      broadcast = c.self.invariant.broadcast;
      may = right.may;
      next = right.next;
    })

pub returns-clause-quiet : goal.returns-clause-quiet
returns-clause-quiet c = λ quiet.
    let w : AddressWorld = replay (start_of (begun_of c.self.inside.begun)) c.self.inside.events.list in
    subst (λ (es : List AddressEvent). IsQuiet (replay (start_of (begun_of c.self.inside.begun)) es)) (sym c.push.ensures.list) (pass_quiet w c.args.ms (subst (λ (v : RunState). IsQuiet (world v)) (sym c.self.view_is) quiet))
