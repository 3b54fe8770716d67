use Rattle.std.proofs.Common.{◌+◌, ◌^◌, ◌<◌, length, refl, sym, subst, arith}
use Rattle.std.specs.Prelude.{slice_get}
use Rattle.line_model.specs.Record.{Got}
use Rattle.tunnel_sim.specs.Tunnels.{tunnel_now}
use Rattle.address_world.specs.AddressWorld.{AddressWorld, Down, replay}
use Rattle.address_sim.specs.Told.{start_of}
use Rattle.address_sim.specs.Turns.{RunState, Gets, NothingComes, Stays, begun_of, world}
use Rattle.address_sim.proofs.Seen.{no_longer}
use Rattle.address_sim.proofs.Held.{happens_so, held_after, one_entry}
use Rattle.address_sim.proofs.Polling.{IfNoneAny, got_so, short_so}
use Rattle.address_sim.proofs.run.Run.down.Goals as goal

pub overflow_add-self : goal.overflow_add-self
overflow_add-self c = omega (arith, c.self.invariant.entries, no_longer (start_of (begun_of c.self.inside.begun)) c.self.inside.events.list, c.self.invariant.few)

pub invariant_of-self : goal.invariant_of-self
invariant_of-self c =
    let w : AddressWorld = replay (start_of (begun_of c.self.inside.begun)) c.self.inside.events.list in
    let got = c.down-octets.ensures.got w.tunnel c.self.invariant.tunnel in
    held_after (begun_of c.self.inside.begun) c.self.inside.events.list c.self.inside.events.list c.push.new.self.list (tunnel_now c.self.inside.tunnel) (tunnel_now c.down-octets.new.self) c.self.inside.units c.self.inside.units
    c.self.inside.entries (c.self.inside.entries + 1) c.self.inside.broadcasts c.self.inside.broadcasts (Down c.in_ok-age.age) refl c.push.ensures.list c.self.invariant (subst (λ (v : RunState). length v.events + 1 < 2 ^ 63) (sym c.self.view_is) c.requires.few) (record {
      tunnel = c.down-octets.ensures.next;
      units = c.self.invariant.units;
      counted = c.self.invariant.counted;
      entries = one_entry (start_of (begun_of c.self.inside.begun)) c.self.inside.events.list (Down c.in_ok-age.age) (Got c.down-octets.result) c.self.inside.entries (c.self.inside.entries + 1)
          (got_so c.down-octets.result (slice_get w.tunnel.network.down c.in_ok-age.age) (short_so c.down-octets.result w.tunnel.network.down c.in_ok-age.age c.self.invariant.tunnel.short got) got) c.self.invariant.entries refl;
      broadcast = c.self.invariant.broadcast;
      may = record { tunnel = c.in_ok-age.ensures.may w.tunnel c.self.invariant.tunnel; units = tt };
      next = sym (c.in_ok-age.ensures.value w.tunnel c.self.invariant.tunnel);
    })

pub returns-clause-got : goal.returns-clause-got
returns-clause-got c =
    let w : AddressWorld = replay (start_of (begun_of c.self.inside.begun)) c.self.inside.events.list in
    let got = c.down-octets.ensures.got w.tunnel c.self.invariant.tunnel in
    subst (λ (v : RunState). Gets c.down-octets.result v (record { begun = begun_of c.self.inside.begun; events = c.push.new.self.list; room = c.push.new.self.room })) c.self.view_is (record {
      age = c.in_ok-age.age;
      happens = happens_so (begun_of c.self.inside.begun) c.self.inside.events.list c.self.inside.events.list c.push.new.self.list c.self.inside.events.room c.push.new.self.room (Down c.in_ok-age.age) refl c.push.ensures.list
          (record { tunnel = c.in_ok-age.ensures.may w.tunnel c.self.invariant.tunnel; units = tt }) (sym (c.in_ok-age.ensures.value w.tunnel c.self.invariant.tunnel));
      got = got;
      short = short_so c.down-octets.result w.tunnel.network.down c.in_ok-age.age c.self.invariant.tunnel.short got;
    })

pub returns-in_err-age-clause-none : goal.returns-in_err-age-clause-none
returns-in_err-age-clause-none c =
    let w : AddressWorld = replay (start_of (begun_of c.self.inside.begun)) c.self.inside.events.list in
    IfNoneAny c.from_residual.result (Stays c.args.self.now c.args.self.now × NothingComes (world c.args.self.now))
    (refl, subst (λ (v : RunState). NothingComes (world v)) c.self.view_is (sym (c.in_err-age.ensures.value w.tunnel c.self.invariant.tunnel)))
