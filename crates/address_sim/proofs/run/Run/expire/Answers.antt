use Rattle.std.proofs.Common.{◌≡◌, ℕ, ◌+◌, ◌^◌, ◌<◌, List, length, refl, sym, subst}
use Rattle.line_model.specs.Gateway.{gateway_expired, Nothing}
use Rattle.tunnel_sim.specs.Tunnels.{tunnel_now}
use Rattle.address_world.specs.AddressWorld.{AddressWorld, AddressEvent, GwRepeat, GwClose, replay, step}
use Rattle.address_sim.specs.Told.{start_of}
use Rattle.address_sim.specs.Turns.{RunState, GoesUnseen, IsQuiet, NothingDue, begun_of, world}
use Rattle.address_sim.proofs.Held.{held_after, no_entry, unseen_so}
use Rattle.address_sim.proofs.Quiet.{closes_so, close_quiet, repeat_quiet, repeats_so}
use Rattle.address_sim.proofs.Seen.{timeless}
use Rattle.address_sim.proofs.run.Run.expire.Goals as goal

pub invariant_of-self-in-Repeat : goal.invariant_of-self-in-Repeat
invariant_of-self-in-Repeat c =
    let w : AddressWorld = replay (start_of (begun_of c.self.inside.begun)) c.self.inside.events.list in
    let so = repeats_so w.tunnel (sym (c.in-Repeat.ensures.answer w.tunnel c.self.invariant.tunnel)) in
    held_after (begun_of c.self.inside.begun) c.self.inside.events.list c.self.inside.events.list c.push.new.self.list (tunnel_now c.self.inside.tunnel) (tunnel_now c.expire.new.self) c.self.inside.units c.self.inside.units
    c.self.inside.entries c.self.inside.entries c.self.inside.broadcasts c.self.inside.broadcasts GwRepeat refl c.push.ensures.list c.self.invariant (subst (λ (v : RunState). length v.events + 1 < 2 ^ 63) (sym c.self.view_is) c.requires.few) (record {
      tunnel = c.in-Repeat.ensures.repeats refl;
      units = c.self.invariant.units;
      counted = c.self.invariant.counted;
      entries = no_entry (start_of (begun_of c.self.inside.begun)) c.self.inside.events.list GwRepeat c.self.inside.entries refl c.self.invariant.entries;
      broadcast = c.self.invariant.broadcast;
      may = record { tunnel = so.may; units = tt };
      next = so.due;
    })

pub returns-in-Repeat-clause-did : goal.returns-in-Repeat-clause-did
returns-in-Repeat-clause-did c = λ did.
    let w : AddressWorld = replay (start_of (begun_of c.self.inside.begun)) c.self.inside.events.list in
    let so = repeats_so w.tunnel (sym (c.in-Repeat.ensures.answer w.tunnel c.self.invariant.tunnel)) in
    subst (λ (v : RunState). GoesUnseen v (record { begun = begun_of c.self.inside.begun; events = c.push.new.self.list; room = c.push.new.self.room })) c.self.view_is
    (unseen_so (begun_of c.self.inside.begun) c.self.inside.events.list c.self.inside.events.list c.push.new.self.list c.self.inside.events.room c.push.new.self.room GwRepeat refl refl c.push.ensures.list (record { tunnel = so.may; units = tt }) so.due)

pub returns-in-Repeat-clause-after : goal.returns-in-Repeat-clause-after
returns-in-Repeat-clause-after c =
    let w : AddressWorld = replay (start_of (begun_of c.self.inside.begun)) c.self.inside.events.list in
    let so = repeats_so w.tunnel (sym (c.in-Repeat.ensures.answer w.tunnel c.self.invariant.tunnel)) in
    subst (λ (es : List AddressEvent). NothingDue (replay (start_of (begun_of c.self.inside.begun)) es)) (sym c.push.ensures.list)
    (subst (λ (n : ℕ). gateway_expired (step w GwRepeat).tunnel.gateway n ≡ Nothing) (sym (timeless w GwRepeat refl)) so.rests)

pub returns-in-Repeat-clause-quiet : goal.returns-in-Repeat-clause-quiet
returns-in-Repeat-clause-quiet c = λ quiet.
    let w : AddressWorld = replay (start_of (begun_of c.self.inside.begun)) c.self.inside.events.list in
    subst (λ (es : List AddressEvent). IsQuiet (replay (start_of (begun_of c.self.inside.begun)) es)) (sym c.push.ensures.list) (repeat_quiet w (subst (λ (v : RunState). IsQuiet (world v)) (sym c.self.view_is) quiet))

pub invariant_of-self-in-Closed : goal.invariant_of-self-in-Closed
invariant_of-self-in-Closed c =
    let w : AddressWorld = replay (start_of (begun_of c.self.inside.begun)) c.self.inside.events.list in
    let so = closes_so w.tunnel (sym (c.in-Closed.ensures.answer w.tunnel c.self.invariant.tunnel)) in
    held_after (begun_of c.self.inside.begun) c.self.inside.events.list c.self.inside.events.list c.push-in-Closed.new.self.list (tunnel_now c.self.inside.tunnel) (tunnel_now c.expire.new.self) c.self.inside.units c.self.inside.units
    c.self.inside.entries c.self.inside.entries c.self.inside.broadcasts c.self.inside.broadcasts GwClose refl c.push-in-Closed.ensures.list c.self.invariant (subst (λ (v : RunState). length v.events + 1 < 2 ^ 63) (sym c.self.view_is) c.requires.few) (record {
      tunnel = c.in-Closed.ensures.closes refl;
      units = c.self.invariant.units;
      counted = c.self.invariant.counted;
      entries = no_entry (start_of (begun_of c.self.inside.begun)) c.self.inside.events.list GwClose c.self.inside.entries refl c.self.invariant.entries;
      broadcast = c.self.invariant.broadcast;
      may = record { tunnel = so.may; units = tt };
      next = so.due;
    })

pub returns-in-Closed-clause-did : goal.returns-in-Closed-clause-did
returns-in-Closed-clause-did c = λ did.
    let w : AddressWorld = replay (start_of (begun_of c.self.inside.begun)) c.self.inside.events.list in
    let so = closes_so w.tunnel (sym (c.in-Closed.ensures.answer w.tunnel c.self.invariant.tunnel)) in
    subst (λ (v : RunState). GoesUnseen v (record { begun = begun_of c.self.inside.begun; events = c.push-in-Closed.new.self.list; room = c.push-in-Closed.new.self.room })) c.self.view_is
    (unseen_so (begun_of c.self.inside.begun) c.self.inside.events.list c.self.inside.events.list c.push-in-Closed.new.self.list c.self.inside.events.room c.push-in-Closed.new.self.room GwClose refl refl c.push-in-Closed.ensures.list (record { tunnel = so.may; units = tt }) so.due)

pub returns-in-Closed-clause-after : goal.returns-in-Closed-clause-after
returns-in-Closed-clause-after c =
    let w : AddressWorld = replay (start_of (begun_of c.self.inside.begun)) c.self.inside.events.list in
    let so = closes_so w.tunnel (sym (c.in-Closed.ensures.answer w.tunnel c.self.invariant.tunnel)) in
    subst (λ (es : List AddressEvent). NothingDue (replay (start_of (begun_of c.self.inside.begun)) es)) (sym c.push-in-Closed.ensures.list)
    (subst (λ (n : ℕ). gateway_expired (step w GwClose).tunnel.gateway n ≡ Nothing) (sym (timeless w GwClose refl)) so.rests)

pub returns-in-Closed-clause-quiet : goal.returns-in-Closed-clause-quiet
returns-in-Closed-clause-quiet c = λ quiet.
    let w : AddressWorld = replay (start_of (begun_of c.self.inside.begun)) c.self.inside.events.list in
    subst (λ (es : List AddressEvent). IsQuiet (replay (start_of (begun_of c.self.inside.begun)) es)) (sym c.push-in-Closed.ensures.list) (close_quiet w (subst (λ (v : RunState). IsQuiet (world v)) (sym c.self.view_is) quiet))
