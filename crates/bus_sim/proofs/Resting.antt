-- Where nothing is due at its end, a wait leaves a settled line settled: after each event the gateway has put what it could put, so time alone puts
-- nothing.
use Rattle.std.proofs.Common.{◌≡◌, ℕ, zero, suc, ◌+◌, ◌<◌, ◌≤◌, Bool, true, false, List, [], ◌∷◌, drop, Option, Some, None, refl, ap, sym, subst, arith, add-zero}
use Rattle.knx_model.specs.declared.frames.cemi.Ldata.{Ldata}
use Rattle.knx_model.specs.Cemi.{Written as cemi_octets}
use Rattle.line_model.specs.Fresh.{IsFresh, HasNothingToSend, Settled}
use Rattle.line_model.specs.Gateway.{Channel, Request, next_put}
use Rattle.line_model.specs.Legal.{MayHappen}
use Rattle.line_model.specs.Tunnel.{Mode, Commissions, Serves, Tunnel, after, puts}
use Rattle.line_model.specs.World.{World, Event, Pass, now, replay, step, tunnel_event}
use Rattle.bus_sim.specs.RunNow.{RunNow, RunState, Keeps, mode, seen, world as world_of}
use Rattle.bus_sim.specs.Turns.{PassesQuietly}
use Rattle.bus_sim.specs.Went.{Went, world}

-- ---- what the gateway puts next

abbrev pub puts_none : Tunnel → Type 0
puts_none t = next_put t.gateway.channel t.gateway.waiting ≡ None

one_is_out : (c : Channel) (r : Request) (frames : List Ldata) → next_put (Some (record c { outstanding = Some r })) frames ≡ None
one_is_out c r [] = refl
one_is_out c r (frame ∷ frames) = refl

has_put : (t : Tunnel) (o : Option (Channel × Ldata)) → next_put t.gateway.channel t.gateway.waiting ≡ o → puts_none (puts t o)
has_put t None e = e
has_put t (Some (c, frame)) e = one_is_out c (record { frame = cemi_octets frame; repeated = false; sent = t.now }) (drop 1 t.gateway.waiting)

pub rests : (start : World) (events : List Event) → IsFresh start → puts_none (replay start events).tunnel
rests start [] fresh = ap (λ (t : Tunnel). next_put t.gateway.channel t.gateway.waiting) fresh.tunnel
rests start (e ∷ events) fresh =
    let t : Tunnel = after (replay start events).tunnel (tunnel_event (replay start events) e) in
    has_put t (next_put t.gateway.channel t.gateway.waiting) refl

-- ---- time alone

later : World → ℕ → World
later w ms = record w { tunnel = record w.tunnel { now = w.tunnel.now + ms } }

passes_alone : (w : World) (ms : ℕ) → puts_none w.tunnel → step w (Pass ms) ≡ later w ms
unfolding later
passes_alone w ms none = ap (λ o. record { tunnel = puts (record w.tunnel { now = w.tunnel.now + ms }) o; devices = w.devices; echo = w.echo }) none

settled_later : (m : Mode) (w : World) (ms : ℕ) → Settled m w → HasNothingToSend (later w ms) (now (later w ms)) → Settled m (later w ms)
unfolding later
settled_later Commissions w ms s nothing = record { tunnel = record { up = s.tunnel.up; down = s.tunnel.down; bus = s.tunnel.bus }; nothing_to_send = nothing }
settled_later Serves w ms s nothing = record { tunnel = record { up = s.tunnel.up; down = s.tunnel.down; bus = s.tunnel.bus }; nothing_to_send = nothing }

nothing_now : (w : World) → HasNothingToSend w (now w) → HasNothingToSend (later w 0) (now (later w 0))
unfolding later
nothing_now w h = subst (HasNothingToSend (later w 0)) (sym (add-zero (now w))) (record { devices = h.devices; gateway = h.gateway })

-- ---- a wait of a run

abbrev IsSilent : World → Type 0
IsSilent w = HasNothingToSend w (now w)

module _ (old new : RunState) (ms : ℕ) (keeps : Keeps (seen old)) (settled : Settled (mode (seen old)) (world old)) (went : Went old (Pass ms) new) where
  after_it : world new ≡ later (world old) ms
  after_it = let same : world new ≡ step (world old) (Pass ms) = ap (λ (r : RunNow). world_of r) went in
      subst (λ w. world new ≡ w) (passes_alone (world old) ms (rests _ old.events keeps.fresh)) same

  pub ends_settled : IsSilent (world new) → Settled (mode (seen old)) (world new)
  ends_settled silent = subst (Settled (mode (seen old))) (sym after_it) (settled_later (mode (seen old)) (world old) ms settled (subst IsSilent after_it silent))

  -- where something is due after it, some time has passed
  no_time : ms ≡ 0 → IsSilent (world new)
  no_time none = subst IsSilent (sym after_it) (subst (λ k. IsSilent (later (world old) k)) (sym none) (nothing_now (world old) settled.nothing_to_send))

  pub some_time : (left : ℕ) → ms ≤ left → (1 ≤ left → 1 ≤ ms) → ((ms ≡ left) × IsSilent (world new) → ⊥) → 0 < ms
  some_time left few some due = by_time ms refl
    where
      by_time : (k : ℕ) → ms ≡ k → 0 < ms
      by_time zero none = by_left left refl
        where
          by_left : (l : ℕ) → left ≡ l → 0 < ms
          by_left zero e = absurd (due (let a = none in let b = e in omega arith, no_time none))
          by_left (suc l) e = omega (arith, some (omega (arith, e)))
      by_time (suc k) e = omega (arith, e)

pub passes_so : (old new : RunState) (ms left : ℕ) → ms ≡ left → Settled (mode (seen old)) (world old) → Went old (Pass ms) new → MayHappen (mode (seen old)) (world old) (Pass ms) → Settled (mode (seen old)) (world new) → PassesQuietly left old new
passes_so old new ms left all settled went may ends =
    subst (λ k. PassesQuietly k old new) all (record { passes = record { settled = settled; went = went; may = may }; ends = ends })

pub untrue : (b : Bool) → b ≡ false → b ≡ true → ⊥
untrue b none some = cc
