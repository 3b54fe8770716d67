-- A device without power, put where there is none: nothing on the line changes by it. So what is told of a device that isn't there isn't so.
use Rattle.std.proofs.Common.{◌≡◌, ℕ, List, [], ◌∷◌, length, Bool, true, false, cond, Option, Some, None, refl, sym, ◌∙◌, ap, subst, arith, if◌then◌else◌}
use Rattle.std.specs.Prelude.{◌==◌}
use Rattle.std.proofs.lemmas.Bool.{eqb-true}
use Rattle.knx_model.specs.DeviceState.{DeviceState}
use Rattle.line_model.specs.Fresh.{IsFresh, IsAtRest}
use Rattle.line_model.specs.Legal.{DevicesAllow, MayHappen, IsLegal}
use Rattle.line_model.specs.Record.{noted, record_of, placed_if, placed, item_at}
use Rattle.line_model.specs.Tunnel.{Commissions}
use Rattle.line_model.specs.World.{World, Event, Devices, now, devices_after, step, replay}
use Rattle.line_law.proofs.Told.{has_memories}
use Rattle.line_law.proofs.Unpowered.{silent, with_devices, Beside, may_same, item_same, step_same, beside_step}

-- ---- a whole run

pub record Same (a : ℕ) (start silently : World) (events : List Event) : Type 0 where
  pub devices : Devices
  pub beside : Beside a devices (replay start events).devices
  pub world : replay silently events ≡ with_devices (replay start events) devices
  pub legal : IsLegal Commissions silently events
  pub recorded : record_of silently events ≡ record_of start events
  pub placed_so : placed silently events ≡ placed start events

abbrev pub joined : ℕ → Devices → Devices
joined a f b = if b == a then Some (silent a) else f b

eqb_self : (a : ℕ) → (a == a) ≡ true
eqb_self a = grind arith

pub joined_beside : (a : ℕ) (f : Devices) → f a ≡ None → Beside a (joined a f) f
joined_beside a f none =
    record {
      others = λ b n. ap (λ c. cond {A = Option DeviceState} c (Some (silent a)) (f b)) n;
      there = ap (λ c. cond {A = Option DeviceState} c (Some (silent a)) (f a)) (eqb_self a);
      none = none;
    }

pub joined_fresh : (a : ℕ) (start : World) → IsFresh start → IsFresh (with_devices start (joined a start.devices))
joined_fresh a start f = record { tunnel = f.tunnel; echo = f.echo; devices = λ b d e. by_bool b d (b == a) refl e } where
  by_bool : (b : ℕ) (d : DeviceState) (c : Bool) → (b == a) ≡ c → cond {A = Option DeviceState} c (Some (silent a)) (start.devices b) ≡ Some d → IsAtRest b d
  by_bool b d true q e = (let same : silent a ≡ d = cc in subst (IsAtRest b) same (record { capacities = has_memories; named = sym (eqb-true b a q); unconnected = refl; nothing_unsent = refl; nothing_got = refl }))
  by_bool b d false q e = f.devices b d e

pub same_run : (a : ℕ) (start : World) (g : Devices) → Beside a g start.devices → (events : List Event) → IsLegal Commissions start events → Same a start (with_devices start g) events
same_run a start g h [] legal = record { devices = g; beside = h; world = refl; legal = tt; recorded = refl; placed_so = refl }
same_run a start g h (e ∷ events) legal =
    let s : Same a start (with_devices start g) events = same_run a start g h events legal.1 in
    let w : World = replay start events in
    let v : World = with_devices start g in
    let may : DevicesAllow w e = legal.0.devices in
    let next : replay v (e ∷ events) ≡ with_devices (step w e) (devices_after (with_devices w s.devices) e) = ap (λ z. step z e) s.world ∙ step_same a w s.devices s.beside e may in
    let item : item_at (replay v events) e ≡ item_at w e = ap (λ z. item_at z e) s.world ∙ item_same a w s.devices s.beside e may in
    let time : now (replay v (e ∷ events)) ≡ now (step w e) = ap (λ (z : World). z.tunnel.now) next in
    record {
      devices = devices_after (with_devices w s.devices) e;
      beside = beside_step a w s.devices s.beside e may;
      world = next;
      legal = (subst (λ z. MayHappen Commissions z e) (sym s.world) (may_same a w s.devices s.beside e legal.0), s.legal);
      recorded = ap (λ o. noted o (now (replay v (e ∷ events))) (record_of v events)) item ∙ ap (λ t. noted (item_at w e) t (record_of v events)) time ∙ ap (noted (item_at w e) (now (step w e))) s.recorded;
      placed_so = ap (λ o. placed_if (length (e ∷ events)) (now (replay v (e ∷ events))) o (placed v events)) item ∙ ap (λ t. placed_if (length (e ∷ events)) t (item_at w e) (placed v events)) time
          ∙ ap (placed_if (length (e ∷ events)) (now (step w e)) (item_at w e)) s.placed_so;
    }
