-- What each event is to the counts, and what it calls for.
use Rattle.std.proofs.Common.{◌≡◌, ℕ, ◌^◌, ◌<◌, ◌==◌, Bool, true, false, ◌&&◌, is_some, List, [], ◌∷◌, ◌++◌, Option, Some, None, refl, ap, sym, ◌∙◌, arith, if◌then◌else◌}
use Rattle.knx_model.specs.declared.frames.cemi.Ldata.{Ldata}
use Rattle.knx_model.specs.DeviceState.{DeviceState}
use Rattle.line_model.specs.Arrives.{for_others}
use Rattle.line_model.specs.Counts.{asks_connect, takes_alone, write_of}
use Rattle.network_sim.specs.Window.{capped}
use Rattle.line_model.specs.Network.{OfSent, Sent}
use Rattle.line_model.specs.Owed.{Owed}
use Rattle.line_model.specs.Tunnel.{IsConnectRequest}
use Rattle.line_model.specs.Reading.{is_connect_request}
use Rattle.line_model.specs.World.{World, AtGateway, BusAgain, DevSend, DevRepeat, frame_by, is_among, waiting_at}
use Rattle.line_sim.specs.Line.{last_at}
use Rattle.bus_sim.proofs.Carried.{group_taken, group_written}
use Rattle.bus_sim.proofs.Counting.{Counts, takes_nothing, writes_nothing}
use Rattle.bus_sim.proofs.Owings.{and_nothing}

-- ---- lists

pub one_called : (l x : List Owed) → l ≡ x → l ++ [] ≡ x
one_called l x e = and_nothing l ∙ e

pub two_called : (l k x y : List Owed) → l ≡ x → k ≡ y → l ++ k ≡ x ++ y
two_called l k x y e f = ap (λ z. z ++ k) e ∙ ap (λ z. x ++ z) f

-- ---- counts

pub either_false : (t : Bool) → false ≡ (if t then false else false)
either_false true = refl
either_false false = refl

pub turned : (a d : ℕ) → (d == a) ≡ (if a == d then true else false)
turned a d = by_test (a == d) (same a d)
  where
    same : (a d : ℕ) → (d == a) ≡ (a == d)
    same a d = grind arith

    by_test : (t : Bool) → (d == a) ≡ t → (d == a) ≡ (if t then true else false)
    by_test true e = e
    by_test false e = e

pub sends_one : (w : World) (device : ℕ) (at : AtGateway) → Counts w (DevSend device at []) device (record { to = false; from = true; taken = false; wrote = false })
sends_one w device at = record {
  to = λ a. either_false (a == device);
  from = λ a. turned a device;
  taken = λ a. none_taken (w.devices a) (is_among (device ∷ []) a) (waiting_at w device) ∙ either_false (a == device);
  wrote = λ a. none_written (w.devices a) (is_among (device ∷ []) a) (waiting_at w device) ∙ either_false (a == device);
  connect = refl;
}
  where
    -- a group telegram is taken by none alone
    none_taken : (o : Option DeviceState) (b : Bool) (q : Option Ldata) → takes_alone o (if b then None else for_others q) ≡ false
    none_taken o true q = takes_nothing o
    none_taken o false None = takes_nothing o
    none_taken o false (Some f) = by_group f.group refl
      where
        by_group : (g : Bool) → f.group ≡ g → takes_alone o (if g then Some f else None) ≡ false
        by_group true e = group_taken o f e
        by_group false e = takes_nothing o

    none_written : (o : Option DeviceState) (b : Bool) (q : Option Ldata) → is_some (write_of o (if b then None else for_others q)) ≡ false
    none_written o true q = writes_nothing o
    none_written o false None = writes_nothing o
    none_written o false (Some f) = by_group f.group refl
      where
        by_group : (g : Bool) → f.group ≡ g → is_some (write_of o (if g then Some f else None)) ≡ false
        by_group true e = group_written o f e
        by_group false e = writes_nothing o

pub repeats_one : (w : World) (device : ℕ) (at : AtGateway) → Counts w (DevRepeat device at) device (record { to = false; from = true; taken = false; wrote = false })
repeats_one w device at = record {
  to = λ a. either_false (a == device);
  from = λ a. turned a device;
  taken = λ a. takes_nothing (w.devices a) ∙ either_false (a == device);
  wrote = λ a. writes_nothing (w.devices a) ∙ either_false (a == device);
  connect = refl;
}

-- the device takes its last frame again, and no other takes anything
pub again_one : (w : World) (device : ℕ) (taken wrote : Bool) → taken ≡ takes_alone (w.devices device) (last_at w device) → wrote ≡ is_some (write_of (w.devices device) (last_at w device))
    → Counts w (BusAgain device) device (record { to = false; from = false; taken = taken; wrote = wrote })
again_one w device taken wrote takes writes = record {
  to = λ a. either_false (a == device);
  from = λ a. either_false (a == device);
  taken = λ a. taken_at a (device == a) (a == device) refl refl;
  wrote = λ a. wrote_at a (device == a) (a == device) refl refl;
  connect = refl;
}
  where
    alike : (a d : ℕ) → (d == a) ≡ (a == d)
    alike a d = grind arith

    same_number : (a b : ℕ) → (a == b) ≡ true → a ≡ b
    same_number a b e = grind arith

    taken_at : (a : ℕ) (s t : Bool) → (device == a) ≡ s → (a == device) ≡ t → takes_alone (w.devices a) (if device == a then frame_by (λ d. d.last) (w.devices a) else None) ≡ (if a == device then taken else false)
    taken_at a true true e f = ap (λ x. takes_alone (w.devices a) (if x then frame_by (λ d. d.last) (w.devices a) else None)) e
        ∙ ap (λ k. takes_alone (w.devices k) (frame_by (λ d. d.last) (w.devices k))) (same_number a device f) ∙ sym takes ∙ sym (ap (λ x. if x then taken else false) f)
    taken_at a false false e f = ap (λ x. takes_alone (w.devices a) (if x then frame_by (λ d. d.last) (w.devices a) else None)) e ∙ takes_nothing (w.devices a) ∙ sym (ap (λ x. if x then taken else false) f)
    taken_at a true false e f = let h = alike a device in cc
    taken_at a false true e f = let h = alike a device in cc

    wrote_at : (a : ℕ) (s t : Bool) → (device == a) ≡ s → (a == device) ≡ t → is_some (write_of (w.devices a) (if device == a then frame_by (λ d. d.last) (w.devices a) else None)) ≡ (if a == device then wrote else false)
    wrote_at a true true e f = ap (λ x. is_some (write_of (w.devices a) (if x then frame_by (λ d. d.last) (w.devices a) else None))) e
        ∙ ap (λ k. is_some (write_of (w.devices k) (frame_by (λ d. d.last) (w.devices k)))) (same_number a device f) ∙ sym writes ∙ sym (ap (λ x. if x then wrote else false) f)
    wrote_at a false false e f = ap (λ x. is_some (write_of (w.devices a) (if x then frame_by (λ d. d.last) (w.devices a) else None))) e ∙ writes_nothing (w.devices a) ∙ sym (ap (λ x. if x then wrote else false) f)
    wrote_at a true false e f = let h = alike a device in cc
    wrote_at a false true e f = let h = alike a device in cc

-- a datagram that is refused is a connect request
pub connect_there : (o : Option Sent) → OfSent IsConnectRequest o → asks_connect o ≡ true
connect_there None h = absurd h
connect_there (Some s) h = ap is_connect_request h

-- where a frame is taken, it counts as the next one
pub where_taken : (t s : Bool) (P : ℕ → Bool) (k l : ℕ) → t ≡ s → (s ≡ true → k ≡ l) → (t && P k) ≡ (s && P l)
where_taken true true P k l e same = ap P (same refl)
where_taken false false P k l e same = refl
where_taken true false P k l e same = cc
where_taken false true P k l e same = cc

pub capped_few : (n : ℕ) → n < 2 ^ 63 → capped n ≡ n
capped_few n few = omega arith
