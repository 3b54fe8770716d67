-- What the last turns were, and how many there were.
use Rattle.std.proofs.Common.{◌≡◌, ◌≢◌, ◌↔◌, ℕ, zero, suc, ◌+◌, ◌≤◌, ◌==◌, min, Bool, true, false, not, ◌&&◌, IsTrue, List, [], ◌∷◌, ◌++◌, length, Option, Some, None, refl, ap, sym, ◌∙◌, arith}
use Rattle.std.specs.Prelude.{nat_lt, slice_get}
use Rattle.line_model.specs.Gateway.{Gateway, Channel}
use Rattle.line_model.specs.Network.{Sent}
use Rattle.line_model.specs.PortStory.{PortItem, Took, Quiet}
use Rattle.line_model.specs.Serving.{HasEnded, WereQuiet, turns}
use Rattle.line_model.specs.Tunnel.{IsOpen}
use Rattle.line_model.specs.World.{World, Event, Down, replay}
use Rattle.bus_sim.specs.Serving.{GoesOn, Same, More, gave, given}
use Rattle.bus_sim.specs.Turned.{CountsQuiet}

-- ---- what the port is given is no turn

gave_no_turns : (o : Option Sent) (items : List PortItem) → turns (gave o ++ items) ≡ turns items
gave_no_turns None items = refl
gave_no_turns (Some s) items = refl

given_no_turns : (w : World) (e : Event) (items : List PortItem) → turns (given w e ++ items) ≡ turns items
given_no_turns w (Down age) items = gave_no_turns (slice_get w.tunnel.network.down age) items
given_no_turns w e items = refl

pub no_turns : (start : World) (es0 : List Event) (is0 : List PortItem) (es : List Event) (is : List PortItem) → GoesOn start es0 is0 es is → turns is ≡ turns is0
no_turns start es0 is0 es is Same = refl
no_turns start es0 is0 es is (More {events = past} {items = older} e own h) = given_no_turns (replay start past) e older ∙ no_turns start es0 is0 past older h

gave_quiet : (n : ℕ) (o : Option Sent) (items : List PortItem) → WereQuiet n (gave o ++ items) ↔ WereQuiet n items
gave_quiet n None items = (λ h. h, λ h. h)
gave_quiet zero (Some s) items = (λ h. tt, λ h. tt)
gave_quiet (suc n) (Some s) items = (λ h. h, λ h. h)

given_quiet : (n : ℕ) (w : World) (e : Event) (items : List PortItem) → WereQuiet n (given w e ++ items) ↔ WereQuiet n items
given_quiet n w (Down age) items = gave_quiet n (slice_get w.tunnel.network.down age) items
given_quiet n w e items = (λ h. h, λ h. h)

quiet_as : (n : ℕ) (start : World) (es0 : List Event) (is0 : List PortItem) (es : List Event) (is : List PortItem) → GoesOn start es0 is0 es is → WereQuiet n is ↔ WereQuiet n is0
quiet_as n start es0 is0 es is Same = (λ h. h, λ h. h)
quiet_as n start es0 is0 es is (More {events = past} {items = older} e own h) =
    let here : WereQuiet n (given (replay start past) e ++ older) ↔ WereQuiet n older = given_quiet n (replay start past) e older in
    let before : WereQuiet n older ↔ WereQuiet n is0 = quiet_as n start es0 is0 past older h in
    (λ k. before.0 (here.0 k), λ k. here.1 (before.1 k))

pub counts_as : (start : World) (es0 : List Event) (is0 : List PortItem) (es : List Event) (is : List PortItem) (q : ℕ) → GoesOn start es0 is0 es is → CountsQuiet q is0 → CountsQuiet q is
counts_as start es0 is0 es is q goes h = record {
  most = h.most;
  counts = λ n few. (λ k. (h.counts n few).0 ((quiet_as n start es0 is0 es is goes).0 k), λ k. (quiet_as n start es0 is0 es is goes).1 ((h.counts n few).1 k));
}

-- ---- how a turn begins

none_least : (n : ℕ) → 0 ≤ n
none_least n = omega arith

pub counts_none : CountsQuiet 0 []
counts_none = record { most = none_least 10; counts = by_number }
  where
    by_number : (n : ℕ) → n ≤ 10 → (WereQuiet n [] ↔ n ≤ 0)
    by_number zero few = (λ h. none_least 0, λ h. tt)
    by_number (suc n) few = (λ h. absurd h, λ h. absurd (omega (arith, h)))

pub counts_took : (from : ℕ) (octets : List ℕ) (items : List PortItem) → CountsQuiet 0 (Took from octets ∷ items)
counts_took from octets items = record { most = none_least 10; counts = by_number }
  where
    by_number : (n : ℕ) → n ≤ 10 → (WereQuiet n (Took from octets ∷ items) ↔ n ≤ 0)
    by_number zero few = (λ h. none_least 0, λ h. tt)
    by_number (suc n) few = (λ h. absurd h, λ h. absurd (omega (arith, h)))

up_to : (q : ℕ) → min (q + 1) 10 ≤ 10
up_to q = omega arith

below : (n : ℕ) → suc n ≤ 10 → n ≤ 10
below n h = omega (arith, h)

one_up : (n q : ℕ) → suc n ≤ 10 → n ≤ q → suc n ≤ min (q + 1) 10
one_up n q few h = omega (arith, few, h)

one_down : (n q : ℕ) → suc n ≤ min (q + 1) 10 → n ≤ q
one_down n q h = omega (arith, h)

pub counts_quiet : (q ms : ℕ) (items : List PortItem) → CountsQuiet q items → CountsQuiet (min (q + 1) 10) (Quiet ms ∷ items)
counts_quiet q ms items h = record { most = up_to q; counts = by_number }
  where
    by_number : (n : ℕ) → n ≤ 10 → (WereQuiet n (Quiet ms ∷ items) ↔ n ≤ min (q + 1) 10)
    by_number zero few = (λ k. none_least _, λ k. tt)
    by_number (suc n) few = (λ k. one_up n q few ((h.counts n (below n few)).0 k), λ k. (h.counts n (below n few)).1 (one_down n q k))

-- ---- the end

both_left : (a b : Bool) → (a && b) ≡ true → a ≡ true
both_left true b h = refl
both_left false b h = h

both_right : (a b : Bool) → (a && b) ≡ true → b ≡ true
both_right true b h = h
both_right false b h = cc

was_not : (a : Bool) → not a ≡ true → a ≡ false
was_not true h = cc
was_not false h = refl

untrue : {P : Type 0} → false ≡ true → P
untrue e = cc

same_number : (a b : ℕ) → (a == b) ≡ true → a ≡ b
same_number a b e = grind arith

equals : (a b : ℕ) → a ≤ b → b ≤ a → (a == b) ≡ true
equals a b h k = grind arith

ten : (q : ℕ) → q ≡ 10 → 10 ≤ q
ten q e = omega (arith, e)

is_some_channel : (c : Channel) → Some c ≢ None
is_some_channel c e = cc

shut : (opened : Bool) (o : Option Channel) → (IsTrue opened ↔ (o ≢ None)) → opened ≡ false → o ≡ None
shut opened None is e = refl
shut opened (Some c) is e = untrue (sym e ∙ is.1 (is_some_channel c))

some_made : (makers : List ℕ) (made : ℕ) → length makers ≡ made → nat_lt 0 made ≡ true → makers ≢ []
some_made [] made is more none = untrue (ap (nat_lt 0) is ∙ more)
some_made (m ∷ makers) made is more none = absurd (full none)
  where
    full : m ∷ makers ≡ [] → ⊥
    full e = cc

made_some : (makers : List ℕ) (made : ℕ) → length makers ≡ made → makers ≢ [] → nat_lt 0 made ≡ true
made_some [] made is more = absurd (more refl)
made_some (m ∷ makers) made is more = ap (nat_lt 0) (sym is) ∙ positive (length makers)
  where
    positive : (n : ℕ) → nat_lt 0 (suc n) ≡ true
    positive n = grind arith

not_open : (opened : Bool) (o : Option Channel) → (IsTrue opened ↔ (o ≢ None)) → o ≡ None → not opened ≡ true
not_open true o is none = absurd (is.0 refl none)
not_open false o is none = refl

all_three : (a b c : Bool) → a ≡ true → b ≡ true → c ≡ true → (a && (b && c)) ≡ true
all_three a b c h k l = ap (λ x. x && (b && c)) h ∙ ap (λ x. x && c) k ∙ l

pub ended_is : (q made : ℕ) (opened result : Bool) (g : Gateway) (items : List PortItem) → CountsQuiet q items → length g.makers ≡ made → (IsTrue opened ↔ IsOpen g.channel)
    → result ≡ ((q == 10) && (nat_lt 0 made && not opened)) → (IsTrue result ↔ HasEnded g items)
ended_is q made opened result g items h is opens e = (there, back)
  where
    there : IsTrue result → HasEnded g items
    there so =
        let all : ((q == 10) && (nat_lt 0 made && not opened)) ≡ true = sym e ∙ so in
        let rest : (nat_lt 0 made && not opened) ≡ true = both_right (q == 10) (nat_lt 0 made && not opened) all in
        record {
          made = some_made g.makers made is (both_left (nat_lt 0 made) (not opened) rest);
          closed = shut opened g.channel opens (was_not opened (both_right (nat_lt 0 made) (not opened) rest));
          quiet = (h.counts 10 (ten 10 refl)).1 (ten q (same_number q 10 (both_left (q == 10) (nat_lt 0 made && not opened) all)));
        }

    back : HasEnded g items → IsTrue result
    back ended = e ∙ all_three (q == 10) (nat_lt 0 made) (not opened) (equals q 10 h.most ((h.counts 10 (ten 10 refl)).0 ended.quiet)) (made_some g.makers made is ended.made) (not_open opened g.channel opens ended.closed)
