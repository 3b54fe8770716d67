-- The devices on the bus: the addresses of the line that one of the projects has, each listed once.
use Rattle.std.proofs.Common.{ℕ, zero, suc, ◌≡◌, ◌≢◌, ◌+◌, ◌*◌, ◌/◌, ◌<◌, ◌≤◌, Bool, true, false, List, [], ◌∷◌, ◌++◌, map, filter, refl, sym, ap, ◌∙◌, subst, arith}
use Rattle.std.specs.Prelude.{◌&&◌, ◌||◌, ◌==◌, nat_le, nat_lt, if◌then◌else◌}
use Rattle.std.specs.List.{list_any, range_with_len}
use Rattle.std.proofs.lemmas.Bool.Decides.{nat_tests}
use Rattle.knx_model.specs.declared.address.IndAddr.{IndAddr}
use Rattle.knx_model.specs.Meaning.{Installation}
use Rattle.knx_model.specs.Rules.{has_device}
use Rattle.line_model.specs.StartOf.{line_of, tunnel_address, is_on_bus}
use Rattle.call_parts.specs.OnLine.{address_at, on_bus}
use Rattle.knx_top.proofs.Tunnels.{bus_more}

-- ---- one address more

line_of_part : (line part : ℕ) → part < 256 → (line * 256 + part) / 256 ≡ line
line_of_part line part lt = omega arith

same_line : (line : ℕ) → (line == line) ≡ true
same_line line = grind (arith, nat_tests)

there : (new old : Installation) (part : ℕ) (on : Bool) → part < 256 → let device : IndAddr = address_at (line_of (tunnel_address new).raw) part in
    on ≡ (has_device new.statements device.raw || has_device old.statements device.raw) → is_on_bus new old device.raw ≡ on
there new old part on lt is = rw (line_of_part (line_of (tunnel_address new).raw) part lt, same_line (line_of (tunnel_address new).raw)) (sym is)

pub bus_step : (new old : Installation) (part : ℕ) (on : Bool) (before after : List IndAddr) → part < 256 → let device : IndAddr = address_at (line_of (tunnel_address new).raw) part in
    on ≡ (has_device new.statements device.raw || has_device old.statements device.raw)
    → before ≡ filter (λ (d : IndAddr). is_on_bus new old d.raw) (map (address_at (line_of (tunnel_address new).raw)) (range_with_len 0 part)) → after ≡ before ++ (if on then device ∷ [] else [])
    → after ≡ filter (λ (d : IndAddr). is_on_bus new old d.raw) (map (address_at (line_of (tunnel_address new).raw)) (range_with_len 0 (part + 1)))
bus_step new old part on before after lt is so_far pushed =
    let line : ℕ = line_of (tunnel_address new).raw in
    let device : IndAddr = address_at line part in
    let p : IndAddr → Bool = λ d. is_on_bus new old d.raw in
    let one : suc part ≡ part + 1 = omega arith in
    pushed ∙ ap (λ (l : List IndAddr). l ++ (if on then device ∷ [] else [])) so_far
    ∙ ap (λ (b : Bool). filter p (map (address_at line) (range_with_len 0 part)) ++ (if b then device ∷ [] else [])) (sym (there new old part on lt is))
    ∙ sym (bus_more p line part) ∙ ap (λ (n : ℕ). filter p (map (address_at line) (range_with_len 0 n))) one

pub bus_whole : (new old : Installation) (part : ℕ) (devices : List IndAddr) → part ≡ 256 → devices ≡ filter (λ (d : IndAddr). is_on_bus new old d.raw) (map (address_at (line_of (tunnel_address new).raw)) (range_with_len 0 part)) → devices ≡ on_bus new old
unfolding on_bus
bus_whole new old part devices e is = is ∙ ap (λ (n : ℕ). filter (λ (d : IndAddr). is_on_bus new old d.raw) (map (address_at (line_of (tunnel_address new).raw)) (range_with_len 0 n))) e

-- ---- which addresses are listed

none_between : (x y : ℕ) → (nat_le x y && nat_lt y (x + 0)) ≡ false
none_between x y = grind (arith, nat_tests)

here_between : (x n : ℕ) → (nat_le x x && nat_lt x (x + suc n)) ≡ true
here_between x n = grind (arith, nat_tests)

later_between : (x y n : ℕ) → x ≢ y → (nat_le x y && nat_lt y (x + suc n)) ≡ (nat_le (x + 1) y && nat_lt y (x + 1 + n))
later_between x y n h = grind (arith, nat_tests)

is_same : (x y : ℕ) → (x == y) ≡ true → x ≡ y
is_same x y h = grind (arith, nat_tests)

isnt_same : (x y : ℕ) → (x == y) ≡ false → x ≢ y
isnt_same x y h = λ e. let no : false ≡ true = sym h ∙ rw e (same_line y) in cc

none_of : (b : Bool) (x y : ℕ) → false ≡ (b && (nat_le x y && nat_lt y (x + 0)))
none_of true x y = sym (none_between x y)
none_of false x y = refl

abbrev listed : (ℕ → Bool) → ℕ → ℕ → ℕ → List IndAddr
listed p line a n = filter (λ (d : IndAddr). p d.raw) (map (address_at line) (range_with_len a n))

abbrev has : ℕ → List IndAddr → Bool
has address devices = list_any (λ (d : IndAddr). d.raw == address) devices

any_step : (p : ℕ → Bool) (line a n address x : ℕ) (t s : Bool) → x ≡ line * 256 + a → p (line * 256 + a) ≡ t → ((line * 256 + a) == address) ≡ s → has address (listed p line (a + 1) n) ≡ (p address && (nat_le (x + 1) address && nat_lt address (x + 1 + n)))
    → has address (listed p line a (suc n)) ≡ (p address && (nat_le x address && nat_lt address (x + suc n)))
any_step p line a n address x true true e tested same rest =
    let is : line * 256 + a ≡ address = is_same (line * 256 + a) address same in
    let there : p address ≡ true = ap p (sym is) ∙ tested in
    let at : x ≡ address = e ∙ is in
    rw (tested, same, there) (sym (subst (λ (y : ℕ). (nat_le x y && nat_lt y (x + suc n)) ≡ true) at (here_between x n)))
any_step p line a n address x true false e tested same rest =
    rw (tested, same) (rest ∙ ap (λ (b : Bool). p address && b) (sym (later_between x address n (λ at. isnt_same (line * 256 + a) address same (sym e ∙ at)))))
any_step p line a n address x false true e tested same rest =
    let is : line * 256 + a ≡ address = is_same (line * 256 + a) address same in
    let there : p address ≡ false = ap p (sym is) ∙ tested in
    rw tested (rest ∙ rw there refl)
any_step p line a n address x false false e tested same rest =
    rw tested (rest ∙ ap (λ (b : Bool). p address && b) (sym (later_between x address n (λ at. isnt_same (line * 256 + a) address same (sym e ∙ at)))))

any_listed : (p : ℕ → Bool) (line a n address x : ℕ) → x ≡ line * 256 + a → has address (listed p line a n) ≡ (p address && (nat_le x address && nat_lt address (x + n)))
any_listed p line a zero address x e = none_of (p address) x address
any_listed p line a (suc n) address x e =
    any_step p line a n address x (p (line * 256 + a)) ((line * 256 + a) == address) e refl refl (any_listed p line (a + 1) n address (x + 1) (omega arith))

within_line : (line address : ℕ) → (address / 256 == line) ≡ true → (nat_le (line * 256) address && nat_lt address (line * 256 + 256)) ≡ true
within_line line address h =
    let is : address / 256 ≡ line = is_same (address / 256) line h in
    let low : line * 256 ≤ address = omega arith in
    let high : address < line * 256 + 256 = omega arith in
    grind (arith, nat_tests)

whole_line : (a b : Bool) (line address : ℕ) → (address / 256 == line) ≡ a → ((a && b) && (nat_le (line * 256) address && nat_lt address (line * 256 + 256))) ≡ (a && b)
whole_line true true line address h = within_line line address h
whole_line true false line address h = refl
whole_line false b line address h = refl

-- an address is listed exactly where its device is on the bus
pub any_on_bus : (new old : Installation) (address : ℕ) → list_any (λ (d : IndAddr). d.raw == address) (on_bus new old) ≡ is_on_bus new old address
unfolding on_bus
any_on_bus new old address =
    let line : ℕ = line_of (tunnel_address new).raw in
    let zero_more : line * 256 ≡ line * 256 + 0 = omega arith in
    any_listed (is_on_bus new old) line 0 256 address (line * 256) zero_more
    ∙ whole_line (line_of address == line) (has_device new.statements address || has_device old.statements address) line address refl
