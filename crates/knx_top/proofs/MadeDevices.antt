-- The line that a number makes: just the devices 1.1.1 to 1.1.n are on the bus.
use Rattle.std.proofs.Common.{◌≡◌, ℕ, zero, suc, ◌+◌, ◌*◌, ◌/◌, ◌<◌, ◌≤◌, eqb, Bool, true, false, List, [], ◌∷◌, map, filter, length, refl, sym, ap, ◌∙◌, subst, arith}
use Rattle.std.specs.Prelude.{IsPermutation, ◌&&◌, ◌||◌, ◌==◌, nat_le, nat_lt}
use Rattle.std.specs.List.{AllByRecursion, list_any, range_with_len}
use Rattle.std.proofs.lemmas.Bool.{eq-eqb}
use Rattle.std.proofs.lemmas.Bool.Decides.{nat_tests}
use Rattle.std.proofs.lemmas.List.FromFn.{length-map-range_with_len}
use Rattle.std.proofs.lemmas.List.Sorted.{list_any-IsPermutation}
use Rattle.call_words.specs.declared.job_word.JobWord.{JobWord}
use Rattle.knx_gen.proofs.Counted.{devices_picked}
use Rattle.knx_gen.proofs.Numbered.{devices_are}
use Rattle.knx_gen.specs.Generated.{device_at, project_lines, generated}
use Rattle.knx_model.specs.declared.address.IndAddr.{IndAddr}
use Rattle.knx_model.specs.Rules.{devices_of, has_device}
use Rattle.line_model.specs.StartOf.{line_of, tunnel_address, on_line_of_first, is_on_bus}
use Rattle.project_check.proofs.Ascending.{any_device}
use Rattle.call_parts.specs.Jobs.{load_of}
use Rattle.call_parts.specs.OnLine.{address_at, on_bus}
use Rattle.knx_top.specs.commands.big.{BigWords, made, nothing}

-- ---- the addresses from 1.1.a on

abbrev first_raw : ℕ
first_raw = 0x1100

none_between : (x y : ℕ) → false ≡ (nat_le x y && nat_lt y (x + 0))
none_between x y = grind (arith, nat_tests)

one_more : (x n q : ℕ) (b rest : Bool) → eqb x q ≡ b → rest ≡ (nat_le (x + 1) q && nat_lt q (x + 1 + n)) → (b || rest) ≡ (nat_le x q && nat_lt q (x + suc n))
one_more x n q true rest here later = let same : x ≡ q = grind (arith, nat_tests) in subst (λ (y : ℕ). true ≡ (nat_le x y && nat_lt y (x + suc n))) same (let z : true ≡ (nat_le x x && nat_lt x (x + suc n)) = grind (arith, nat_tests) in z)
one_more x n q false rest here later = later ∙ (let apart : (x == q) ≡ false = here in let z : (nat_le (x + 1) q && nat_lt q (x + 1 + n)) ≡ (nat_le x q && nat_lt q (x + suc n)) = grind (arith, nat_tests) in z)

any_made : (a n q x : ℕ) → x ≡ first_raw + a → list_any (λ (d : IndAddr). eqb d.raw q) (map device_at (range_with_len a n)) ≡ (nat_le x q && nat_lt q (x + n))
any_made a zero q x is = none_between x q
any_made a (suc n) q x is =
    ap (λ (y : ℕ). eqb y q || list_any (λ (d : IndAddr). eqb d.raw q) (map device_at (range_with_len (a + 1) n))) (sym is)
    ∙ one_more x n q (eqb x q) _ refl (any_made (a + 1) n q (x + 1) (omega (arith, is)))

module _ (words : BigWords) (some : 1 ≤ words.devices) (few : words.devices ≤ 254) where
  abbrev n : ℕ
  n = words.devices

  devices_made : devices_of (made words).statements ≡ map device_at (range_with_len 1 n)
  unfolding generated
  devices_made = devices_are 1 (project_lines n words.start) ∙ devices_picked n words.start

  pub length_made : length (devices_of (made words).statements) ≡ n
  length_made = ap (λ (ds : List IndAddr). length ds) devices_made ∙ length-map-range_with_len device_at 1 n

  has_made : (q : ℕ) → has_device (made words).statements q ≡ (nat_le 0x1101 q && nat_lt q (0x1101 + n))
  has_made q = sym (any_device q (made words).statements) ∙ ap (list_any (λ (d : IndAddr). eqb d.raw q)) devices_made ∙ any_made 1 n q 0x1101 refl

  first_is : (m : ℕ) → 1 ≤ m → line_of (on_line_of_first (map device_at (range_with_len 1 m))).raw ≡ 0x11
  first_is zero h = absurd (omega (arith, h))
  first_is (suc m) h = let z : ((first_raw + 1) / 256 * 256 + 255) / 256 ≡ 0x11 = omega arith in z

  line_is : line_of (tunnel_address (made words)).raw ≡ 0x11
  line_is = ap (λ (ds : List IndAddr). line_of (on_line_of_first ds).raw) devices_made ∙ first_is n some

  on_line : (q : ℕ) → nat_le 0x1101 q ≡ true → nat_lt q (0x1101 + n) ≡ true → line_of q ≡ 0x11
  on_line q low high = let a : 0x1101 ≤ q = grind (arith, nat_tests) in let b : q < 0x1101 + n = grind (arith, nat_tests) in omega (arith, a, b, few)

  in_it : (q : ℕ) (b : Bool) → (nat_le 0x1101 q && nat_lt q (0x1101 + n)) ≡ b → ((line_of q == 0x11) && (b || false)) ≡ b
  in_it q true is = let low : nat_le 0x1101 q ≡ true = grind (arith, nat_tests) in let high : nat_lt q (0x1101 + n) ≡ true = grind (arith, nat_tests) in rw (on_line q low high) refl
  in_it q false is = and_no (line_of q == 0x11) where
    and_no : (b : Bool) → (b && false) ≡ false
    and_no true = refl
    and_no false = refl

  pub on_bus_is : (q : ℕ) → is_on_bus (made words) nothing q ≡ (nat_le 0x1101 q && nat_lt q (0x1101 + n))
  on_bus_is q =
      ap (λ (line : ℕ). (line_of q == line) && (has_device (made words).statements q || false)) line_is
      ∙ ap (λ (b : Bool). (line_of q == 0x11) && (b || false)) (has_made q) ∙ in_it q (nat_le 0x1101 q && nat_lt q (0x1101 + n)) refl

  pub has_it : (q : ℕ) → is_on_bus (made words) nothing q ≡ true → has_device (made words).statements q ≡ true
  has_it q on = has_made q ∙ (sym (on_bus_is q) ∙ on)

  -- ---- each of its devices is there

  module _ (devices : List IndAddr) (all : IsPermutation (devices_of (made words).statements) devices) where
    pub listed : (q : ℕ) → list_any (λ (d : IndAddr). eqb d.raw q) devices ≡ has_device (made words).statements q
    listed q = sym (list_any-IsPermutation (λ (d : IndAddr). eqb d.raw q) (devices_of (made words).statements) devices all) ∙ any_device q (made words).statements

    on_where_listed : (q : ℕ) → list_any (λ (d : IndAddr). eqb d.raw q) devices ≡ true → is_on_bus (made words) nothing q ≡ true
    on_where_listed q h = on_bus_is q ∙ (sym (has_made q) ∙ (sym (listed q) ∙ h))

    each_in : (ds : List IndAddr) → ((q : ℕ) → list_any (λ (d : IndAddr). eqb d.raw q) ds ≡ true → is_on_bus (made words) nothing q ≡ true) → AllByRecursion (λ (job : JobWord). is_on_bus (made words) nothing job.device.raw ≡ true) (map load_of ds)
    each_in [] f = tt
    each_in (d ∷ ds) f = (f d.raw (rw (eq-eqb d.raw d.raw refl) refl), each_in ds (λ q h. f q (or_right (eqb d.raw q) (list_any (λ (x : IndAddr). eqb x.raw q) ds) h))) where
      or_right : (a b : Bool) → b ≡ true → (a || b) ≡ true
      or_right true b h = refl
      or_right false b h = h

    pub all_on : AllByRecursion (λ (job : JobWord). is_on_bus (made words) nothing job.device.raw ≡ true) (map load_of devices)
    all_on = each_in devices on_where_listed

  -- ---- as many as are made

  abbrev there : IndAddr → Bool
  there d = is_on_bus (made words) nothing d.raw

  abbrev parts : ℕ → ℕ → List IndAddr
  parts a m = filter there (map (address_at 0x11) (range_with_len a m))

  at_part : (a : ℕ) (b : Bool) → (nat_le 0x1101 (0x11 * 256 + a) && nat_lt (0x11 * 256 + a) (0x1101 + n)) ≡ b → there (address_at 0x11 a) ≡ b
  at_part a b is = on_bus_is (0x11 * 256 + a) ∙ is

  none_of : (a m : ℕ) → n + 1 ≤ a → length (parts a m) ≡ 0
  none_of a zero out = refl
  none_of a (suc m) out = rw (at_part a false (grind (arith, nat_tests))) (none_of (a + 1) m (omega (arith, out)))

  all_of : (a m : ℕ) → 1 ≤ a → a ≤ n + 1 → n + 1 ≤ a + m → length (parts a m) + a ≡ n + 1
  all_of a zero low in_ high = omega (arith, low, in_, high)
  all_of a (suc m) low in_ high = by_place (λ small. all_of (a + 1) m (omega (arith, low)) (omega (arith, small)) (omega (arith, high))) (nat_le a n) refl where
    by_place : (a ≤ n → length (parts (a + 1) m) + (a + 1) ≡ n + 1) → (b : Bool) → nat_le a n ≡ b → length (parts a (suc m)) + a ≡ n + 1
    by_place further true h =
        let small : a ≤ n = grind (arith, nat_tests) in
        let rest : length (parts (a + 1) m) + (a + 1) ≡ n + 1 = further small in
        rw (at_part a true (grind (arith, nat_tests))) (omega (arith, rest))
    by_place further false h =
        let large : n + 1 ≤ a = grind (arith, nat_tests) in
        let none : length (parts a (suc m)) ≡ 0 = none_of a (suc m) large in
        omega (arith, none, large, in_)

  first_out : (m : ℕ) → length (parts 0 (suc m)) ≡ length (parts 1 m)
  first_out m = rw (at_part 0 false (grind (arith, nat_tests))) refl

  pub how_many : length (on_bus (made words) nothing) ≡ n
  unfolding on_bus
  how_many =
      let rest : length (parts 1 255) + 1 ≡ n + 1 = all_of 1 255 (omega arith) (omega arith) (omega (arith, few)) in
      let whole : length (parts 0 256) ≡ length (parts 1 255) = first_out 255 in
      ap (λ (line : ℕ). length (filter there (map (address_at line) (range_with_len 0 256)))) line_is ∙ whole ∙ (let z : length (parts 1 255) ≡ n = omega (arith, rest) in z)

  pub each_on : AllByRecursion (λ (d : IndAddr). is_on_bus (made words) nothing d.raw ≡ true) (on_bus (made words) nothing)
  unfolding on_bus
  each_on = kept_by (map (address_at (line_of (tunnel_address (made words)).raw)) (range_with_len 0 256)) where
    kept_by : (ds : List IndAddr) → AllByRecursion (λ (d : IndAddr). is_on_bus (made words) nothing d.raw ≡ true) (filter there ds)
    kept_by [] = tt
    kept_by (d ∷ ds) = by_test (there d) refl (kept_by ds) where
      by_test : (b : Bool) → there d ≡ b → AllByRecursion (λ (x : IndAddr). is_on_bus (made words) nothing x.raw ≡ true) (filter there ds) → AllByRecursion (λ (x : IndAddr). is_on_bus (made words) nothing x.raw ≡ true) (filter there (d ∷ ds))
      by_test true is rest = rw is (is, rest)
      by_test false is rest = rw is rest
