-- What spells a number or an address is read as it.
use Rattle.std.proofs.Common.{◌≡◌, ℕ, ◌+◌, ◌*◌, ◌/◌, ◌%◌, ◌^◌, ◌<◌, ◌≤◌, true, false, eqb, List, [], ◌∷◌, ◌++◌, length, All, Some, refl, ap, arith, lit≤}
use Rattle.std.specs.List.{list_all, slice_split, AllByRecursion, join_with_byte, starts_with}
use Rattle.std.specs.Char.{digit_value}
use Rattle.std.specs.Fmt.{decimal}
use Rattle.std.specs.Str.Parse.{AllDigits}
use Rattle.std.proofs.lemmas.Bool.{and_from, lt-ltb, le-leb, eq-eqb, ne_eqb, and_left, and_right}
use Rattle.std.proofs.lemmas.Fmt.{decimal_is_IsNumeral, length-decimal-le}
use Rattle.std.proofs.lemmas.List.Elements.{All-from_recursion}
use Rattle.std.proofs.lemmas.List.Splits.{slice_split_at, slice_split_none}
use Rattle.knx_model.specs.declared.address.GroupAddr.{GroupAddr}
use Rattle.knx_model.specs.declared.address.IndAddr.{IndAddr}
use Rattle.knx_model.specs.Numbers.{is_digit, numeral, number_value, part_value}
use Rattle.knx_model.specs.Addresses.{three, group_value, ind_value}

are_digits : (ds : List ℕ) → AllDigits 10 ds → list_all (is_digit 10) ds ≡ true
are_digits [] h = refl
are_digits (d ∷ ds) h = and_from _ _ (lt-ltb _ _ h.0) (are_digits ds h.1)

-- a byte that is no digit isn't among digits
no_such : (c : ℕ) → 10 ≤ digit_value c → (ds : List ℕ) → AllDigits 10 ds → AllByRecursion (λ b. eqb b c ≡ false) ds
no_such c h [] all = tt
no_such c h (d ∷ ds) all = (ne_eqb d c (λ e. let same : digit_value d ≡ digit_value c = ap digit_value e in omega (arith, all.0)), no_such c h ds all.1)

pub numeral_again : (most n : ℕ) → 0 < most → n < 10 ^ most → n < 2 ^ 64 → numeral 10 most (decimal n) ≡ Some n
unfolding numeral
numeral_again most n pos small lt =
    let is = decimal_is_IsNumeral n lt in
    rw (lt-ltb 0 (length (decimal n)) (is.0).0, le-leb (length (decimal n)) most (length-decimal-le most n pos small lt), are_digits (decimal n) (is.0).1, is.1) refl

pub part_again : (most n : ℕ) → n ≤ most → most < 1000 → part_value most (decimal n) ≡ Some n
unfolding part_value
part_again most n le small = rw (numeral_again 3 n (omega arith) (omega arith) (omega arith), le-leb n most le) refl

-- three numbers joined by what is no digit
three_again : (c : ℕ) → 10 ≤ digit_value c → (a b d : ℕ) → a < 2 ^ 64 → b < 2 ^ 64 → d < 2 ^ 64
    → three (slice_split (λ x. eqb x c) (join_with_byte c (decimal a ∷ decimal b ∷ decimal d ∷ []))) ≡ Some (decimal a, decimal b, decimal d)
three_again c h a b d la lb ld =
    let none : (n : ℕ) → n < 2 ^ 64 → All (λ x. eqb x c ≡ false) (decimal n) = λ n lt. All-from_recursion (λ x. eqb x c ≡ false) (decimal n) (no_such c h (decimal n) ((decimal_is_IsNumeral n lt).0).1) in
    let yes : eqb c c ≡ true = eq-eqb c c refl in
    rw (slice_split_at (λ x. eqb x c) (decimal a) c (decimal b ++ (c ∷ decimal d)) (none a la) yes, slice_split_at (λ x. eqb x c) (decimal b) c (decimal d) (none b lb) yes, slice_split_none (λ x. eqb x c) (decimal d) (none d ld)) refl

abbrev pub group_spelling : ℕ → List ℕ
group_spelling raw = join_with_byte 47 (decimal (raw / 2048) ∷ decimal (raw / 256 % 8) ∷ decimal (raw % 256) ∷ [])

pub group_again : (g : GroupAddr) → 0 < g.raw → g.raw < 65536 → group_value (group_spelling g.raw) ≡ Some g
unfolding group_value
group_again g pos lt =
    let raw : ℕ = g.raw in
    let whole : raw / 2048 * 2048 + raw / 256 % 8 * 256 + raw % 256 ≡ raw = omega arith in
    rw (three_again 47 (lit≤ tt) (raw / 2048) (raw / 256 % 8) (raw % 256) (omega arith) (omega arith) (omega arith), part_again 31 (raw / 2048) (omega arith) (omega arith), part_again 7 (raw / 256 % 8) (omega arith) (omega arith), part_again 255 (raw % 256) (omega arith) (omega arith), whole, ne_eqb raw 0 (λ e. omega arith)) refl

abbrev pub device_spelling : ℕ → List ℕ
device_spelling raw = join_with_byte 46 (decimal (raw / 4096) ∷ decimal (raw / 256 % 16) ∷ decimal (raw % 256) ∷ [])

pub device_again : (d : IndAddr) → d.raw < 65536 → 0 < d.raw % 256 → d.raw % 256 < 255 → ind_value (device_spelling d.raw) ≡ Some d
unfolding ind_value
device_again d lt pos most =
    let raw : ℕ = d.raw in
    let whole : raw / 4096 * 4096 + raw / 256 % 16 * 256 + raw % 256 ≡ raw = omega arith in
    rw (three_again 46 (lit≤ tt) (raw / 4096) (raw / 256 % 16) (raw % 256) (omega arith) (omega arith) (omega arith), part_again 15 (raw / 4096) (omega arith) (omega arith), part_again 15 (raw / 256 % 16) (omega arith) (omega arith), part_again 254 (raw % 256) (omega arith) (omega arith), ne_eqb (raw % 256) 0 (λ e. omega arith), whole) refl

pub no_hex : (ds : List ℕ) → AllDigits 10 ds → starts_with eqb ds (48 ∷ 120 ∷ []) ≡ false
no_hex [] h = refl
no_hex (d ∷ []) h = and_right (eqb 48 d) false refl
no_hex (d ∷ e ∷ ds) h =
    let other : eqb 120 e ≡ false = ne_eqb 120 e (λ q. let same : digit_value 120 ≡ digit_value e = ap digit_value q in let is : digit_value 120 ≡ 33 = refl in omega (arith, (h.1).0)) in
    and_right (eqb 48 d) _ (and_left (eqb 120 e) _ other)

pub number_again : (n : ℕ) → n < 2 ^ 32 → number_value (decimal n) ≡ Some n
unfolding number_value
number_again n lt =
    let digits : AllDigits 10 (decimal n) = ((decimal_is_IsNumeral n (omega arith)).0).1 in
    rw (no_hex (decimal n) digits, numeral_again 10 n (omega arith) (omega arith) (omega arith), le-leb n 4294967295 (omega arith)) refl
