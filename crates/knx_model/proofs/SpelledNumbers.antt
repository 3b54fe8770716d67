-- The functions that read numbers and sizes are the grammar's relations.
use Rattle.std.proofs.Common.{◌≡◌, ℕ, ◌^◌, ◌<◌, ◌≤◌, Bool, true, false, cond, ◌&&◌, eqb, ltb, leb, List, [], ◌∷◌, length, drop, Option, Some, None, refl, sym, ◌∙◌, arith, inl, inr}
use Rattle.std.specs.Prelude.{slice_get}
use Rattle.std.specs.List.{list_all, starts_with}
use Rattle.std.specs.Fmt.{decimal}
use Rattle.std.specs.Str.Parse.{digits_value}
use Rattle.std.proofs.Math.Nat.{pow-le-pow_right}
use Rattle.std.proofs.lemmas.Bool.{and_parts, and_right, lt-ltb, le-leb, leb-true, ltb-true, eqb-true, ne_eqb, lt-leb, cases_lt}
use Rattle.std.proofs.lemmas.Int.Digits.{digits_value-lt}
use Rattle.std.proofs.lemmas.Option.{cond_some, none-some, slice_get_within, slice_get-get_or}
use Rattle.knx_model.specs.Numbers.{is_digit, numeral, number_value}
use Rattle.knx_model.specs.Sizes.{sizes, bits_of, size_code, size_at, size_value}
use Rattle.knx_model.specs.Spells.{SpellsDigits, SpellsNumber, SpellsSize}
use Rattle.knx_model.specs.Spells.SpellsNumber.{Decimal, Hexadecimal}
use Rattle.knx_model.proofs.Finite.{all_below, below, answers, answers-true}
use Rattle.knx_model.proofs.Numbers.{all_digits}
use Rattle.knx_model.proofs.Spelled.{no_hex, number_again}
use Rattle.knx_model.proofs.Spells.{up_to_some, digits_to, digits_from}

after_0x : (w : List ℕ) → starts_with eqb w (48 ∷ 120 ∷ []) ≡ true → w ≡ 48 ∷ 120 ∷ drop 2 w
after_0x [] e = absurd cc
after_0x (a ∷ []) e = let h = and_parts (eqb 48 a) false e in absurd cc
after_0x (a ∷ b ∷ rest) e =
    let h = and_parts (eqb 48 a) (eqb 120 b && true) e in
    let k = and_parts (eqb 120 b) true h.1 in
    let a-is : 48 ≡ a = eqb-true 48 a h.0 in
    let b-is : 120 ≡ b = eqb-true 120 b k.0 in
    rw (← a-is, ← b-is) refl

number_by : (hexadecimal : Bool) (w : List ℕ) (n : ℕ) → starts_with eqb w (48 ∷ 120 ∷ []) ≡ hexadecimal → cond hexadecimal (numeral 16 8 (drop 2 w)) (numeral 10 10 w) ≡ Some n → n ≤ 4294967295 → SpellsNumber w n
number_by true w n e q le = Hexadecimal (drop 2 w) (after_0x w e) (digits_to 16 8 (drop 2 w) n q)
number_by false w n e q le = Decimal (digits_to 10 10 w n q) le

pub number_to : (w : List ℕ) (n : ℕ) → number_value w ≡ Some n → SpellsNumber w n
unfolding number_value
number_to w n e =
    let u = up_to_some 4294967295 (cond (starts_with eqb w (48 ∷ 120 ∷ [])) (numeral 16 8 (drop 2 w)) (numeral 10 10 w)) n e in
    number_by (starts_with eqb w (48 ∷ 120 ∷ [])) w n refl u.0 u.1

-- eight hexadecimal digits write less than 2^32
few_digits : (ds : List ℕ) (n : ℕ) → SpellsDigits 16 8 ds n → n ≤ 4294967295
few_digits ds n is =
    let lt = digits_value-lt 16 ds (all_digits 16 ds is.are_digits) in
    let le : 16 ^ length ds ≤ 16 ^ 8 = pow-le-pow_right {n = 16} (omega arith) is.short in
    let e16 : 16 ^ 8 ≡ 4294967296 = refl in
    omega (arith, is.value)

pub number_from : (w : List ℕ) (n : ℕ) → SpellsNumber w n → number_value w ≡ Some n
unfolding number_value
number_from w n (Decimal is le) = rw (no_hex w (all_digits 10 w is.are_digits), digits_from 10 10 w n is, le-leb n 4294967295 le) refl
number_from w n (Hexadecimal ds joined is) = rw (joined, digits_from 16 8 ds n is, le-leb n 4294967295 (few_digits ds n is)) refl

-- ---- sizes

code_is : Option ℕ → ℕ → Bool
code_is None bits = true
code_is (Some code) bits = answers (slice_get sizes code) bits

bits_are : Option ℕ → ℕ → Bool
bits_are None code = true
bits_are (Some bits) code = answers (size_code bits) code

codes_of_bits : all_below (λ bits. code_is (size_code bits) bits) 113 ≡ true
unfolding all_below code_is answers
codes_of_bits = refl

bits_of_codes : all_below (λ code. bits_are (slice_get sizes code) code) 15 ≡ true
unfolding all_below bits_are answers
bits_of_codes = refl

large_has_none : (bits : ℕ) → 113 ≤ bits → size_code bits ≡ None
large_has_none bits le = rw (and_right (leb 1 bits) (leb bits 7) (lt-leb bits 7 (omega arith)), ne_eqb bits 8 (λ q. omega arith), ne_eqb bits 16 (λ q. omega arith), ne_eqb bits 24 (λ q. omega arith), ne_eqb bits 32 (λ q. omega arith), ne_eqb bits 48 (λ q. omega arith), ne_eqb bits 64 (λ q. omega arith), ne_eqb bits 80 (λ q. omega arith), ne_eqb bits 112 (λ q. omega arith)) refl

code_to : (bits code : ℕ) → size_code bits ≡ Some code → slice_get sizes code ≡ Some bits
unfolding code_is
code_to bits code e = elim (cases_lt bits 113) [
  | inl lt ↦ answers-true (slice_get sizes code) bits (rw e at (below (λ bits. code_is (size_code bits) bits) 113 bits codes_of_bits lt))
  | inr le ↦ absurd (none-some code (sym (large_has_none bits le) ∙ e))
]

code_from : (bits code : ℕ) → slice_get sizes code ≡ Some bits → size_code bits ≡ Some code
unfolding bits_are
code_from bits code e = answers-true (size_code bits) code (rw e at (below (λ code. bits_are (slice_get sizes code) code) 15 code bits_of_codes (slice_get_within sizes code bits e)))

size_at_some : (o : Option ℕ) (code : ℕ) → size_at o ≡ Some code → (bits : ℕ) × (o ≡ Some bits) × (size_code bits ≡ Some code)
size_at_some None code e = absurd (none-some code e)
size_at_some (Some bits) code e = (bits, refl, e)

pub size_to : (w : List ℕ) (code : ℕ) → size_value w ≡ Some code → SpellsSize w code
unfolding size_value
size_to w code e = let h = size_at_some (number_value w) code e in record { bits = h.0; number = number_to w h.0 h.1; of_code = code_to h.0 code h.2 }

pub size_from : (w : List ℕ) (code : ℕ) → SpellsSize w code → size_value w ≡ Some code
unfolding size_value
size_from w code is = rw (number_from w is.bits is.number) (code_from is.bits code is.of_code)

bits_small : all_below (λ code. ltb (bits_of code) 256) 15 ≡ true
unfolding all_below
bits_small = refl

pub bits_fit : (code : ℕ) → code < 15 → bits_of code < 256
bits_fit code lt = ltb-true _ _ (below (λ code. ltb (bits_of code) 256) 15 code bits_small lt)

-- the bits of a size code are read as it
pub size_again : (code : ℕ) → code < 15 → size_value (decimal (bits_of code)) ≡ Some code
unfolding size_value
size_again code lt = rw (number_again (bits_of code) (omega (arith, bits_fit code lt))) (code_from (bits_of code) code (slice_get-get_or sizes code 0 lt))
