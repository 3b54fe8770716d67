-- The numbers in a gateway's address.
use Rattle.std.proofs.Common.{◌≡◌, ℕ, ◌^◌, ◌<◌, ◌≤◌, true, false, leb, ◌&&◌, List, [], ◌∷◌, length, None, refl, arith, lit≤}
use Rattle.std.specs.List.{list_all}
use Rattle.std.specs.Str.Parse.{digits_value, AllDigits}
use Rattle.std.proofs.Math.Nat.{pow-le-pow_right}
use Rattle.std.proofs.lemmas.Bool.{and_parts, lt-ltb, le-leb, ltb-true}
use Rattle.std.proofs.lemmas.Int.Digits.{digits_value-lt}
use Rattle.knx_model.specs.Numbers.{is_digit, numeral, number_value}
use Rattle.knx_model.proofs.Spelled.{no_hex}

pub all_digits : (digits : List ℕ) → list_all (is_digit 10) digits ≡ true → AllDigits 10 digits
all_digits [] e = tt
all_digits (d ∷ digits) e = let h = and_parts (is_digit 10 d) (list_all (is_digit 10) digits) e in (ltb-true _ _ h.0, all_digits digits h.1)

-- few digits are a number up to 4,294,967,295 in decimal
pub digits_read : (most : ℕ) (word : List ℕ) → most ≤ 5 → length word ≤ most → list_all (is_digit 10) word ≡ true → number_value word ≡ numeral 10 most word
unfolding number_value numeral
digits_read most [] few short all = refl
digits_read most (d ∷ word) few short all =
    let digits : AllDigits 10 (d ∷ word) = all_digits (d ∷ word) all in
    let small : digits_value 10 (d ∷ word) < 10 ^ length (d ∷ word) = digits_value-lt 10 (d ∷ word) digits in
    let bound : 10 ^ length (d ∷ word) ≤ 10 ^ 5 = pow-le-pow_right {n = 10} (lit≤ tt) {i = length (d ∷ word)} {j = 5} (omega arith) in
    let few_enough : digits_value 10 (d ∷ word) ≤ 4294967295 = omega arith in
    rw (no_hex (d ∷ word) digits, lt-ltb 0 (length (d ∷ word)) (omega arith), all, le-leb (length (d ∷ word)) most short, le-leb (length (d ∷ word)) 10 (omega arith), le-leb (digits_value 10 (d ∷ word)) 4294967295 few_enough) refl

-- too many octets, or other ones, are no number
pub no_digits : (most : ℕ) (word : List ℕ) → (leb (length word) most && list_all (is_digit 10) word) ≡ false → numeral 10 most word ≡ None
unfolding numeral
no_digits most [] other = refl
no_digits most (d ∷ word) other = rw (lt-ltb 0 (length (d ∷ word)) (omega arith), other) refl
