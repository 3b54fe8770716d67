-- The number that digits write, digit by digit.
use Rattle.std.proofs.Common.{◌≡◌, ℕ, ◌*◌, ◌^◌, ◌<◌, ◌≤◌, true, List, [], ◌∷◌, length, refl, arith}
use Rattle.std.specs.List.{list_all}
use Rattle.std.specs.Str.Parse.{digits_value, AllDigits}
use Rattle.std.proofs.Math.Nat.{pow-le-pow_left, pow-le-pow_right, mul-le-mul_left}
use Rattle.std.proofs.lemmas.Bool.{and_parts, ltb-true}
use Rattle.std.proofs.lemmas.Int.Digits.{digits_value-lt}
use Rattle.knx_model.specs.Numbers.{is_digit}

pub all_digits : (radix : ℕ) (ds : List ℕ) → list_all (is_digit radix) ds ≡ true → AllDigits radix ds
all_digits radix [] e = tt
all_digits radix (d ∷ ds) e = let h = and_parts (is_digit radix d) (list_all (is_digit radix) ds) e in (ltb-true _ _ h.0, all_digits radix ds h.1)

-- ten digits of a base up to 16 write less than 2^40
pub fits : (radix : ℕ) (ds : List ℕ) → list_all (is_digit radix) ds ≡ true → radix ≤ 16 → length ds ≤ 10 → digits_value radix ds < 1099511627776
fits radix ds e base short =
    let lt = digits_value-lt radix ds (all_digits radix ds e) in
    let le : radix ^ length ds ≤ 16 ^ length ds = pow-le-pow_left base (length ds) in
    let le' : 16 ^ length ds ≤ 16 ^ 10 = pow-le-pow_right {n = 16} (omega arith) short in
    let e16 : 16 ^ 10 ≡ 1099511627776 = refl in
    omega arith

pub times_fits : (n radix : ℕ) → n < 1099511627776 → radix ≤ 16 → n * radix < 17592186044416
times_fits n radix lt base = let le : n * radix ≤ n * 16 = mul-le-mul_left n base in omega arith
