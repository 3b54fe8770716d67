-- Digits that write a number of 64 bits.
use Rattle.std.proofs.Common.{◌≡◌, ℕ, ◌-◌, ◌^◌, ◌<◌, ◌≤◌, Bool, true, false, eqb, leb, ◌&&◌, List, [], ◌∷◌, length, None, Some, Result, Ok, Err, refl, ap, arith, subst, lit≤}
use Rattle.std.specs.List.{list_all}
use Rattle.std.specs.Char.{digit_value}
use Rattle.std.specs.Prelude.{OkIff}
use Rattle.std.specs.Result.{result_ok}
use Rattle.std.specs.Str.Parse.{digits_value, AllDigits, IsNumeral, ParsesUnsigned, without_leading_plus}
use Rattle.std.proofs.lemmas.Bool.{lt-ltb, le-leb, leb-true, ne_eqb}
use Rattle.knx_model.specs.Numbers.{is_digit, numeral, up_to}
use Rattle.call_parts.proofs.Hosts.{all_digits, no_digits}
use Rattle.knx_top.specs.commands.big.{start_value}

-- a digit is no plus
no_plus : (word : List ℕ) → AllDigits 10 word → without_leading_plus word ≡ word
no_plus [] h = refl
no_plus (d ∷ ds) h =
    let large : 10 ≤ digit_value 43 = lit≤ tt in
    let other : eqb d 43 ≡ false = ne_eqb d 43 (λ e. let same : digit_value d ≡ digit_value 43 = ap digit_value e in omega (arith, h.0)) in
    rw other refl

over : (b : Bool) (value : ℕ) → leb value (2 ^ 64 - 1) ≡ b → ¬ (value < 2 ^ 64) → None ≡ up_to (2 ^ 64 - 1) (Some value)
over true value e large = absurd (large (let small : value ≤ 2 ^ 64 - 1 = leb-true value (2 ^ 64 - 1) e in omega arith))
over false value e large = rw e refl

value_read : {E : Type 0} (P : Type 0) (r : Result ℕ E) (value : ℕ) → P → OkIff r (P × (value < 2 ^ 64)) value → result_ok r ≡ up_to (2 ^ 64 - 1) (Some value)
value_read P (Ok n) value p h = rw (h.1, le-leb value (2 ^ 64 - 1) (omega (arith, h.0.1))) refl
value_read P (Err e) value p h = over (leb value (2 ^ 64 - 1)) value refl (λ small. h (p, small))

-- few digits are read as `parse` reads them
pub start_read : {E : Type 0} (word : List ℕ) (r : Result ℕ E) → length word ≤ 20 → list_all (is_digit 10) word ≡ true → ParsesUnsigned 64 10 word r → result_ok r ≡ start_value word
unfolding numeral
start_read [] (Ok n) short all h = absurd (omega (arith, h.0.0.0))
start_read [] (Err e) short all h = refl
start_read (d ∷ ds) r short all h =
    let word : List ℕ = d ∷ ds in
    let digits : AllDigits 10 word = all_digits word all in
    let some : 0 < length word = omega arith in
    let plain = subst (λ (ds : List ℕ). OkIff r (IsNumeral 10 ds × (digits_value 10 ds < 2 ^ 64)) (digits_value 10 ds)) (no_plus word digits) h in
    rw (lt-ltb 0 (length word) some, le-leb (length word) 20 short, all) (value_read (IsNumeral 10 word) r (digits_value 10 word) (some, digits) plain)

-- too many octets, or other ones, are no number
pub no_start : (word : List ℕ) → (leb (length word) 20 && list_all (is_digit 10) word) ≡ false → start_value word ≡ None
no_start word other = rw (no_digits 20 word other) refl
