-- The numbers of a word that is joined of three parts, or of two.
use Rattle.std.proofs.Common.{◌≡◌, ℕ, Bool, List, [], ◌∷◌, drop, Option, Some, None, eqb, refl}
use Rattle.std.specs.List.{slice_split, position}
use Rattle.std.specs.Char.{digit_value}
use Rattle.std.specs.Option.{option_map, option_and_then}
use Rattle.std.proofs.lemmas.List.Splits.{slice_split_none}
use Rattle.knx_model.specs.Addresses.{three, two}
use Rattle.knx_model.specs.Numbers.{numeral, part_value, up_to}
use Rattle.knx_model.proofs.Cutting.{has_part, cut_found, cut_none}
use Rattle.knx_model.proofs.Spells.{none, part_to, up_to_some, digits_to}

-- the numbers of three parts, each up to its most
abbrev numbers : ℕ × ℕ × ℕ → Option (List ℕ × List ℕ × List ℕ) → Option (ℕ × ℕ × ℕ)
numbers most parts = option_and_then (λ ps. option_and_then (λ a. option_and_then (λ b. option_map (λ c. (a, b, c)) (part_value most.2 ps.2)) (part_value most.1 ps.1)) (part_value most.0 ps.0)) parts

pub three_numbers : (most : ℕ × ℕ × ℕ) (by : ℕ) (word a rest b c : List ℕ) (x y z : ℕ) → digit_value by ≡ 36
    → slice_split (λ o. eqb o by) word ≡ a ∷ slice_split (λ o. eqb o by) rest → slice_split (λ o. eqb o by) rest ≡ b ∷ slice_split (λ o. eqb o by) c
    → part_value most.0 a ≡ Some x → part_value most.1 b ≡ Some y → part_value most.2 c ≡ Some z
    → numbers most (three (slice_split (λ o. eqb o by) word)) ≡ Some (x, y, z)
three_numbers most by word a rest b c x y z worth e1 e2 ea eb ec =
    let one : slice_split (λ o. eqb o by) c ≡ c ∷ [] = slice_split_none (λ o. eqb o by) c (none by c worth (part_to most.2 c z ec).digits) in
    rw (e1, e2, one, ea, eb, ec) refl

no_third_at : (most : ℕ × ℕ × ℕ) (p : ℕ → Bool) (a b c : List ℕ) (x y : ℕ) (i : Option ℕ) → position p c ≡ i
    → part_value most.0 a ≡ Some x → part_value most.1 b ≡ Some y → part_value most.2 c ≡ None
    → numbers most (three (a ∷ b ∷ slice_split p c)) ≡ None
no_third_at most p a b c x y None e ea eb ec = rw (cut_none p c e, ea, eb, ec) refl
no_third_at most p a b c x y (Some i) e ea eb ec = let cut = cut_found p c i e in let h = has_part p (drop 1 (drop i c)) in rw (cut.1, h.2) refl

-- where the third part is no number, there are no three numbers
pub no_third : (most : ℕ × ℕ × ℕ) (p : ℕ → Bool) (word a rest b c : List ℕ) (x y : ℕ)
    → slice_split p word ≡ a ∷ slice_split p rest → slice_split p rest ≡ b ∷ slice_split p c
    → part_value most.0 a ≡ Some x → part_value most.1 b ≡ Some y → part_value most.2 c ≡ None
    → numbers most (three (slice_split p word)) ≡ None
no_third most p word a rest b c x y e1 e2 ea eb ec = rw (e1, e2) (no_third_at most p a b c x y (position p c) refl ea eb ec)

-- the numbers of main and sub
abbrev numbers_of_two : Option (List ℕ × List ℕ) → Option (ℕ × ℕ)
numbers_of_two parts = option_and_then (λ ps. option_and_then (λ a. option_map (λ b. (a, b)) (up_to 2047 (numeral 10 4 ps.1))) (part_value 31 ps.0)) parts

pub two_numbers : (word main sub : List ℕ) (x y : ℕ) → slice_split (λ o. eqb o 47) word ≡ main ∷ slice_split (λ o. eqb o 47) sub → part_value 31 main ≡ Some x → up_to 2047 (numeral 10 4 sub) ≡ Some y
    → numbers_of_two (two (slice_split (λ o. eqb o 47) word)) ≡ Some (x, y)
two_numbers word main sub x y e ea eb =
    let one : slice_split (λ o. eqb o 47) sub ≡ sub ∷ [] = slice_split_none (λ o. eqb o 47) sub (none 47 sub refl (digits_to 10 4 sub y (up_to_some 2047 (numeral 10 4 sub) y eb).0).are_digits) in
    rw (e, one, ea, eb) refl

no_second_at : (p : ℕ → Bool) (main sub : List ℕ) (x : ℕ) (i : Option ℕ) → position p sub ≡ i → part_value 31 main ≡ Some x → up_to 2047 (numeral 10 4 sub) ≡ None → numbers_of_two (two (main ∷ slice_split p sub)) ≡ None
no_second_at p main sub x None e ea eb = rw (cut_none p sub e, ea, eb) refl
no_second_at p main sub x (Some i) e ea eb = let cut = cut_found p sub i e in let h = has_part p (drop 1 (drop i sub)) in rw (cut.1, h.2) refl

-- where the second part is no number, there are no two numbers
pub no_second : (p : ℕ → Bool) (word main sub : List ℕ) (x : ℕ) → slice_split p word ≡ main ∷ slice_split p sub → part_value 31 main ≡ Some x → up_to 2047 (numeral 10 4 sub) ≡ None → numbers_of_two (two (slice_split p word)) ≡ None
no_second p word main sub x e ea eb = rw e (no_second_at p main sub x (position p sub) refl ea eb)
