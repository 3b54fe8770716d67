-- The test of a name is the grammar's relation.
use Rattle.std.proofs.Common.{◌≡◌, ℕ, ◌<◌, ◌≤◌, Bool, true, not, ◌&&◌, ◌||◌, eqb, ltb, leb, List, length, refl, arith, inl, inr}
use Rattle.std.specs.Prelude.{codes, nat_eq, Contains}
use Rattle.std.specs.List.{list_all, list_any}
use Rattle.std.specs.Int.{is_in_range}
use Rattle.std.proofs.lemmas.Bool.{and_parts, and_from, or_cases, lt-ltb, le-leb, leb-true, ltb-true, eqb-true, not-true}
use Rattle.std.proofs.lemmas.List.Elements.{All-contains, All-weaker}
use Rattle.std.proofs.lemmas.List.Sums.{AllPass-from_list_all, list_all-from_AllPass}
use Rattle.std.proofs.lemmas.Map.Views.{Contains-from_any}
use Rattle.knx_model.specs.Numbers.{is_name, is_name_octet}
use Rattle.knx_model.specs.Spells.{SpellsName}
use Rattle.knx_model.proofs.Finite.{all_below, below}

abbrev letters : List ℕ
letters = codes "ABCDEFGHIJKLMNOPQRSTUVWXYZabcdefghijklmnopqrstuvwxyz0123456789_-."

all_letters : list_all is_name_octet letters ≡ true
all_letters = refl

is_letter : ℕ → Bool
is_letter x = not (is_name_octet x) || list_any (nat_eq x) letters

each_is : all_below is_letter 128 ≡ true
unfolding all_below is_letter
each_is = refl

in_range : (lo hi b : ℕ) → hi ≤ 126 → is_in_range lo hi b ≡ true → b < 128
in_range lo hi b high e = let h = and_parts (leb lo b) (leb b hi) e in let u = leb-true b hi h.1 in omega arith

by_eq : (b c : ℕ) → c ≤ 126 → eqb b c ≡ true → b < 128
by_eq b c high e = let q = eqb-true b c e in omega arith

pub is_ascii : (b : ℕ) → is_name_octet b ≡ true → b < 128
is_ascii b e = elim (or_cases _ _ e) [
  | inr dot ↦ by_eq b 46 (omega arith) dot
  | inl e1 ↦ elim (or_cases _ _ e1) [
    | inr dash ↦ by_eq b 45 (omega arith) dash
    | inl e2 ↦ elim (or_cases _ _ e2) [
      | inr line ↦ by_eq b 95 (omega arith) line
      | inl e3 ↦ elim (or_cases _ _ e3) [
        | inr low ↦ in_range 97 122 b (omega arith) low
        | inl e4 ↦ elim (or_cases _ _ e4) [ inl digit ↦ in_range 48 57 b (omega arith) digit | inr high ↦ in_range 65 90 b (omega arith) high ]
      ]
    ]
  ]
]

letter_to : (b : ℕ) → is_name_octet b ≡ true → Contains letters b
unfolding is_letter
letter_to b e = elim (or_cases (not (is_name_octet b)) (list_any (nat_eq b) letters) (below is_letter 128 b each_is (is_ascii b e))) [
  | inl other ↦ absurd cc (not-true _ other, e)
  | inr found ↦ Contains-from_any eqb-true b letters found
]

letter_from : (b : ℕ) → Contains letters b → is_name_octet b ≡ true
letter_from b h = All-contains (λ x. is_name_octet x ≡ true) letters b (AllPass-from_list_all is_name_octet letters all_letters) h

pub name_to : (w : List ℕ) → is_name w ≡ true → SpellsName w
name_to w e =
    let h = and_parts (ltb 0 (length w) && leb (length w) 32) (list_all is_name_octet w) e in
    let k = and_parts (ltb 0 (length w)) (leb (length w) 32) h.0 in
    record { some = ltb-true _ _ k.0; short = leb-true _ _ k.1; octets = All-weaker (λ b. is_name_octet b ≡ true) (Contains letters) letter_to w (AllPass-from_list_all is_name_octet w h.1) }

pub name_from : (w : List ℕ) → SpellsName w → is_name w ≡ true
name_from w is = and_from _ _ (and_from _ _ (lt-ltb 0 (length w) is.some) (le-leb (length w) 32 is.short)) (list_all-from_AllPass is_name_octet w (All-weaker (Contains letters) (λ b. is_name_octet b ≡ true) letter_from w is.octets))
