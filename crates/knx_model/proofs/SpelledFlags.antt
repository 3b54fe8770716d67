-- The function that reads flags is the grammar's relation.
use Rattle.std.proofs.Common.{◌≡◌, ℕ, suc, ◌+◌, ◌*◌, ◌≤◌, ◌⊎◌, Bool, true, false, cond, ◌&&◌, ◌||◌, eqb, ltb, List, [], ◌∷◌, length, map, sum, All, Some, None, refl, sym, ap, ◌∙◌, arith, inl, inr}
use Rattle.std.specs.Prelude.{codes, nat_eq, bytes_eq, count_by, Contains}
use Rattle.std.specs.List.{list_all, list_any, AllByRecursion, IsDistinct}
use Rattle.std.specs.Cmp.{nat_eq_equiv}
use Rattle.std.proofs.lemmas.Bool.{and_parts, and_from, or_cases, or_from, or_parts, lt-ltb, le-ltb, ltb-true, ltb-false, eq-eqb, eqb-true, ne_eqb, cases_Bool, cases_lt, false_from_ne_true}
use Rattle.std.proofs.lemmas.List.Elements.{All-weaker}
use Rattle.std.proofs.lemmas.List.Recursion.{is_count_by}
use Rattle.std.proofs.lemmas.List.Sums.{AllPass-from_list_all, list_all-from_AllPass, sum_by-cons}
use Rattle.std.proofs.lemmas.Map.Views.{Contains-from_any, list_any-from_Contains}
use Rattle.std.proofs.lemmas.Option.{same_Some, none-some}
use Rattle.std.proofs.lemmas.Slice.Eq.{bytes_eq-Decides}
use Rattle.knx_model.specs.Flags.{flag_bit, times, flags_value}
use Rattle.knx_model.specs.Spells.{SpellsFlags}
use Rattle.knx_model.specs.Spells.SpellsFlags.{NoFlags, Letters}
use Rattle.knx_model.proofs.Finite.{all_below, below}

abbrev flags : List ℕ
flags = codes "CRWTUI"

abbrev is_flag : ℕ → Bool
is_flag x = list_any (nat_eq x) flags

abbrev is : ℕ → ℕ → Bool
is letter x = eqb x letter

abbrev one : Bool → ℕ
one b = cond b 1 0

-- ---- one letter

abbrev kinds : ℕ → ℕ
kinds x = one (eqb x 67) + one (eqb x 82) + one (eqb x 87) + one (eqb x 84) + one (eqb x 85) + one (eqb x 73)

abbrev bits : ℕ → ℕ
bits x = one (eqb x 67) * 4 + one (eqb x 82) * 8 + one (eqb x 87) * 16 + one (eqb x 73) * 32 + one (eqb x 84) * 64 + one (eqb x 85) * 128

kinds_small : all_below (λ x. eqb (kinds x) (one (is_flag x))) 128 ≡ true
unfolding all_below
kinds_small = refl

bits_small : all_below (λ x. eqb (flag_bit x) (bits x)) 128 ≡ true
unfolding all_below
bits_small = refl

kinds_are : (x : ℕ) → kinds x ≡ one (is_flag x)
kinds_are x = elim (cases_lt x 128) [
  | inl lt ↦ eqb-true _ _ (below (λ x. eqb (kinds x) (one (is_flag x))) 128 x kinds_small lt)
  | inr le ↦ rw (ne_eqb x 67 (λ q. omega arith), ne_eqb x 82 (λ q. omega arith), ne_eqb x 87 (λ q. omega arith), ne_eqb x 84 (λ q. omega arith), ne_eqb x 85 (λ q. omega arith), ne_eqb x 73 (λ q. omega arith)) refl
]

bits_are : (x : ℕ) → flag_bit x ≡ bits x
bits_are x = elim (cases_lt x 128) [
  | inl lt ↦ eqb-true _ _ (below (λ x. eqb (flag_bit x) (bits x)) 128 x bits_small lt)
  | inr le ↦ rw (ne_eqb x 67 (λ q. omega arith), ne_eqb x 82 (λ q. omega arith), ne_eqb x 87 (λ q. omega arith), ne_eqb x 84 (λ q. omega arith), ne_eqb x 85 (λ q. omega arith), ne_eqb x 73 (λ q. omega arith)) refl
]

-- ---- how often a letter is in a word

many : (ℕ → Bool) → List ℕ → ℕ
many p [] = 0
many p (x ∷ xs) = cond (p x) (1 + many p xs) (many p xs)

many-count_by : (p : ℕ → Bool) (xs : List ℕ) → many p xs ≡ count_by p xs
unfolding many
many-count_by p xs = is_count_by (many p) p refl (λ x xs. refl) xs

cond_one : (b : Bool) (n : ℕ) → cond b (1 + n) n ≡ one b + n
cond_one true n = refl
cond_one false n = omega arith

many_step : (p : ℕ → Bool) (x : ℕ) (xs : List ℕ) → many p (x ∷ xs) ≡ one (p x) + many p xs
unfolding many
many_step p x xs = cond_one (p x) (many p xs)

many_nil : (p : ℕ → Bool) → many p [] ≡ 0
unfolding many
many_nil p = refl

one_le : (b : Bool) → one b ≤ 1
one_le true = omega arith
one_le false = omega arith

many_le : (p : ℕ → Bool) (xs : List ℕ) → many p xs ≤ length xs
many_le p [] = omega (arith, many_nil p)
many_le p (x ∷ xs) = omega (arith, many_step p x xs, one_le (p x), many_le p xs)

abbrev six : List ℕ → ℕ
six w = many (is 67) w + many (is 82) w + many (is 87) w + many (is 84) w + many (is 85) w + many (is 73) w

six_are : (w : List ℕ) → six w ≡ many is_flag w
six_are [] = rw (many_nil (is 67), many_nil (is 82), many_nil (is 87), many_nil (is 84), many_nil (is 85), many_nil (is 73), many_nil is_flag) refl
six_are (x ∷ xs) = omega (arith, many_step (is 67) x xs, many_step (is 82) x xs, many_step (is 87) x xs, many_step (is 84) x xs, many_step (is 85) x xs, many_step (is 73) x xs, many_step is_flag x xs, kinds_are x, six_are xs)

abbrev all_bits : List ℕ → ℕ
all_bits w = many (is 67) w * 4 + many (is 82) w * 8 + many (is 87) w * 16 + many (is 73) w * 32 + many (is 84) w * 64 + many (is 85) w * 128

sum_is : (w : List ℕ) → sum (map flag_bit w) ≡ all_bits w
sum_is [] = rw (many_nil (is 67), many_nil (is 82), many_nil (is 87), many_nil (is 84), many_nil (is 85), many_nil (is 73)) refl
sum_is (x ∷ xs) =
    let first : sum (flag_bit x ∷ map flag_bit xs) ≡ flag_bit x + sum (map flag_bit xs) = sum_by-cons (λ y. y) (flag_bit x) (map flag_bit xs) in
    omega (arith, first, many_step (is 67) x xs, many_step (is 82) x xs, many_step (is 87) x xs, many_step (is 84) x xs, many_step (is 85) x xs, many_step (is 73) x xs, bits_are x, sum_is xs)

-- ---- only letters of flags

all_step : (b : Bool) (n len : ℕ) (rest : Bool) → one b + n ≡ suc len → n ≤ len → (n ≡ len → rest ≡ true) → (b && rest) ≡ true
all_step true n len rest e le later = later (omega arith)
all_step false n len rest e le later = absurd (omega arith)

all_flags : (w : List ℕ) → many is_flag w ≡ length w → list_all is_flag w ≡ true
all_flags [] e = refl
all_flags (x ∷ xs) e = all_step (is_flag x) (many is_flag xs) (length xs) (list_all is_flag xs) (sym (many_step is_flag x xs) ∙ e) (many_le is_flag xs) (all_flags xs)

flags_many : (w : List ℕ) → list_all is_flag w ≡ true → many is_flag w ≡ length w
flags_many [] e = many_nil is_flag
flags_many (x ∷ xs) e =
    let h = and_parts (is_flag x) (list_all is_flag xs) e in
    let first : one (is_flag x) ≡ 1 = ap one h.0 in
    omega (arith, many_step is_flag x xs, first, flags_many xs h.1)

-- ---- each once

none_step : (b : Bool) (n : ℕ) → one b + n ≡ 0 → (b ≡ false) × (n ≡ 0)
none_step true n e = absurd (omega arith)
none_step false n e = (refl, omega arith)

none_to : (x : ℕ) (xs : List ℕ) → many (is x) xs ≡ 0 → AllByRecursion (λ y. nat_eq x y ≡ false) xs
none_to x [] e = tt
none_to x (y ∷ ys) e = let h = none_step (eqb y x) (many (is x) ys) (sym (many_step (is x) y ys) ∙ e) in (nat_eq_equiv.symm x y ∙ h.0, none_to x ys h.1)

none_from : (x : ℕ) (xs : List ℕ) → AllByRecursion (λ y. nat_eq x y ≡ false) xs → many (is x) xs ≡ 0
none_from x [] h = many_nil (is x)
none_from x (y ∷ ys) h =
    let other : eqb y x ≡ false = nat_eq_equiv.symm y x ∙ h.0 in
    let first : one (eqb y x) ≡ 0 = ap one other in
    omega (arith, many_step (is x) y ys, first, none_from x ys h.1)

distinct_to : (w : List ℕ) → list_all is_flag w ≡ true → ((letter : ℕ) → is_flag letter ≡ true → many (is letter) w ≤ 1) → IsDistinct nat_eq w
unfolding IsDistinct
distinct_to [] all once = tt
distinct_to (x ∷ xs) all once =
    let h = and_parts (is_flag x) (list_all is_flag xs) all in
    let here : one (eqb x x) ≡ 1 = ap one (eq-eqb x x refl) in
    let none : many (is x) xs ≡ 0 = omega (arith, many_step (is x) x xs, here, once x h.0) in
    (none_to x xs none, distinct_to xs h.1 (λ letter e. omega (arith, many_step (is letter) x xs, once letter e)))

distinct_from : (w : List ℕ) (letter : ℕ) → IsDistinct nat_eq w → many (is letter) w ≤ 1
unfolding IsDistinct
distinct_from [] letter h = omega (arith, many_nil (is letter))
distinct_from (x ∷ xs) letter h = elim (cases_Bool (eqb x letter)) [
  | inl found ↦
      let same : x ≡ letter = eqb-true x letter found in
      let none : many (is letter) xs ≡ 0 = ap (λ (l : ℕ). many (is l) xs) (sym same) ∙ none_from x xs h.0 in
      omega (arith, many_step (is letter) x xs, one_le (eqb x letter), none)
  | inr other ↦ let first : one (eqb x letter) ≡ 0 = ap one other in omega (arith, many_step (is letter) x xs, first, distinct_from xs letter h.1)
]

-- each of the six letters at most once
record Once (word : List ℕ) : Type 0 where
  c : times 67 word ≤ 1
  r : times 82 word ≤ 1
  w : times 87 word ≤ 1
  t : times 84 word ≤ 1
  u : times 85 word ≤ 1
  i : times 73 word ≤ 1

once_at : (w : List ℕ) (letter x : ℕ) → times letter w ≤ 1 → eqb x letter ≡ true → many (is x) w ≤ 1
once_at w letter x le e =
    let same : x ≡ letter = eqb-true x letter e in
    rw same (omega (arith, many-count_by (is letter) w, le))

once_each : (w : List ℕ) → Once w → (x : ℕ) → is_flag x ≡ true → many (is x) w ≤ 1
once_each w once x e = elim (or_cases (eqb x 67) (list_any (nat_eq x) (codes "RWTUI")) e) [
  | inl at ↦ once_at w 67 x once.c at
  | inr e1 ↦ elim (or_cases (eqb x 82) (list_any (nat_eq x) (codes "WTUI")) e1) [
    | inl at ↦ once_at w 82 x once.r at
    | inr e2 ↦ elim (or_cases (eqb x 87) (list_any (nat_eq x) (codes "TUI")) e2) [
      | inl at ↦ once_at w 87 x once.w at
      | inr e3 ↦ elim (or_cases (eqb x 84) (list_any (nat_eq x) (codes "UI")) e3) [
        | inl at ↦ once_at w 84 x once.t at
        | inr e4 ↦ elim (or_cases (eqb x 85) (list_any (nat_eq x) (codes "I")) e4) [
          | inl at ↦ once_at w 85 x once.u at
          | inr e5 ↦ elim (or_cases (eqb x 73) false e5) [ inl at ↦ once_at w 73 x once.i at | inr none ↦ absurd cc ]
        ]
      ]
    ]
  ]
]

-- ---- the whole word

abbrev more : List ℕ → Bool
more w = ltb 1 (times 67 w) || ltb 1 (times 82 w) || ltb 1 (times 87 w) || ltb 1 (times 84 w) || ltb 1 (times 85 w) || ltb 1 (times 73 w)

abbrev whole : List ℕ → Bool
whole w = ltb 0 (length w) && eqb (times 67 w + times 82 w + times 87 w + times 84 w + times 85 w + times 73 w) (length w)

abbrev octet_of : List ℕ → ℕ
octet_of w = 3 + times 67 w * 4 + times 82 w * 8 + times 87 w * 16 + times 73 w * 32 + times 84 w * 64 + times 85 w * 128

split : (dash more whole : Bool) (n octet : ℕ) → cond dash (Some 3) (cond more None (cond whole (Some n) None)) ≡ Some octet → ((dash ≡ true) × (octet ≡ 3)) ⊎ ((more ≡ false) × (whole ≡ true) × (octet ≡ n))
split true more whole n octet e = inl (refl, sym (same_Some 3 octet e))
split false true whole n octet e = absurd (none-some octet e)
split false false true n octet e = inr (refl, refl, sym (same_Some n octet e))
split false false false n octet e = absurd (none-some octet e)

once_from : (w : List ℕ) → more w ≡ false → Once w
once_from w e =
    let h1 = or_parts (ltb 1 (times 67 w) || ltb 1 (times 82 w) || ltb 1 (times 87 w) || ltb 1 (times 84 w) || ltb 1 (times 85 w)) (ltb 1 (times 73 w)) e in
    let h2 = or_parts (ltb 1 (times 67 w) || ltb 1 (times 82 w) || ltb 1 (times 87 w) || ltb 1 (times 84 w)) (ltb 1 (times 85 w)) h1.0 in
    let h3 = or_parts (ltb 1 (times 67 w) || ltb 1 (times 82 w) || ltb 1 (times 87 w)) (ltb 1 (times 84 w)) h2.0 in
    let h4 = or_parts (ltb 1 (times 67 w) || ltb 1 (times 82 w)) (ltb 1 (times 87 w)) h3.0 in
    let h5 = or_parts (ltb 1 (times 67 w)) (ltb 1 (times 82 w)) h4.0 in
    record { c = ltb-false _ _ h5.0; r = ltb-false _ _ h5.1; w = ltb-false _ _ h4.1; t = ltb-false _ _ h3.1; u = ltb-false _ _ h2.1; i = ltb-false _ _ h1.1 }

no_more : (w : List ℕ) → ((letter : ℕ) → many (is letter) w ≤ 1) → more w ≡ false
no_more w once =
    let at : (letter : ℕ) → ltb 1 (times letter w) ≡ false = λ letter. le-ltb 1 (times letter w) (omega (arith, many-count_by (is letter) w, once letter)) in
    or_from _ _ (or_from _ _ (or_from _ _ (or_from _ _ (or_from _ _ (at 67) (at 82)) (at 87)) (at 84)) (at 85)) (at 73)

times_six : (w : List ℕ) → times 67 w + times 82 w + times 87 w + times 84 w + times 85 w + times 73 w ≡ six w
times_six w = rw (many-count_by (is 67) w, many-count_by (is 82) w, many-count_by (is 87) w, many-count_by (is 84) w, many-count_by (is 85) w, many-count_by (is 73) w) refl

octet_is : (w : List ℕ) → octet_of w ≡ 3 + sum (map flag_bit w)
octet_is w = omega (arith, sum_is w, many-count_by (is 67) w, many-count_by (is 82) w, many-count_by (is 87) w, many-count_by (is 84) w, many-count_by (is 85) w, many-count_by (is 73) w)

letters_to : (w : List ℕ) (octet : ℕ) → more w ≡ false → whole w ≡ true → octet ≡ octet_of w → SpellsFlags w octet
letters_to w octet e1 e2 e3 =
    let h = and_parts (ltb 0 (length w)) (eqb (times 67 w + times 82 w + times 87 w + times 84 w + times 85 w + times 73 w) (length w)) e2 in
    let all : list_all is_flag w ≡ true = all_flags w (sym (six_are w) ∙ sym (times_six w) ∙ eqb-true _ _ h.1) in
    Letters (ltb-true _ _ h.0) (All-weaker (λ x. is_flag x ≡ true) (Contains flags) (λ x e. Contains-from_any eqb-true x flags e) w (AllPass-from_list_all is_flag w all)) (distinct_to w all (once_each w (once_from w e1))) (e3 ∙ octet_is w)

pub flags_to : (w : List ℕ) (octet : ℕ) → flags_value w ≡ Some octet → SpellsFlags w octet
unfolding flags_value
flags_to w octet e = elim (split (bytes_eq w (45 ∷ [])) (more w) (whole w) (octet_of w) octet e) [
  | inl dash ↦ NoFlags ((bytes_eq-Decides w (45 ∷ [])).0 dash.0) dash.1
  | inr h ↦ letters_to w octet h.0 h.1 h.2
]

join : (dash more whole : Bool) (n octet : ℕ) → dash ≡ false → more ≡ false → whole ≡ true → octet ≡ n → cond dash (Some 3) (cond more None (cond whole (Some n) None)) ≡ Some octet
join dash more whole n octet e1 e2 e3 e4 = rw (e1, e2, e3, e4) refl

no_dash : (w : List ℕ) → All (Contains flags) w → bytes_eq w (45 ∷ []) ≡ false
no_dash w letters = false_from_ne_true _ (λ e.
    let is_dash : w ≡ 45 ∷ [] = (bytes_eq-Decides w (45 ∷ [])).0 e in
    let in_flags : Contains flags 45 = (rw is_dash at letters) 0 45 (omega arith) in
    let found : list_any (nat_eq 45) flags ≡ true = list_any-from_Contains nat_eq_equiv 45 flags in_flags in
    absurd cc)

pub flags_from : (w : List ℕ) (octet : ℕ) → SpellsFlags w octet → flags_value w ≡ Some octet
unfolding flags_value
flags_from w octet (NoFlags dash three) = rw (dash, three) refl
flags_from w octet (Letters some letters distinct sum-is) =
    let all : list_all is_flag w ≡ true = list_all-from_AllPass is_flag w (All-weaker (Contains flags) (λ x. is_flag x ≡ true) (λ x h. list_any-from_Contains nat_eq_equiv x flags h) w letters) in
    let same : times 67 w + times 82 w + times 87 w + times 84 w + times 85 w + times 73 w ≡ length w = times_six w ∙ six_are w ∙ flags_many w all in
    join (bytes_eq w (45 ∷ [])) (more w) (whole w) (octet_of w) octet (no_dash w letters) (no_more w (λ letter. distinct_from w letter distinct)) (and_from _ _ (lt-ltb 0 (length w) some) (eq-eqb _ _ same)) (sum-is ∙ sym (octet_is w))
