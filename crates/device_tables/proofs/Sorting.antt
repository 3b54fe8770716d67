-- Pairs that were sorted, of which the same stand once.
use Rattle.std.proofs.Common.{◌≡◌, ℕ, ◌+◌, ◌*◌, ◌<◌, ◌≤◌, inl, inr, Bool, true, false, ◌&&◌, ◌||◌, eqb, List, [], ◌∷◌, length, get_or, Some, refl, ap, ◌∙◌, Ordering, Less, arith}
use Rattle.std.specs.Prelude.{IsPermutation, slice_get, take}
use Rattle.std.specs.List.{AllPairs, list_any, dedup, dedup_from}
use Rattle.std.specs.List.Sorted.{IsSorted, IsStrictlySortedBy}
use Rattle.std.specs.Cmp.{IsTotalOrder}
use Rattle.std.specs.Ordering.{nat_cmp, ordering_then, eq_by_cmp}
use Rattle.std.proofs.lemmas.Bool.{eqb-true, cases_Bool, and_parts}
use Rattle.std.proofs.lemmas.Bool.Decides.{nat_tests}
use Rattle.std.proofs.lemmas.Cmp.{nat_cmp_total, on_total, then_total}
use Rattle.std.proofs.lemmas.List.{length-take}
use Rattle.std.proofs.lemmas.List.Elements.{All-from_recursion}
use Rattle.std.proofs.lemmas.List.Kept.{AllPairs-cons, IsStrictlySortedBy-dedup}
use Rattle.std.proofs.lemmas.List.Sorted.{Contains-permutation, IsPermutation-sym}
use Rattle.std.proofs.lemmas.Option.{slice_get_within}
use Rattle.knx_model.specs.Acts.{numbers, in_pairs, first_pairs, pairs}
use Rattle.device_tables.specs.Index.{StandsBefore, is_of, is_paired}
use Rattle.device_tables.proofs.Agreement.{alike, found, finds}

abbrev pub pair_cmp : ℕ × ℕ → ℕ × ℕ → Ordering
pair_cmp a b = ordering_then (nat_cmp a.0 b.0) (nat_cmp a.1 b.1)

abbrev pub pair_eq : ℕ × ℕ → ℕ × ℕ → Bool
pair_eq a b = eqb a.0 b.0 && eqb a.1 b.1

-- ---- in order

pairs_total : IsTotalOrder pair_cmp
pairs_total = then_total (on_total (λ p. p.0) nat_cmp_total) (on_total (λ p. p.1) nat_cmp_total)

ties : (a b : ℕ × ℕ) → pair_eq a b ≡ eq_by_cmp pair_cmp a b
ties a b = grind (arith, nat_tests)

less_before : (a b : ℕ × ℕ) → pair_cmp a b ≡ Less → StandsBefore a b
less_before a b less = grind (arith, nat_tests, less)

sorted_pairs : (ps : List (ℕ × ℕ)) → IsStrictlySortedBy pair_cmp ps → AllPairs StandsBefore ps
unfolding IsStrictlySortedBy
sorted_pairs [] h = λ i j d below lt. absurd (omega arith)
sorted_pairs (p ∷ ps) h = AllPairs-cons StandsBefore p ps (λ k d lt. less_before p (get_or ps k d) (All-from_recursion (λ y. pair_cmp p y ≡ Less) ps h.0 k d lt)) (sorted_pairs ps h.1)

pub ascend : (ps : List (ℕ × ℕ)) → IsSorted pair_cmp ps → AllPairs StandsBefore (dedup pair_eq ps)
ascend ps sorted = sorted_pairs (dedup pair_eq ps) (IsStrictlySortedBy-dedup pairs_total ties ps sorted)

-- ---- the same pairs

module _ {X : Type 0} (same : X → X → Bool) (p : X → Bool) (told : (x y : X) → same x y ≡ true → p x ≡ p y) where
  any_from : (xs : List X) (k : X) → list_any p (dedup_from same k xs) ≡ (p k || list_any p xs)
  any_from [] k = refl
  any_from (x ∷ xs) k = elim (cases_Bool (same x k)) as (λ _. list_any p (dedup_from same k (x ∷ xs)) ≡ (p k || list_any p (x ∷ xs))) [
    | inl twice ↦ rw twice (any_from xs k ∙ absorbed (p x) (p k) (list_any p xs) (told x k twice))
    | inr new ↦ rw new (ap (λ b. p k || b) (any_from xs x))
  ]
    where
      absorbed : (a b c : Bool) → a ≡ b → (b || c) ≡ (b || (a || c))
      absorbed true true c e = refl
      absorbed false false c e = refl
      absorbed true false c e = absurd (cc)
      absorbed false true c e = refl

  any_once : (xs : List X) → list_any p (dedup same xs) ≡ list_any p xs
  any_once [] = refl
  any_once (x ∷ xs) = any_from xs x

same_test : (g o : ℕ) (a b : ℕ × ℕ) → pair_eq a b ≡ true → is_of g o a ≡ is_of g o b
same_test g o a b e =
    let both = and_parts (eqb a.0 b.0) (eqb a.1 b.1) e in
    λ i. eqb (eqb-true a.0 b.0 both.0 i) g && eqb (eqb-true a.1 b.1 both.1 i) o

any_moved : (p : ℕ × ℕ → Bool) (xs ys : List (ℕ × ℕ)) → IsPermutation xs ys → list_any p ys ≡ list_any p xs
any_moved p xs ys moved = alike (list_any p ys) (list_any p xs)
    (λ e. let h = found p ys e in finds p xs h.0 (Contains-permutation ys xs h.0 (IsPermutation-sym xs ys moved) h.1) h.2)
    (λ e. let h = found p xs e in finds p ys h.0 (Contains-permutation xs ys h.0 moved h.1) h.2)

pub same_pairs : (xs ys : List (ℕ × ℕ)) (g o : ℕ) → IsPermutation xs ys → is_paired (dedup pair_eq ys) g o ≡ is_paired xs g o
same_pairs xs ys g o moved = any_once pair_eq (is_of g o) (same_test g o) ys ∙ any_moved (is_of g o) xs ys moved

-- ---- how many pairs a table has

numbers_few : (xs : List ℕ) → 2 * length (numbers xs) ≤ length xs
numbers_few [] = omega arith
numbers_few (a ∷ []) = omega arith
numbers_few (a ∷ b ∷ rest) = omega (arith, numbers_few rest)

pairs_few : (ns : List ℕ) → 2 * length (in_pairs ns) ≤ length ns
pairs_few [] = omega arith
pairs_few (a ∷ []) = omega arith
pairs_few (a ∷ b ∷ rest) = omega (arith, pairs_few rest)

within_taken : {X : Type 0} (n : ℕ) (xs : List X) → length (take n xs) ≤ length xs
within_taken n xs = omega (arith, length-take n xs)

first_few : (ns : List ℕ) → 0 < length (first_pairs ns) → 2 * length (first_pairs ns) + 1 ≤ length ns
first_few [] some = absurd (omega arith)
first_few (count ∷ entries) some = omega (arith, within_taken count (in_pairs entries), pairs_few entries)

pub table_few : (octets : List ℕ) (i : ℕ) (x : ℕ × ℕ) → slice_get (pairs octets) i ≡ Some x → 4 * i + 6 ≤ length octets
table_few octets i x e =
    let lt = slice_get_within (pairs octets) i x e in
    omega (arith, lt, first_few (numbers octets) (omega (arith, lt)), numbers_few octets)
