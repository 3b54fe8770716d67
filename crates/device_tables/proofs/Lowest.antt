-- What is found among the object numbers is the lowest of those that pass.
use Rattle.std.proofs.Common.{◌≡◌, ℕ, zero, suc, ◌+◌, ◌<◌, ◌≤◌, inl, inr, Bool, true, false, Some, None, refl, subst, arith, cond}
use Rattle.std.specs.Prelude.{find}
use Rattle.std.specs.List.{range_with_len}
use Rattle.std.proofs.lemmas.Bool.{cases_eq}
use Rattle.knx_model.specs.Acts.{object_numbers}
use Rattle.device_tables.specs.Lowest.{IsLowest}

-- found from a number on
record Found (p : ℕ → Bool) (a n o : ℕ) : Type 0 where
  from : a ≤ o
  below : o < a + n
  itself : p o ≡ true
  none_below : (k : ℕ) → a ≤ k → k < o → p k ≡ false

found : (p : ℕ → Bool) (a n o : ℕ) → find p (range_with_len a n) ≡ Some o → Found p a n o
found p a zero o e = absurd (cc)
found p a (suc n) o e =
    let by : (v : Bool) → p a ≡ v → cond v (Some a) (find p (range_with_len (a + 1) n)) ≡ Some o → Found p a (suc n) o
    = λ v. elim v as (λ v. p a ≡ v → cond v (Some a) (find p (range_with_len (a + 1) n)) ≡ Some o → Found p a (suc n) o) [
      | true ↦ λ here e. let same : a ≡ o = cc in record { from = omega arith; below = omega arith; itself = subst (λ k. p k ≡ true) same here; none_below = λ k from lt. absurd (omega arith) }
      | false ↦ λ here e.
          let later : Found p (a + 1) n o = found p (a + 1) n o e in
          record {
            from = omega (arith, later.from);
            below = omega (arith, later.below);
            itself = later.itself;
            none_below = λ k from lt. elim (cases_eq a k) [
              | inl same ↦ subst (λ j. p j ≡ false) same here
              | inr apart ↦ later.none_below k (omega arith) lt
            ];
          }
    ] in
    by (p a) refl e

pub found_is_lowest : (p : ℕ → Bool) (o : ℕ) → find p object_numbers ≡ Some o → IsLowest p o
unfolding object_numbers
found_is_lowest p o e =
    let f : Found p 1 255 o = found p 1 255 o e in
    record { from_1 = f.from; up_to_255 = omega (arith, f.below); itself = f.itself; none_below = f.none_below }

not_found : (p : ℕ → Bool) (a n : ℕ) → find p (range_with_len a n) ≡ None → (o : ℕ) → a ≤ o → o < a + n → p o ≡ false
not_found p a zero e o from below = absurd (omega arith)
not_found p a (suc n) e o from below =
    let by : (v : Bool) → p a ≡ v → cond v (Some a) (find p (range_with_len (a + 1) n)) ≡ None → p o ≡ false
    = λ v. elim v as (λ v. p a ≡ v → cond v (Some a) (find p (range_with_len (a + 1) n)) ≡ None → p o ≡ false) [
      | true ↦ λ here e. absurd (cc)
      | false ↦ λ here e. elim (cases_eq a o) [
        | inl same ↦ subst (λ j. p j ≡ false) same here
        | inr apart ↦ not_found p (a + 1) n e o (omega arith) (omega arith)
      ]
    ] in
    by (p a) refl e

pub none_passes : (p : ℕ → Bool) → find p object_numbers ≡ None → (o : ℕ) → 1 ≤ o → o ≤ 255 → p o ≡ false
unfolding object_numbers
none_passes p e o from to = not_found p 1 255 e o from (omega arith)
