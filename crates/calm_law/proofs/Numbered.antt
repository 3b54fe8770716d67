-- Jobs and group telegrams are numbered from 1.
use Rattle.std.proofs.Common.{◌≡◌, ◌≢◌, ℕ, zero, suc, ◌-◌, ◌≤◌, List, [], ◌∷◌, length, Bool, true, false, cond, Option, Some, None, slice_get, sym, ◌∙◌, subst, refl, arith, inl, inr}
use Rattle.std.specs.Prelude.{◌==◌}
use Rattle.std.specs.List.{AllByRecursion}
use Rattle.std.proofs.lemmas.Bool.{cases_order}
use Rattle.std.proofs.lemmas.Bool.Decides.{nat_tests}
use Rattle.line_model.specs.Log.{numbered_from_one}

none_at : {X : Type 0} (xs : List X) (k : ℕ) → length xs ≤ k → slice_get xs k ≡ None
none_at [] zero h = refl
none_at [] (suc k) h = refl
none_at (x ∷ xs) zero h = absurd (let z : suc (length xs) ≤ 0 = h in omega (arith, z))
none_at (x ∷ xs) (suc k) h = none_at xs k (let z : suc (length xs) ≤ suc k = h in omega (arith, z))

numbered : {X : Type 0} (xs : List X) (j : ℕ) → numbered_from_one xs (suc j) ≡ slice_get xs j
numbered xs j = let some : (suc j == 0) ≡ false = grind (arith, nat_tests) in let before : suc j - 1 ≡ j = omega arith in rw (some, before) refl

pub within : {X : Type 0} (xs : List X) (k : ℕ) (x : X) → numbered_from_one xs k ≡ Some x → (1 ≤ k) × (k ≤ length xs)
within xs zero x h = absurd (cc)
within xs (suc j) x h = (
  omega arith,
  elim (cases_order j (length xs)) [
    | inl same ↦ absurd (let z : None ≡ Some x = sym (numbered xs j ∙ none_at xs j (omega (arith, same))) ∙ h in cc)
    | inr (inl less) ↦ omega (arith, less)
    | inr (inr more) ↦ absurd (let z : None ≡ Some x = sym (numbered xs j ∙ none_at xs j (omega (arith, more))) ∙ h in cc)
  ],
)

-- where one is there, those before it are
none_later : {X : Type 0} (xs : List X) (j : ℕ) → slice_get xs j ≡ None → slice_get xs (suc j) ≡ None
none_later [] j e = refl
none_later (x ∷ xs) zero e = absurd (cc)
none_later (x ∷ xs) (suc j) e = none_later xs j e

pub one_before : {X : Type 0} (xs : List X) (j : ℕ) → numbered_from_one xs (suc (suc j)) ≢ None → numbered_from_one xs (suc j) ≢ None
one_before xs j there e = there (numbered xs (suc j) ∙ none_later xs j (sym (numbered xs j) ∙ e))

-- what holds of all holds of each
of_all : {X : Type 0} (P : X → Type 0) (xs : List X) (k : ℕ) (x : X) → AllByRecursion P xs → slice_get xs k ≡ Some x → P x
of_all P [] k x h e = absurd (cc)
of_all P (y ∷ xs) zero x h e = (let same : y ≡ x = cc in subst P same h.0)
of_all P (y ∷ xs) (suc k) x h e = of_all P xs k x h.1 e

at_number : {X : Type 0} (P : X → Type 0) (xs : List X) (k : ℕ) (b : Bool) (x : X) → AllByRecursion P xs → cond {A = Option X} b None (slice_get xs (k - 1)) ≡ Some x → P x
at_number P xs k true x h e = absurd (cc)
at_number P xs k false x h e = of_all P xs (k - 1) x h e

pub each_of : {X : Type 0} (P : X → Type 0) (xs : List X) → AllByRecursion P xs → (k : ℕ) (x : X) → numbered_from_one xs k ≡ Some x → P x
each_of P xs h k x e = at_number P xs k (k == 0) x h e
