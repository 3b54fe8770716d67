-- What holds of each number below a bound, by trying them all.
use Rattle.std.proofs.Common.{◌≡◌, ℕ, zero, suc, ◌<◌, Bool, true, false, ◌&&◌, eqb, Option, Some, None, ap, ◌∙◌, sym, arith, inl, inr}
use Rattle.std.proofs.lemmas.Bool.{and_parts, eqb-true, cases_lt}

unfoldable pub all_below : (ℕ → Bool) → ℕ → Bool
all_below p zero = true
all_below p (suc n) = p n && all_below p n

pub below : (p : ℕ → Bool) (n k : ℕ) → all_below p n ≡ true → k < n → p k ≡ true
unfolding all_below
below p zero k e lt = absurd (omega arith)
below p (suc n) k e lt = let h = and_parts (p n) (all_below p n) e in elim (cases_lt k n) [ inl small ↦ below p n k h.1 small | inr large ↦ let same : n ≡ k = omega arith in ap p (sym same) ∙ h.0 ]

-- whether an answer is n
unfoldable pub answers : Option ℕ → ℕ → Bool
answers None n = false
answers (Some m) n = eqb m n

pub answers-true : (o : Option ℕ) (n : ℕ) → answers o n ≡ true → o ≡ Some n
unfolding answers
answers-true None n e = absurd cc
answers-true (Some m) n e = ap (λ (x : ℕ). Some x) (eqb-true m n e)
