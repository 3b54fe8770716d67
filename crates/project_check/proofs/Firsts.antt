-- A test of the elements of a list one after another.
use Rattle.std.proofs.Common.{◌≡◌, ℕ, suc, ◌+◌, ◌<◌, ◌≤◌, Bool, true, false, ◌||◌, List, length, get_or, drop, refl, sym, ap, ◌∙◌, drop-cons, arith}
use Rattle.std.specs.List.{list_any}
use Rattle.std.proofs.lemmas.List.{drop_all}

-- the element at i and those after it
any_from : {X : Type 0} (p : X → Bool) (xs : List X) (i : ℕ) (d : X) → i < length xs → list_any p (drop i xs) ≡ (p (get_or xs i d) || list_any p (drop (i + 1) xs))
any_from p xs i d lt = let next : suc i ≡ i + 1 = omega arith in ap (list_any p) (drop-cons xs i d lt) ∙ ap (λ (n : ℕ). p (get_or xs i d) || list_any p (drop n xs)) next

-- the test passes at i
pub any_here : {X : Type 0} (p : X → Bool) (xs : List X) (i : ℕ) (d : X) → i < length xs → list_any p (drop i xs) ≡ list_any p xs → p (get_or xs i d) ≡ true → true ≡ list_any p xs
any_here p xs i d lt so_far e = sym (any_from p xs i d lt ∙ rw e refl) ∙ so_far

-- it doesn't
pub any_later : {X : Type 0} (p : X → Bool) (xs : List X) (i : ℕ) (d : X) → i < length xs → list_any p (drop i xs) ≡ list_any p xs → p (get_or xs i d) ≡ false → list_any p (drop (i + 1) xs) ≡ list_any p xs
any_later p xs i d lt so_far e = sym (any_from p xs i d lt ∙ rw e refl) ∙ so_far

-- nowhere
pub any_nowhere : {X : Type 0} (p : X → Bool) (xs : List X) (i : ℕ) → length xs ≤ i → list_any p (drop i xs) ≡ list_any p xs → false ≡ list_any p xs
any_nowhere p xs i le so_far = ap (list_any p) (sym (drop_all i xs le)) ∙ so_far
