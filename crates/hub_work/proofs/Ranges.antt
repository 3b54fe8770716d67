-- What holds of each item holds of the item at a place.
use Rattle.std.proofs.Common.{◌≡◌, ℕ, zero, suc, ◌<◌, List, [], ◌∷◌, length, get_or, sym, subst, arith}
use Rattle.std.specs.List.{AllByRecursion}

pub all_at : {X : Type 0} (P : X → Type 0) (xs : List X) (k : ℕ) (x : X) → AllByRecursion P xs → k < length xs → x ≡ get_or xs k x → P x
all_at P [] k x a lt e = absurd (omega arith)
all_at P (y ∷ xs) zero x a lt e = subst P (sym e) a.0
all_at P (y ∷ xs) (suc k) x a lt e = all_at P xs k x a.1 (omega arith) e

pub all_in : {X : Type 0} (P : X → Type 0) (xs ys : List X) (k : ℕ) (x : X) → xs ≡ ys → AllByRecursion P ys → k < length xs → x ≡ get_or xs k x → P x
all_in P xs ys k x same a lt e = all_at P xs k x (subst (AllByRecursion P) (sym same) a) lt e
