-- Lists by numbers from 1, and a list after an element was written.
use Rattle.std.proofs.Common.{◌≡◌, ◌≢◌, ℕ, zero, suc, ◌-◌, ◌<◌, ◌≤◌, cond, List, [], ◌∷◌, length, set, replicate, Some, None, refl, sym, ap, ◌∙◌, arith}
use Rattle.std.specs.Prelude.{slice_get}
use Rattle.std.proofs.lemmas.Bool.{ne_eqb}
use Rattle.std.proofs.lemmas.Option.{slice_get_within}
use Rattle.line_model.specs.Log.{numbered_from_one}

pub set_there : {X : Type 0} (xs : List X) (i : ℕ) (y : X) → i < length xs → slice_get (set xs i y) i ≡ Some y
set_there [] i y lt = absurd (omega arith)
set_there (x ∷ xs) zero y lt = refl
set_there (x ∷ xs) (suc i) y lt = set_there xs i y (omega arith)

pub set_elsewhere : {X : Type 0} (xs : List X) (i j : ℕ) (y : X) → j ≢ i → slice_get (set xs i y) j ≡ slice_get xs j
set_elsewhere [] i j y apart = refl
set_elsewhere (x ∷ xs) zero zero y apart = absurd (apart refl)
set_elsewhere (x ∷ xs) zero (suc j) y apart = refl
set_elsewhere (x ∷ xs) (suc i) zero y apart = refl
set_elsewhere (x ∷ xs) (suc i) (suc j) y apart = set_elsewhere xs i j y (λ e. apart (ap suc e))

repeated : {X : Type 0} (n i : ℕ) (x y : X) → slice_get (replicate n x) i ≡ Some y → x ≡ y
repeated zero i x y e = absurd (cc)
repeated (suc n) zero x y e = cc
repeated (suc n) (suc i) x y e = repeated n i x y e

repeated_there : {X : Type 0} (n i : ℕ) (x : X) → i < n → slice_get (replicate n x) i ≡ Some x
repeated_there zero i x lt = absurd (omega arith)
repeated_there (suc n) zero x lt = refl
repeated_there (suc n) (suc i) x lt = repeated_there n i x (omega arith)

-- ---- by numbers from 1

pub by_place : {X : Type 0} (xs : List X) (k : ℕ) → 1 ≤ k → numbered_from_one xs k ≡ slice_get xs (k - 1)
by_place xs k from = ap (λ b. cond b None (slice_get xs (k - 1))) (ne_eqb k 0 (λ e. omega arith))

pub from_1 : {X : Type 0} (xs : List X) (k : ℕ) (x : X) → numbered_from_one xs k ≡ Some x → 1 ≤ k
from_1 xs zero x e = absurd (cc)
from_1 xs (suc k) x e = omega arith

pub within : {X : Type 0} (xs : List X) (k : ℕ) (x : X) → numbered_from_one xs k ≡ Some x → k ≤ length xs
within xs k x e =
    let from : 1 ≤ k = from_1 xs k x e in
    let lt : k - 1 < length xs = slice_get_within xs (k - 1) x (sym (by_place xs k from) ∙ e) in
    omega arith

pub written : {X : Type 0} (xs : List X) (k : ℕ) (y : X) → 1 ≤ k → k ≤ length xs → numbered_from_one (set xs (k - 1) y) k ≡ Some y
written xs k y from to = by_place (set xs (k - 1) y) k from ∙ set_there xs (k - 1) y (omega arith)

pub unwritten : {X : Type 0} (xs : List X) (k j : ℕ) (y : X) → 1 ≤ k → j ≢ k → numbered_from_one (set xs (k - 1) y) j ≡ numbered_from_one xs j
unwritten xs k zero y from apart = refl
unwritten xs k (suc j) y from apart =
    by_place (set xs (k - 1) y) (suc j) (omega arith) ∙ set_elsewhere xs (k - 1) (suc j - 1) y (λ e. apart (omega arith)) ∙ sym (by_place xs (suc j) (omega arith))

pub of_all : {X : Type 0} (n k : ℕ) (x y : X) → numbered_from_one (replicate n x) k ≡ Some y → x ≡ y
of_all n k x y e = repeated n (k - 1) x y (sym (by_place (replicate n x) k (from_1 (replicate n x) k y e)) ∙ e)

pub of_all_there : {X : Type 0} (n k : ℕ) (x : X) → 1 ≤ k → k ≤ n → numbered_from_one (replicate n x) k ≡ Some x
of_all_there n k x from to = by_place (replicate n x) k from ∙ repeated_there n (k - 1) x (omega arith)
