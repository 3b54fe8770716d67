-- Lists of which the items at each place are related.
use Rattle.std.proofs.Common.{ℕ, ◌≡◌, ◌+◌, ◌<◌, List, [], ◌∷◌, ◌++◌, length, take, get_or, subst, sym}
use Rattle.std.specs.List.{AllZip}
use Rattle.std.proofs.lemmas.List.{take_more}

pub AllZip_push : {X Y : Type 0} (R : X → Y → Type 0) (xs : List X) (ys : List Y) (x : X) (y : Y) → AllZip R xs ys → R x y → AllZip R (xs ++ x ∷ []) (ys ++ y ∷ [])
AllZip_push R [] [] x y all r = (r, tt)
AllZip_push R [] (y' ∷ ys) x y all r = absurd all
AllZip_push R (x' ∷ xs) [] x y all r = absurd all
AllZip_push R (x' ∷ xs) (y' ∷ ys) x y all r = (all.0, AllZip_push R xs ys x y all.1 r)

-- one item more, of the first so many of a list
pub AllZip_more : {X Y : Type 0} (R : X → Y → Type 0) (old new : List X) (ys : List Y) (k : ℕ) (x : X) (d : Y) → k < length ys → new ≡ old ++ x ∷ [] → AllZip R old (take k ys) → R x (get_or ys k d) → AllZip R new (take (k + 1) ys)
AllZip_more R old new ys k x d lt pushed all r =
    subst (λ (xs : List _). AllZip R xs (take (k + 1) ys)) (sym pushed)
    (subst (λ (l : List _). AllZip R (old ++ x ∷ []) l) (sym (take_more ys k d lt)) (AllZip_push R old (take k ys) x (get_or ys k d) all r))
