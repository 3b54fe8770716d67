-- A list in which something stands twice.
use Rattle.std.proofs.Common.{◌≡◌, ℕ, ◌+◌, ◌<◌, Bool, true, false, cond, ◌||◌, List, [], ◌∷◌, ◌++◌, length, get_or, take, drop, map, refl, ap, sym, ◌∙◌, arith}
use Rattle.std.specs.List.{list_any}
use Rattle.std.proofs.lemmas.List.{map_more, take-append-drop, map-append}
use Rattle.std.proofs.lemmas.List.Folds.{list_any-append}
use Rattle.catalogue.specs.Shapes.{repeats}

-- one more at the end repeats where it equals one before
pub repeats-push : {X : Type 0} (eq : X → X → Bool) (flips : (x y : X) → eq x y ≡ eq y x) (xs : List X) (y : X) → repeats eq (xs ++ y ∷ []) ≡ (repeats eq xs || list_any (eq y) xs)
unfolding repeats
repeats-push eq flips [] y = refl
repeats-push eq flips (x ∷ xs) y = grind (arith, list_any-append (eq x) xs (y ∷ []), repeats-push eq flips xs y, flips x y)

pub repeats-append : {X : Type 0} (eq : X → X → Bool) (xs ys : List X) → repeats eq xs ≡ true → repeats eq (xs ++ ys) ≡ true
unfolding repeats
repeats-append eq [] ys h = grind (arith, h)
repeats-append eq (x ∷ xs) ys h = grind (arith, h, list_any-append (eq x) xs ys, repeats-append eq xs ys)

-- where the next one equals one before, the list repeats
pub repeats_at : {X Y : Type 0} (eq : Y → Y → Bool) (flips : (x y : Y) → eq x y ≡ eq y x) (f : X → Y) (xs : List X) (i : ℕ) (d : X) → i < length xs → list_any (eq (f (get_or xs i d))) (map f (take i xs)) ≡ true → repeats eq (map f xs) ≡ true
repeats_at eq flips f xs i d lt h =
    let here : repeats eq (map f (take (i + 1) xs)) ≡ true = rw (map_more f xs i d lt, repeats-push eq flips (map f (take i xs)) (f (get_or xs i d)), h) (grind arith) in
    let parts : map f xs ≡ map f (take (i + 1) xs) ++ map f (drop (i + 1) xs) = ap (map f) (sym (take-append-drop (i + 1) xs)) ∙ map-append f (take (i + 1) xs) (drop (i + 1) xs) in
    rw parts (repeats-append eq (map f (take (i + 1) xs)) (map f (drop (i + 1) xs)) here)

-- where it doesn't, the list so far doesn't repeat
pub repeats_on : {X Y : Type 0} (eq : Y → Y → Bool) (flips : (x y : Y) → eq x y ≡ eq y x) (f : X → Y) (xs : List X) (i : ℕ) (d : X) → i < length xs → repeats eq (map f (take i xs)) ≡ false → list_any (eq (f (get_or xs i d))) (map f (take i xs)) ≡ false → repeats eq (map f (take (i + 1) xs)) ≡ false
repeats_on eq flips f xs i d lt before h = rw (map_more f xs i d lt, repeats-push eq flips (map f (take i xs)) (f (get_or xs i d)), before, h) refl

-- what is among the list so far, with the next one
pub any_on : {X Y : Type 0} (eq : Y → Y → Bool) (f : X → Y) (xs : List X) (i : ℕ) (d : X) (q : Y) → i < length xs → list_any (eq q) (map f (take (i + 1) xs)) ≡ (list_any (eq q) (map f (take i xs)) || eq q (f (get_or xs i d)))
any_on eq f xs i d q lt = rw (map_more f xs i d lt, list_any-append (eq q) (map f (take i xs)) (f (get_or xs i d) ∷ [])) (grind arith)

-- a set after one more
pub added_or : (a b c d : Bool) → a ≡ b → c ≡ d → cond a true c ≡ (d || b)
added_or true true c true e f = refl
added_or true true c false e f = refl
added_or false false true true e f = refl
added_or false false false false e f = refl
added_or true false c d e f = cc
added_or false true c d e f = cc
added_or false false true false e f = cc
added_or false false false true e f = cc
