-- Where each pair has its text, the texts are those of the pairs.
use Rattle.std.proofs.Common.{◌≡◌, List, [], ◌∷◌, map, Result, Ok, refl, subst}
use Rattle.std.specs.Prelude.{IfOk}
use Rattle.std.specs.List.{AllZip}

each_ok : {X Y : Type 0} (E : Type 0) (f : X → Y) (xs : List X) (ys : List Y) → AllZip (λ x (answer : Result Y E). IfOk answer (λ y. y ≡ f x)) xs (map Ok ys) → ys ≡ map f xs
each_ok E f [] [] all = refl
each_ok E f [] (y ∷ ys) all = absurd all
each_ok E f (x ∷ xs) [] all = absurd all
each_ok E f (x ∷ xs) (y ∷ ys) all = rw (all.0, each_ok E f xs ys all.1) refl

pub all_ok : {X Y E : Type 0} (f : X → Y) (xs : List X) (answers : List (Result Y E)) (ys : List Y) → answers ≡ map Ok ys → AllZip (λ x (answer : Result Y E). IfOk answer (λ y. y ≡ f x)) xs answers → ys ≡ map f xs
all_ok {X = X} {Y = Y} {E = E} f xs answers ys are all = each_ok E f xs ys (subst (λ (rs : List (Result Y E)). AllZip (λ (x : X) (answer : Result Y E). IfOk answer (λ y. y ≡ f x)) xs rs) are all)
