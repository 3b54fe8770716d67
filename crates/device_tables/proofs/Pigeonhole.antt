-- A list in a strict order, all of whose elements another list has, is no longer than that list.
use Rattle.std.proofs.Common.{◌≡◌, ℕ, zero, suc, ◌<◌, ◌≤◌, ◌⊎◌, inl, inr, List, [], ◌∷◌, length, get_or, refl, sym, ◌∙◌, subst, arith}
use Rattle.std.specs.Prelude.{Contains}
use Rattle.std.specs.List.{AllByRecursion, AllPairs}

module _ {X : Type 0} (Less : X → X → Type 0) (never : (x : X) → Less x x → ⊥) where
  abbrev In : X → List X → Type 0
  In x [] = ⊥
  In x (y ∷ ys) = (x ≡ y) ⊎ In x ys

  -- each is less than all later ones
  abbrev Rises : List X → Type 0
  Rises [] = Unit {0}
  Rises (x ∷ xs) = AllByRecursion (λ y. Less x y) xs × Rises xs

  above : (x : X) (xs : List X) (y : X) → AllByRecursion (λ z. Less x z) xs → In y xs → Less x y
  above x [] y all is = absurd is
  above x (z ∷ zs) y all (inl same) = subst (λ (w : X). Less x w) (sym same) all.0
  above x (z ∷ zs) y all (inr more) = above x zs y all.1 more

  -- the list without an element of it
  abbrev without : (x : X) (ys : List X) → In x ys → List X
  without x [] is = []
  without x (y ∷ ys) (inl same) = ys
  without x (y ∷ ys) (inr more) = y ∷ without x ys more

  one_less : (x : X) (ys : List X) (is : In x ys) → length ys ≡ suc (length (without x ys is))
  one_less x [] is = absurd is
  one_less x (y ∷ ys) (inl same) = omega arith
  one_less x (y ∷ ys) (inr more) = omega (arith, one_less x ys more)

  still_in : (x z : X) (ys : List X) (is : In x ys) → In z ys → Less x z → In z (without x ys is)
  still_in x z [] is other lt = absurd is
  still_in x z (y ∷ ys) (inl same) (inl also) lt = absurd (never x (subst (λ (w : X). Less x w) (also ∙ sym same) lt))
  still_in x z (y ∷ ys) (inl same) (inr more) lt = more
  still_in x z (y ∷ ys) (inr later) (inl also) lt = inl also
  still_in x z (y ∷ ys) (inr later) (inr more) lt = inr (still_in x z ys later more lt)

  no_more : (xs ys : List X) → Rises xs → ((z : X) → In z xs → In z ys) → length xs ≤ length ys
  no_more [] ys up to = omega arith
  no_more (x ∷ xs) ys up to =
      let is : In x ys = to x (inl refl) in
      let rest : length xs ≤ length (without x ys is) = no_more xs (without x ys is) up.1 (λ z other. still_in x z ys is (to z (inr other)) (above x xs z up.0 other)) in
      omega (arith, one_less x ys is, rest)

  in_at : (xs : List X) (x : X) (k : ℕ) → k < length xs → get_or xs k x ≡ x → In x xs
  in_at [] x k lt e = absurd (omega arith)
  in_at (y ∷ ys) x zero lt e = inl (sym e)
  in_at (y ∷ ys) x (suc k) lt e = inr (in_at ys x k (omega arith) e)

  contains : (xs : List X) (x : X) → In x xs → Contains xs x
  contains [] x is = absurd is
  contains (y ∷ ys) x (inl e) = (0, omega arith, sym e)
  contains (y ∷ ys) x (inr more) = let h = contains ys x more in (suc h.0, omega (arith, h.1), h.2)

  each_above : (x : X) (xs : List X) → ((j : ℕ) (d : X) → j < length xs → Less x (get_or xs j d)) → AllByRecursion (λ y. Less x y) xs
  each_above x [] h = tt
  each_above x (y ∷ ys) h = (h 0 y (omega arith), each_above x ys (λ j d lt. h (suc j) d (omega arith)))

  rises : (xs : List X) → AllPairs Less xs → Rises xs
  rises [] h = tt
  rises (x ∷ xs) h = (each_above x xs (λ j d lt. h 0 (suc j) d (omega arith) (omega arith)), rises xs (λ i j d below lt. h (suc i) (suc j) d (omega arith) (omega arith)))

  pub at_most : (xs ys : List X) → AllPairs Less xs → ((z : X) → Contains xs z → Contains ys z) → length xs ≤ length ys
  at_most xs ys up to = no_more xs ys (rises xs up) (λ z is. let h = to z (contains xs z is) in in_at ys z h.0 h.1 h.2)
