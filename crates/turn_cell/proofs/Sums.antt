-- Beginnings of lists, sums over views, and places.
use Rattle.std.proofs.Common.{◌≡◌, ◌≢◌, ℕ, zero, suc, ◌+◌, ◌-◌, ◌<◌, ◌≤◌, ◌==◌, cond, ◌⊎◌, inl, inr, ⊎_elim, List, [], ◌∷◌, ◌++◌, length, set, get_or, refl, ap, sym, ◌∙◌, arith, append_assoc, length-append}
use Rattle.std.specs.List.{range_with_len, sum_by, count_by}
use Rattle.std.specs.List.Sorted.{IsStrictlyIncreasing}
use Rattle.std.proofs.lemmas.List.{append-nil, get_or-append_right, get_or_append_left}
use Rattle.std.proofs.lemmas.List.FromFn.{length-range_with_len, get_or-range_with_len}
use Rattle.std.proofs.lemmas.List.Sums.{sum_by-append, sum_by-cons}
use Rattle.std.proofs.lemmas.Bool.Decides.{nat_tests}
use mathlib.Core.Option.{some, some-injective, some-ne-none}
use mathlib.Core.List.{IsPrefix}
use lib.ListN.{get_elem?}
use Rattle.turn_cell.specs.Kept.{once}

module _ {A : Type 0} where
  pub prefix_self : (xs : List A) → IsPrefix xs xs
  prefix_self xs = ([], append-nil xs)

  pub prefix_trans : (xs ys zs : List A) → IsPrefix xs ys → IsPrefix ys zs → IsPrefix xs zs
  prefix_trans xs ys zs p q = (p.0 ++ q.0, sym (append_assoc xs p.0 q.0) ∙ ap (λ l. l ++ q.0) p.1 ∙ q.1)

  pub prefix_length : (xs ys : List A) → IsPrefix xs ys → length xs ≤ length ys
  prefix_length xs ys p = omega (arith, length-append xs p.0, ap length p.1)

  pub sum_set : (f : A → ℕ) (xs : List A) (k : ℕ) (v w : A) → get_elem? xs k ≡ some v → sum_by f (set xs k w) + f v ≡ sum_by f xs + f w
  sum_set f [] k v w e = absurd (some-ne-none v (sym e))
  sum_set f (x ∷ xs) zero v w e = let h : f x ≡ f v = ap f (some-injective x v e) in omega (arith, sum_by-cons f w xs, sum_by-cons f x xs)
  sum_set f (x ∷ xs) (suc k) v w e = let h = sum_set f xs k v w e in omega (arith, sum_by-cons f x xs, sum_by-cons f x (set xs k w))

  pub sum_snoc : (f : A → ℕ) (xs : List A) (y : A) → sum_by f (xs ++ y ∷ []) ≡ sum_by f xs + f y
  sum_snoc f xs y = omega (arith, sum_by-append f xs (y ∷ []), sum_by-cons f y [])

  pub one_le_sum : (f : A → ℕ) (xs : List A) (k : ℕ) (v : A) → get_elem? xs k ≡ some v → f v ≤ sum_by f xs
  one_le_sum f [] k v e = absurd (some-ne-none v (sym e))
  one_le_sum f (x ∷ xs) zero v e = let h : f x ≡ f v = ap f (some-injective x v e) in omega (arith, sum_by-cons f x xs)
  one_le_sum f (x ∷ xs) (suc k) v e = let h = one_le_sum f xs k v e in omega (arith, sum_by-cons f x xs)

  pub two_le_sum : (f : A → ℕ) (xs : List A) (j k : ℕ) (u v : A) → j ≢ k → get_elem? xs j ≡ some u → get_elem? xs k ≡ some v → f u + f v ≤ sum_by f xs
  two_le_sum f [] j k u v n d e = absurd (some-ne-none v (sym e))
  two_le_sum f (x ∷ xs) zero zero u v n d e = absurd (n refl)
  two_le_sum f (x ∷ xs) zero (suc k) u v n d e = let h : f x ≡ f u = ap f (some-injective x u d) in let m = one_le_sum f xs k v e in omega (arith, sum_by-cons f x xs)
  two_le_sum f (x ∷ xs) (suc j) zero u v n d e = let h : f x ≡ f v = ap f (some-injective x v e) in let m = one_le_sum f xs j u d in omega (arith, sum_by-cons f x xs)
  two_le_sum f (x ∷ xs) (suc j) (suc k) u v n d e = let h = two_le_sum f xs j k u v (λ s. n (ap suc s)) d e in omega (arith, sum_by-cons f x xs)

  none_sum : (f : A → ℕ) (xs : List A) → ((j : ℕ) (u : A) → get_elem? xs j ≡ some u → f u ≡ 0) → sum_by f xs ≡ 0
  none_sum f [] h = refl
  none_sum f (x ∷ xs) h = let a = h 0 x refl in let b = none_sum f xs (λ j u e. h (suc j) u e) in omega (arith, sum_by-cons f x xs)

  -- where the others weigh nothing, the sum is the one's
  pub sum_alone : (f : A → ℕ) (xs : List A) (k : ℕ) (v : A) → get_elem? xs k ≡ some v → ((j : ℕ) (u : A) → j ≢ k → get_elem? xs j ≡ some u → f u ≡ 0) → sum_by f xs ≡ f v
  sum_alone f [] k v e h = absurd (some-ne-none v (sym e))
  sum_alone f (x ∷ xs) zero v e h = let a : f x ≡ f v = ap f (some-injective x v e) in let b = none_sum f xs (λ j u d. h (suc j) u (λ s. omega arith) d) in omega (arith, sum_by-cons f x xs)
  sum_alone f (x ∷ xs) (suc k) v e h = let a = h 0 x (λ s. omega arith) refl in let b = sum_alone f xs k v e (λ j u n d. h (suc j) u (λ s. n (omega arith)) d) in omega (arith, sum_by-cons f x xs)

lt_or_le : (a b : ℕ) → (a < b) ⊎ (b ≤ a)
lt_or_le zero zero = inr (omega arith)
lt_or_le zero (suc b) = inl (omega arith)
lt_or_le (suc a) zero = inr (omega arith)
lt_or_le (suc a) (suc b) = ⊎_elim (λ (h : a < b). inl (omega arith)) (λ (h : b ≤ a). inr (omega arith)) (lt_or_le a b)

-- how often a place stands in a list
abbrev pub times : ℕ → List ℕ → ℕ
times p xs = count_by (λ x. x == p) xs

pub times-append : (p : ℕ) (xs ys : List ℕ) → times p (xs ++ ys) ≡ times p xs + times p ys
times-append p xs ys = sum_by-append (λ x. cond (x == p) 1 0) xs ys

once_none : (a p : ℕ) → once a a p ≡ 0
once_none a p = grind (arith, nat_tests)

once_step : (a n p : ℕ) → cond (a == p) 1 0 + once (a + 1) (a + 1 + n) p ≡ once a (a + suc n) p
once_step a n p = grind (arith, nat_tests)

pub times_range : (p a n : ℕ) → times p (range_with_len a n) ≡ once a (a + n) p
times_range p a zero = let e : a + 0 ≡ a = omega arith in rw e (sym (once_none a p))
times_range p a (suc n) = let h = times_range p (a + 1) n in let s = once_step a n p in omega (arith, sum_by-cons (λ x. cond (x == p) 1 0) a (range_with_len (a + 1) n))

pub once_more : (a b c p : ℕ) → a ≤ b → b ≤ c → once a b p + once b c p ≡ once a c p
once_more a b c p h k = grind (arith, nat_tests)

pub once_within : (a b p : ℕ) → a ≤ p → p < b → once a b p ≡ 1
once_within a b p h k = grind (arith, nat_tests)

pub once_before : (a b p : ℕ) → p < a → once a b p ≡ 0
once_before a b p h = grind (arith, nat_tests)

pub once_behind : (a b p : ℕ) → b ≤ p → once a b p ≡ 0
once_behind a b p h = grind (arith, nat_tests)

-- the place k of numbers and of n more from a on is one of the first or of the others
at_left : (xs : List ℕ) (a n k : ℕ) → k < length xs → get_or (xs ++ range_with_len a n) k 0 ≡ get_or xs k 0
at_left xs a n k h = get_or_append_left xs (range_with_len a n) 0 k h

at_right : (xs : List ℕ) (a n k : ℕ) → length xs ≤ k → k < length (xs ++ range_with_len a n) → get_or (xs ++ range_with_len a n) k 0 ≡ a + (k - length xs)
at_right xs a n k h short = get_or-append_right xs (range_with_len a n) (length xs) k 0 refl h
    ∙ get_or-range_with_len a n (k - length xs) 0 (omega (arith, length-append xs (range_with_len a n), length-range_with_len a n))

module _ (xs : List ℕ) (a n : ℕ) (below : (k : ℕ) → k < length xs → get_or xs k 0 < a) where
  abbrev longer : List ℕ
  longer = xs ++ range_with_len a n

  -- numbers that rise below a, and then n numbers from a on, rise
  pub rise_on : IsStrictlyIncreasing xs → IsStrictlyIncreasing longer
  rise_on rise k short = ⊎_elim
      (λ (h : k + 1 < length xs). let i = at_left xs a n k (omega arith) in let j = at_left xs a n (k + 1) h in let r = rise k h in omega arith)
      (λ (h : length xs ≤ k + 1). let j = at_right xs a n (k + 1) h short in ⊎_elim
      (λ (h' : k < length xs). let i = at_left xs a n k h' in let b = below k h' in omega arith)
      (λ (h' : length xs ≤ k). let i = at_right xs a n k h' (omega arith) in omega arith)
      (lt_or_le k (length xs)))
      (lt_or_le (k + 1) (length xs))

  -- and all are below a + n
  pub below_on : (k : ℕ) → k < length longer → get_or longer k 0 < a + n
  below_on k short = ⊎_elim
      (λ (h : k < length xs). let i = at_left xs a n k h in let b = below k h in omega arith)
      (λ (h : length xs ≤ k). let i = at_right xs a n k h short in omega (arith, length-append xs (range_with_len a n), length-range_with_len a n))
      (lt_or_le k (length xs))
