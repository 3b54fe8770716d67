-- Searches and sets, one element further.
use Rattle.std.proofs.Common.{◌≡◌, ℕ, zero, suc, ◌+◌, ◌<◌, ◌≤◌, inl, inr, Bool, true, false, ◌&&◌, ◌||◌, ltb, eqb, List, [], ◌∷◌, take, get_or, replicate, Some, None, refl, sym, ap, ◌∙◌, add-one, arith}
use Rattle.std.specs.Prelude.{slice_get, find}
use Rattle.std.specs.List.{list_any, range_with_len}
use Rattle.std.proofs.lemmas.Bool.{lt-ltb, le-ltb, eq-eqb, ne_eqb, cases_order, cases_eq, cond-true, cond-false}
use Rattle.knx_model.specs.Acts.{object_numbers}

-- ---- a set of the numbers that pass and are below a bound

or_false : (b : Bool) → (b || false) ≡ b
or_false true = refl
or_false false = refl

or_assoc : (a b c : Bool) → ((a || b) || c) ≡ (a || (b || c))
or_assoc true b c = refl
or_assoc false b c = refl

pub shared : (a b c : Bool) → ((a && b) || (a && c)) ≡ (a && (b || c))
shared true b c = refl
shared false b c = refl

pub with_one : (p : ℕ → Bool) (i o : ℕ) → p i ≡ true → ((ltb o i && p o) || eqb o i) ≡ (ltb o (i + 1) && p o)
with_one p i o e = elim (cases_order o i) [
  | inl same ↦ rw (same, le-ltb i i (omega arith), eq-eqb i i refl, lt-ltb i (i + 1) (omega arith)) (sym e)
  | inr (inl below) ↦ rw (lt-ltb o i below, lt-ltb o (i + 1) (omega arith), ne_eqb o i (λ q. omega arith)) (or_false (p o))
  | inr (inr above) ↦ rw (le-ltb o i (omega arith), le-ltb o (i + 1) (omega arith), ne_eqb o i (λ q. omega arith)) refl
]

pub without_one : (p : ℕ → Bool) (i o : ℕ) → p i ≡ false → (ltb o i && p o) ≡ (ltb o (i + 1) && p o)
without_one p i o e = elim (cases_order o i) [
  | inl same ↦ rw (same, le-ltb i i (omega arith), lt-ltb i (i + 1) (omega arith)) (sym e)
  | inr (inl below) ↦ rw (lt-ltb o i below, lt-ltb o (i + 1) (omega arith)) refl
  | inr (inr above) ↦ rw (le-ltb o i (omega arith), le-ltb o (i + 1) (omega arith)) refl
]

-- ---- a list, one element further

pub any_more : {X : Type 0} (p : X → Bool) (xs : List X) (i : ℕ) (x : X) → slice_get xs i ≡ Some x → list_any p (take (i + 1) xs) ≡ (list_any p (take i xs) || p x)
any_more p [] i x e = absurd (cc)
any_more p (y ∷ ys) zero x e = let same : y ≡ x = cc in rw same (or_false (p x))
any_more p (y ∷ ys) (suc i) x e = rw add-one (ap (λ b. p y || b) (rw add-one at (any_more p ys i x e)) ∙ sym (or_assoc (p y) (list_any p (take i ys)) (p x)))

pub all_taken : {X : Type 0} (xs : List X) (i : ℕ) → slice_get xs i ≡ None → take i xs ≡ xs
all_taken [] zero e = refl
all_taken [] (suc i) e = refl
all_taken (y ∷ ys) zero e = absurd (cc)
all_taken (y ∷ ys) (suc i) e = ap (λ zs. y ∷ zs) (all_taken ys i e)

pub none_held : (n o : ℕ) → get_or (replicate n false) o false ≡ false
none_held zero o = refl
none_held (suc n) zero = refl
none_held (suc n) (suc o) = none_held n o

-- ---- the lowest number that passes

found_from : (p : ℕ → Bool) (a n i : ℕ) → a ≤ i → i < a + n → ((o : ℕ) → a ≤ o → o < i → p o ≡ false) → p i ≡ true → find p (range_with_len a n) ≡ Some i
found_from p a zero i le lt none e = absurd (omega arith)
found_from p a (suc n) i le lt none e = elim (cases_eq a i) [
  | inl same ↦ rw same (cond-true (p i) (Some i) (find p (range_with_len (i + 1) n)) e)
  | inr apart ↦ cond-false (p a) (Some a) (find p (range_with_len (a + 1) n)) (none a (omega arith) (omega arith)) ∙ found_from p (a + 1) n i (omega arith) (omega arith) (λ o from below. none o (omega arith) below) e
]

none_from : (p : ℕ → Bool) (a n : ℕ) → ((o : ℕ) → a ≤ o → o < a + n → p o ≡ false) → find p (range_with_len a n) ≡ None
none_from p a zero none = refl
none_from p a (suc n) none = cond-false (p a) (Some a) (find p (range_with_len (a + 1) n)) (none a (omega arith) (omega arith)) ∙ none_from p (a + 1) n (λ o from below. none o (omega arith) (omega arith))

pub lowest : (p : ℕ → Bool) (i : ℕ) → 1 ≤ i → i ≤ 255 → ((o : ℕ) → 1 ≤ o → o < i → p o ≡ false) → p i ≡ true → find p object_numbers ≡ Some i
unfolding object_numbers
lowest p i from to none e = found_from p 1 255 i from (omega arith) none e

pub no_lowest : (p : ℕ → Bool) → ((o : ℕ) → 1 ≤ o → o ≤ 255 → p o ≡ false) → find p object_numbers ≡ None
unfolding object_numbers
no_lowest p none = none_from p 1 255 (λ o from below. none o from (omega arith))
