-- Lists that are made for each number of a range: what holds of those of each number holds of all.
use Rattle.std.proofs.Common.{◌≡◌, ℕ, zero, suc, ◌+◌, ◌*◌, ◌<◌, ◌≤◌, Bool, true, cond, List, [], ◌∷◌, ◌++◌, length, map, All, Option, None, refl, ap, ◌∙◌, subst, inl, inr, arith, length-append}
use Rattle.std.specs.List.{range_with_len, flat_map, list_any, filter_map, count_by}
use Rattle.std.proofs.lemmas.Bool.{cases_eq, or_left, or_right}
use Rattle.std.proofs.lemmas.List.{append-nil}
use Rattle.std.proofs.lemmas.List.Concat.{flat_map-append, flat_map_single}
use Rattle.std.proofs.lemmas.List.Elements.{All-nil, All-cons, All-append, filter_map-append}
use Rattle.std.proofs.lemmas.List.Folds.{list_any-append}
use Rattle.std.proofs.lemmas.List.Sums.{sum_by-append}

-- ---- one number more

range_more : (a n : ℕ) → range_with_len a (n + 1) ≡ range_with_len a n ++ (a + n) ∷ []
range_more a zero = ap (λ (x : ℕ). x ∷ []) (let e : a ≡ a + 0 = omega arith in e)
range_more a (suc n) =
    ap (range_with_len a) (let e : suc n + 1 ≡ suc (n + 1) = omega arith in e)
    ∙ ap (λ (xs : List ℕ). a ∷ xs) (range_more (a + 1) n ∙ ap (λ (x : ℕ). range_with_len (a + 1) n ++ x ∷ []) (let e : a + 1 + n ≡ a + suc n = omega arith in e))

pub each_more : {X : Type 0} (f : ℕ → List X) (a n k : ℕ) → a + n ≡ k → flat_map f (range_with_len a (n + 1)) ≡ flat_map f (range_with_len a n) ++ f k
each_more f a n k e =
    ap (flat_map f) (range_more a n)
    ∙ (flat_map-append f (range_with_len a n) ((a + n) ∷ [])
    ∙ (ap (λ xs. flat_map f (range_with_len a n) ++ xs) (append-nil (f (a + n)))
    ∙ ap (λ (i : ℕ). flat_map f (range_with_len a n) ++ f i) e))

-- ---- what holds of each

-- a number of the range that begins one later
later : (a n k : ℕ) → a + 1 ≤ k → k < a + 1 + n → (a ≤ k) × (k < a + suc n)
later a n k low high = (omega arith, omega arith)

pub all_each : {X : Type 0} (P : X → Type 0) (f : ℕ → List X) (a n : ℕ) → ((k : ℕ) → a ≤ k → k < a + n → All P (f k)) → All P (flat_map f (range_with_len a n))
all_each P f a zero each = All-nil P
all_each P f a (suc n) each =
    All-append P (f a) (flat_map f (range_with_len (a + 1) n)) (each a (omega arith) (omega arith))
    (all_each P f (a + 1) n (λ k low high. let h = later a n k low high in each k h.0 h.1))

pub any_each : {X : Type 0} (test : X → Bool) (f : ℕ → List X) (a n k : ℕ) → a ≤ k → k < a + n → list_any test (f k) ≡ true → list_any test (flat_map f (range_with_len a n)) ≡ true
any_each test f a zero k low high here = absurd (omega arith)
any_each test f a (suc n) k low high here =
    list_any-append test (f a) (flat_map f (range_with_len (a + 1) n)) ∙ elim (cases_eq a k) [
      | inl same ↦ or_left _ _ (ap (λ (i : ℕ). list_any test (f i)) same ∙ here)
      | inr apart ↦ or_right _ _ (any_each test f (a + 1) n k (omega arith) (omega arith) here)
    ]

pub length_each : {X : Type 0} (f : ℕ → List X) (c a n : ℕ) → ((k : ℕ) → length (f k) ≡ c) → length (flat_map f (range_with_len a n)) ≡ n * c
length_each f c a zero each = omega arith
length_each f c a (suc n) each = omega (arith, length-append (f a) (flat_map f (range_with_len (a + 1) n)), each a, length_each f c (a + 1) n each)

pub count_each : {X : Type 0} (test : X → Bool) (f : ℕ → List X) (c a n : ℕ) → ((k : ℕ) → count_by test (f k) ≡ c) → count_by test (flat_map f (range_with_len a n)) ≡ n * c
count_each test f c a zero each = omega arith
count_each test f c a (suc n) each =
    omega (arith, sum_by-append (λ x. cond (test x) 1 0) (f a) (flat_map f (range_with_len (a + 1) n)), each a, count_each test f c (a + 1) n each)

-- what is picked of each
pub picked_each : {X Y : Type 0} (pick : X → Option Y) (f : ℕ → List X) (g : ℕ → List Y) (a n : ℕ) → ((k : ℕ) → filter_map pick (f k) ≡ g k) → filter_map pick (flat_map f (range_with_len a n)) ≡ flat_map g (range_with_len a n)
picked_each pick f g a zero each = refl
picked_each pick f g a (suc n) each =
    filter_map-append pick (f a) (flat_map f (range_with_len (a + 1) n))
    ∙ (ap (λ ys. ys ++ filter_map pick (flat_map f (range_with_len (a + 1) n))) (each a) ∙ ap (λ ys. g a ++ ys) (picked_each pick f g (a + 1) n each))

-- ---- the same where there is one for each number

pub all_map : {X : Type 0} (P : X → Type 0) (f : ℕ → X) (a n : ℕ) → ((k : ℕ) → a ≤ k → k < a + n → P (f k)) → All P (map f (range_with_len a n))
all_map P f a n each =
    subst (All P) (flat_map_single f (range_with_len a n)) (all_each P (λ k. f k ∷ []) a n (λ k low high. All-cons P (f k) [] (each k low high) (All-nil P)))

pub any_map : {X : Type 0} (test : X → Bool) (f : ℕ → X) (a n k : ℕ) → a ≤ k → k < a + n → test (f k) ≡ true → list_any test (map f (range_with_len a n)) ≡ true
any_map test f a n k low high here =
    subst (λ xs. list_any test xs ≡ true) (flat_map_single f (range_with_len a n)) (any_each test (λ k. f k ∷ []) a n k low high (or_left _ _ here))

pub count_map : {X : Type 0} (test : X → Bool) (f : ℕ → X) (c a n : ℕ) → ((k : ℕ) → cond (test (f k)) 1 0 ≡ c) → count_by test (map f (range_with_len a n)) ≡ n * c
count_map test f c a n each =
    subst (λ xs. count_by test xs ≡ n * c) (flat_map_single f (range_with_len a n)) (count_each test (λ k. f k ∷ []) c a n (λ k. let e : cond (test (f k)) 1 0 ≡ c = each k in omega arith))

pub picked_none : {X Y : Type 0} (pick : X → Option Y) (f : ℕ → X) (xs : List ℕ) → ((k : ℕ) → pick (f k) ≡ None) → filter_map pick (map f xs) ≡ []
picked_none pick f [] none = refl
picked_none pick f (x ∷ xs) none = rw (none x) (picked_none pick f xs none)
