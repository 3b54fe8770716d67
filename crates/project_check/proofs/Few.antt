-- Lines whose keys lie below a number, of which few have the same key, are few.
use Rattle.std.proofs.Common.{◌≡◌, ℕ, zero, suc, ◌+◌, ◌*◌, ◌≤◌, Bool, true, false, cond, eqb, ltb, List, [], ◌∷◌, Option, Some, None, refl, ap, inl, inr, arith}
use Rattle.std.specs.Prelude.{sum_by}
use Rattle.std.specs.List.{list_all}
use Rattle.std.proofs.lemmas.Bool.{and_parts, cases_lt, cases_eq, lt-ltb, le-ltb, eq-eqb, ne_eqb}
use Rattle.std.proofs.lemmas.Bool.Decides.{nat_tests}
use Rattle.std.proofs.lemmas.List.Sums.{sum_by-cons}
use Rattle.knx_model.specs.declared.project.Statement.{Statement}
use Rattle.knx_model.specs.declared.project.What.{What}
use Rattle.knx_model.specs.Rules.{count_lines}

-- a line counts one where it passes
abbrev pub one : Bool → ℕ
one b = cond b 1 0

-- one line more in front
pub count_cons : (p : What → Bool) (s : Statement) (ss : List Statement) → count_lines p (s ∷ ss) ≡ cond (p s.what) 1 0 + count_lines p ss
count_cons p s ss = sum_by-cons (λ (t : Statement). cond (p t.what) 1 0) s ss

-- a count of lines that pass one of two tests
pub count_split : (p q r : What → Bool) → ((w : What) → cond (p w) 1 0 ≡ cond (q w) 1 0 + cond (r w) 1 0) → (ss : List Statement) → count_lines p ss ≡ count_lines q ss + count_lines r ss
count_split p q r split [] = refl
count_split p q r split (s ∷ ss) = omega (arith, count_cons p s ss, count_cons q s ss, count_cons r s ss, split s.what, count_split p q r split ss)

-- two tests that agree on the lines of a text count the same
pub count_same : (on p q : What → Bool) → ((w : What) → on w ≡ true → p w ≡ q w) → (ss : List Statement) → list_all (λ s. on s.what) ss ≡ true → count_lines p ss ≡ count_lines q ss
count_same on p q same [] all = refl
count_same on p q same (s ∷ ss) all =
    let parts = and_parts (on s.what) (list_all (λ t. on t.what) ss) all in
    omega (arith, count_cons p s ss, count_cons q s ss, ap one (same s.what parts.0), count_same on p q same ss parts.1)

pub count_none : (p : What → Bool) → ((w : What) → p w ≡ false) → (ss : List Statement) → count_lines p ss ≡ 0
count_none p none [] = refl
count_none p none (s ∷ ss) = omega (arith, count_cons p s ss, ap one (none s.what), count_none p none ss)

abbrev pub is_key : Option ℕ → ℕ → Bool
is_key None k = false
is_key (Some n) k = eqb n k

abbrev pub is_below : Option ℕ → ℕ → Bool
is_below None k = false
is_below (Some n) k = ltb n k

none_below : (o : Option ℕ) → is_below o 0 ≡ false
none_below None = refl
none_below (Some n) = grind (arith, nat_tests)

below_more : (o : Option ℕ) (k : ℕ) → cond (is_below o (suc k)) 1 0 ≡ cond (is_below o k) 1 0 + cond (is_key o k) 1 0
below_more None k = refl
below_more (Some n) k = grind (arith, nat_tests)

pub few_below : (key : What → Option ℕ) (m : ℕ) (ss : List Statement) → ((k : ℕ) → count_lines (λ w. is_key (key w) k) ss ≤ m) → (top : ℕ) → count_lines (λ w. is_below (key w) top) ss ≤ m * top
few_below key m ss few zero = omega (arith, count_none (λ w. is_below (key w) 0) (λ w. none_below (key w)) ss)
few_below key m ss few (suc k) =
    omega (arith, count_split (λ w. is_below (key w) (suc k)) (λ w. is_below (key w) k) (λ w. is_key (key w) k) (λ w. below_more (key w) k) ss, few_below key m ss few k, few k)

-- ---- the same of lines that weigh more than one

-- what the lines weigh that pass a test
abbrev pub weigh : (What → Bool) → (What → ℕ) → List Statement → ℕ
weigh p weight ss = sum_by (λ s. cond (p s.what) (weight s.what) 0) ss

weigh_cons : (p : What → Bool) (weight : What → ℕ) (s : Statement) (ss : List Statement) → weigh p weight (s ∷ ss) ≡ cond (p s.what) (weight s.what) 0 + weigh p weight ss
weigh_cons p weight s ss = sum_by-cons (λ (t : Statement). cond (p t.what) (weight t.what) 0) s ss

weigh_none : (key : What → Option ℕ) (weight : What → ℕ) (ss : List Statement) → weigh (λ w. is_below (key w) 0) weight ss ≡ 0
weigh_none key weight [] = refl
weigh_none key weight (s ∷ ss) = omega (arith, weigh_cons (λ w. is_below (key w) 0) weight s ss, ap (λ (b : Bool). cond b (weight s.what) 0) (none_below (key s.what)), weigh_none key weight ss)

weight_more : (o : Option ℕ) (k n : ℕ) → cond (is_below o (suc k)) n 0 ≡ cond (is_below o k) n 0 + cond (is_key o k) n 0
weight_more None k n = refl
weight_more (Some m) k n = elim (cases_lt m k) [
  | inl lt ↦ rw (lt-ltb m (suc k) (omega (arith, lt)), lt-ltb m k lt, ne_eqb m k (λ q. omega (arith, lt, q))) (omega arith)
  | inr ge ↦ elim (cases_eq m k) [
    | inl same ↦ rw (lt-ltb m (suc k) (omega (arith, same)), le-ltb m k ge, eq-eqb m k same) (omega arith)
    | inr other ↦ rw (le-ltb m (suc k) (grind (arith, ge, other)), le-ltb m k ge, ne_eqb m k other) refl
  ]
]

weigh_split : (key : What → Option ℕ) (weight : What → ℕ) (k : ℕ) (ss : List Statement) → weigh (λ w. is_below (key w) (suc k)) weight ss ≡ weigh (λ w. is_below (key w) k) weight ss + weigh (λ w. is_key (key w) k) weight ss
weigh_split key weight k [] = refl
weigh_split key weight k (s ∷ ss) =
    omega (arith, weigh_cons (λ w. is_below (key w) (suc k)) weight s ss, weigh_cons (λ w. is_below (key w) k) weight s ss, weigh_cons (λ w. is_key (key w) k) weight s ss, weight_more (key s.what) k (weight s.what), weigh_split key weight k ss)

pub weigh_below : (key : What → Option ℕ) (weight : What → ℕ) (m : ℕ) (ss : List Statement) → ((k : ℕ) → weigh (λ w. is_key (key w) k) weight ss ≤ m) → (top : ℕ) → weigh (λ w. is_below (key w) top) weight ss ≤ m * top
weigh_below key weight m ss few zero = omega (arith, weigh_none key weight ss)
weigh_below key weight m ss few (suc k) = omega (arith, weigh_split key weight k ss, weigh_below key weight m ss few k, few k)
