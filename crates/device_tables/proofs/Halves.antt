-- A search by halves over pairs in their order.
use Rattle.std.proofs.Common.{◌≡◌, ℕ, ◌+◌, ◌*◌, ◌^◌, ◌<◌, ◌≤◌, inl, inr, List, length, get_or, ap, ◌∙◌, arith}
use Rattle.std.specs.List.{AllPairs}
use Rattle.std.proofs.lemmas.Bool.{cases_order}
use Rattle.std.proofs.lemmas.List.{get_or_default}
use Rattle.std.proofs.lemmas.Nat.{pow-add}
use Rattle.std.proofs.Math.Nat.{mul_assoc, mul-le-mul_left}
use Rattle.device_tables.specs.Index.{StandsBefore}

up : (a b : ℕ × ℕ) → StandsBefore a b → a.0 ≤ b.0
up a b (inl below) = omega arith
up a b (inr (same, object)) = omega arith

-- the groups don't fall
pub groups_rise : (ps : List (ℕ × ℕ)) → AllPairs StandsBefore ps → (i j : ℕ) (d : ℕ × ℕ) → i ≤ j → j < length ps → (get_or ps i d).0 ≤ (get_or ps j d).0
groups_rise ps ascending i j d le lt = elim (cases_order i j) as (λ _. (get_or ps i d).0 ≤ (get_or ps j d).0) [
  | inl same ↦ omega (arith, ap (λ k. (get_or ps k d).0) same)
  | inr (inl below) ↦ up (get_or ps i d) (get_or ps j d) (ascending i j d below lt)
  | inr (inr above) ↦ absurd (omega arith)
]

-- each pair up to one whose group is below a group is so too
pub below_to : (ps : List (ℕ × ℕ)) (at g : ℕ) (x : ℕ × ℕ) → AllPairs StandsBefore ps → at < length ps → x ≡ get_or ps at x → x.0 < g → (k : ℕ) (d : ℕ × ℕ) → k ≤ at → (get_or ps k d).0 < g
below_to ps at g x ascending lt here below k d le =
    omega (arith, groups_rise ps ascending k at d le lt, ap (λ (p : ℕ × ℕ). p.0) here, ap (λ (p : ℕ × ℕ). p.0) (get_or_default ps at x d lt))

-- and each pair from one on whose group isn't below it isn't
pub not_below_from : (ps : List (ℕ × ℕ)) (at g : ℕ) (x : ℕ × ℕ) → AllPairs StandsBefore ps → x ≡ get_or ps at x → g ≤ x.0 → (k : ℕ) (d : ℕ × ℕ) → at ≤ k → k < length ps → g ≤ (get_or ps k d).0
not_below_from ps at g x ascending here above k d le lt =
    let within : at < length ps = omega arith in
    omega (arith, groups_rise ps ascending at k d le lt, ap (λ (p : ℕ × ℕ). p.0) here, ap (λ (p : ℕ × ℕ). p.0) (get_or_default ps at x d within))

-- ---- the steps: what is left after k halvings of n pairs

twice_pow : (k t : ℕ) → 2 ^ (k + 1) * t ≡ 2 ^ k * (2 * t)
twice_pow k t = ap (λ n. n * t) (pow-add 2 k 1) ∙ mul_assoc (2 ^ k) 2 t

pub narrows : (k s t n : ℕ) → 2 * t ≤ s → 2 ^ k * s ≤ n → 2 ^ (k + 1) * t ≤ n
narrows k s t n half left = omega (arith, twice_pow k t, mul-le-mul_left (2 ^ k) half)

pub few : (k s n : ℕ) → 1 ≤ s → 2 ^ k * s ≤ n → 2 ^ (k + 1) ≤ 2 * n + 1
few k s n some left = omega (arith, pow-add 2 k 1, mul-le-mul_left (2 ^ k) some)
