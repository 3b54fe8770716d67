-- What a torn allocation leaves of a memory.
use Rattle.std.proofs.Common.{ℕ, ◌≡◌, ◌-◌, ◌≤◌, min, List, ◌++◌, length, take, drop, replicate, ◌∙◌, ap, arith, inl, inr}
use Rattle.std.proofs.lemmas.List.{take_all, take-replicate, length-replicate, drop-replicate}
use Rattle.std.proofs.lemmas.Bool.{cases_lt}
use Rattle.std.proofs.lemmas.Grind.{common_steps}
use Rattle.knx_model.specs.Loading.{overlaid}

take_filled : (k n fill : ℕ) → take k (replicate n fill) ≡ replicate (min k n) fill
take_filled k n fill = elim (cases_lt k n) as (λ _. take k (replicate n fill) ≡ replicate (min k n) fill) [
  | inl h ↦ let le : k ≤ n = omega arith in let e : min k n ≡ k = omega arith in rw e (take-replicate k n fill le)
  | inr h ↦ let le : length (replicate n fill) ≤ k = rw (length-replicate n fill) h in let e : min k n ≡ n = omega arith in rw e (take_all k (replicate n fill) le)
]

overlaid_front : (memory octets : List ℕ) → length octets ≤ length memory → overlaid memory 0 octets ≡ octets ++ drop (length octets) memory
overlaid_front memory octets h = grind (arith, common_steps)

-- of the fill of n octets the first k are written
pub overlaid_filled : (memory : List ℕ) (k n fill : ℕ) → n ≤ length memory → overlaid memory 0 (take n (take k (replicate n fill))) ≡ replicate (min k n) fill ++ drop (min k n) memory
overlaid_filled memory k n fill h =
    let l : length (replicate (min k n) fill) ≡ min k n = length-replicate (min k n) fill in
    let short : length (replicate (min k n) fill) ≤ n = omega (arith, l) in
    let e : take n (take k (replicate n fill)) ≡ replicate (min k n) fill = rw (take_filled k n fill) (take_all n (replicate (min k n) fill) short) in
    rw e (overlaid_front memory (replicate (min k n) fill) (omega arith) ∙ ap (λ (m : ℕ). replicate (min k n) fill ++ drop m memory) l)

-- the octets behind a list in a blank memory
pub rest_blank : (list : List ℕ) (n : ℕ) → list ++ drop (length list) (replicate n 0) ≡ list ++ replicate (n - length list) 0
rest_blank list n = ap (λ (xs : List ℕ). list ++ xs) (drop-replicate (length list) n 0)
