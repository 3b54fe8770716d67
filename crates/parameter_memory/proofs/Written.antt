-- Bits that are overwritten.
use Rattle.std.proofs.Common.{◌≡◌, ◌⊎◌, inl, inr, ℕ, zero, suc, ◌+◌, ◌-◌, ◌/◌, ◌%◌, ◌^◌, ◌<◌, ◌≤◌, ◌≢◌, List, [], ◌∷◌, length, get_or, set, take, drop, refl, ap, ◌∙◌, subst, arith}
use Rattle.std.proofs.lemmas.List.{length-set, drop_more, get_or-set_same, get_or-set_other, drop-set-lt, drop-set-add, take-set-le}
use Rattle.parameter_memory.specs.Bits.{value_bits, overwrite}

pub length-value_bits : (width value : ℕ) → length (value_bits width value) ≡ width
length-value_bits zero value = refl
length-value_bits (suc width) value = ap suc (length-value_bits width value)

pub length-overwrite : (bits : List ℕ) (at : ℕ) (xs : List ℕ) → length (overwrite bits at xs) ≡ length bits
length-overwrite bits at [] = refl
length-overwrite bits at (x ∷ xs) = length-overwrite (set bits at x) (at + 1) xs ∙ length-set bits at x

-- a bit beside them stays
pub beside : (bits : List ℕ) (at : ℕ) (xs : List ℕ) (b : ℕ) → (b < at) ⊎ (at + length xs ≤ b) → get_or (overwrite bits at xs) b 0 ≡ get_or bits b 0
beside bits at [] b h = refl
beside bits at (x ∷ xs) b h =
    let ne : b ≢ at = grind arith in
    let more : (b < at + 1) ⊎ (at + 1 + length xs ≤ b) = grind arith in
    beside (set bits at x) (at + 1) xs b more ∙ get_or-set_other bits at b x 0 ne

-- bits before and after them stay
stays : (bits : List ℕ) (at x b w : ℕ) → (b + w ≤ at) ⊎ (at < b) → take w (drop b (set bits at x)) ≡ take w (drop b bits)
stays bits at x b w (inl before) =
    let place : b + (at - b) ≡ at = omega arith in
    subst (λ (n : ℕ). take w (drop b (set bits n x)) ≡ take w (drop b bits)) place (ap (take w) (drop-set-add b bits (at - b) x) ∙ take-set-le w (drop b bits) (at - b) x (omega arith))
stays bits at x b w (inr after) = rw (drop-set-lt b bits at x after) refl

pub apart : (bits : List ℕ) (at : ℕ) (xs : List ℕ) (b w : ℕ) → (b + w ≤ at) ⊎ (at + length xs ≤ b) → take w (drop b (overwrite bits at xs)) ≡ take w (drop b bits)
apart bits at [] b w h = refl
apart bits at (x ∷ xs) b w h =
    let here : (b + w ≤ at) ⊎ (at < b) = grind arith in
    let more : (b + w ≤ at + 1) ⊎ (at + 1 + length xs ≤ b) = grind arith in
    apart (set bits at x) (at + 1) xs b w more ∙ stays bits at x b w here

-- they stand where they were written
pub written : (bits : List ℕ) (at : ℕ) (xs : List ℕ) → at + length xs ≤ length bits → take (length xs) (drop at (overwrite bits at xs)) ≡ xs
written bits at [] h = refl
written bits at (x ∷ xs) h =
    let after : List ℕ = overwrite (set bits at x) (at + 1) xs in
    let len : length after ≡ length bits = length-overwrite (set bits at x) (at + 1) xs ∙ length-set bits at x in
    let lt : at < length after = omega (arith, len, h) in
    let lt0 : at < length bits = omega (arith, h) in
    let fits : at + 1 + length xs ≤ length (set bits at x) = omega (arith, length-set bits at x, h) in
    let here : get_or after at 0 ≡ x = beside (set bits at x) (at + 1) xs at (inl (omega arith)) ∙ get_or-set_same bits at x 0 lt0 in
    rw (drop_more after at 0 lt, here) (ap (λ ys. x ∷ ys) (written (set bits at x) (at + 1) xs fits))

-- one more bit of a value is written
pub one_more : (bits : List ℕ) (at next left width rest value : ℕ) → width ≡ suc left → rest ≡ left → next ≡ at + 1 → overwrite (set bits at (value / 2 ^ left % 2)) next (value_bits rest value) ≡ overwrite bits at (value_bits width value)
one_more bits at next left width rest value e1 e2 e3 = rw (e1, e2, e3) refl
