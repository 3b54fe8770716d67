-- Bits of words, and the device parts that they stand for.
use Rattle.std.proofs.Common.{◌≡◌, ◌≢◌, ℕ, ◌+◌, ◌-◌, ◌*◌, ◌/◌, ◌%◌, ◌^◌, ◌<◌, ◌≤◌, ◌==◌, inl, inr, min, false, List, ap, sym, subst, ◌∙◌, arith, bit_and, slice_index}
use Rattle.std.specs.Int.{bit_at, trailing_zeros, w64}
use Rattle.std.proofs.lemmas.Bool.{cases_lt}
use Rattle.std.proofs.lemmas.Nat.{and_le_l}
use Rattle.std.proofs.lemmas.Nat.Bits.{bit_at_and, bit_at-lt, bit_at-zero, bit_at_mask_inside, bit_at_mask_below, bit_at-trailing_zeros, ones_shl}
use Rattle.line_sim.specs.Parts.{has_part}

-- ---- a word without the bits before one

abbrev pub from_bit : ℕ → ℕ → ℕ
from_bit word from = bit_and word (18446744073709551615 * 2 ^ from % 18446744073709551616)

mask_is : (from : ℕ) → from < 64 → 18446744073709551615 * 2 ^ from % 18446744073709551616 ≡ 2 ^ 64 - 2 ^ from
mask_is from h = ones_shl 64 from (omega arith)

pub behind : (word from i : ℕ) → from < 64 → from ≤ i → i < 64 → bit_at (from_bit word from) i ≡ bit_at word i
behind word from i h le lt =
    let small : bit_at word i < 2 = bit_at-lt word i in
    let one : bit_at (18446744073709551615 * 2 ^ from % 18446744073709551616) i ≡ 1 = ap (λ (m : ℕ). bit_at m i) (mask_is from h) ∙ bit_at_mask_inside from 64 i le lt in
    bit_at_and word (18446744073709551615 * 2 ^ from % 18446744073709551616) i ∙ ap (min (bit_at word i)) one ∙ least (bit_at word i) small
  where
    least : (b : ℕ) → b < 2 → min b 1 ≡ b
    least b h = omega arith

before : (word from i : ℕ) → from < 64 → i < from → bit_at (from_bit word from) i ≡ 0
before word from i h lt =
    let zero_there : bit_at (18446744073709551615 * 2 ^ from % 18446744073709551616) i ≡ 0 = ap (λ (m : ℕ). bit_at m i) (mask_is from h) ∙ bit_at_mask_below from 64 i lt in
    bit_at_and word (18446744073709551615 * 2 ^ from % 18446744073709551616) i ∙ ap (min (bit_at word i)) zero_there ∙ nothing (bit_at word i)
  where
    nothing : (b : ℕ) → min b 0 ≡ 0
    nothing b = omega arith

pub none_behind : (word from : ℕ) → from < 64 → from_bit word from ≡ 0 → (i : ℕ) → from ≤ i → i < 64 → bit_at word i ≡ 0
none_behind word from h none i le lt = sym (behind word from i h le lt) ∙ ap (λ (x : ℕ). bit_at x i) none ∙ bit_at-zero i

-- the least bit from one on
pub record IsFirst (word from bit : ℕ) : Type 0 where
  pub found : bit_at word bit ≡ 1
  pub after : from ≤ bit
  pub within : bit < 64
  pub none_between : (i : ℕ) → from ≤ i → i < bit → bit_at word i ≡ 0

pub first_is : (word from bit : ℕ) → from < 64 → word < 2 ^ 64 → from_bit word from ≢ 0 → bit ≡ trailing_zeros w64 (from_bit word from) → IsFirst word from bit
first_is word from bit h small some is =
    let rest : ℕ = from_bit word from in
    let fits : rest < 2 ^ 64 = omega (arith, and_le_l word (18446744073709551615 * 2 ^ from % 18446744073709551616), small) in
    let positive : 0 < rest = omega (arith, some) in
    let t = bit_at-trailing_zeros w64 rest positive fits in
    let lt : bit < 64 = subst (λ (b : ℕ). b < 64) (sym is) t.0 in
    let set : bit_at rest bit ≡ 1 = ap (bit_at rest) is ∙ t.1 in
    let le : from ≤ bit = not_before (from ≤ bit) bit from (λ small. absurd (apart (bit_at rest bit) set (before word from bit h small))) (λ le. le) in
    record {
      found = sym (behind word from bit h le lt) ∙ set;
      after = le;
      within = lt;
      none_between = λ i ge less. sym (behind word from i h ge (omega (arith, less, lt))) ∙ t.2 i (subst (λ (b : ℕ). i < b) is less);
    }
  where
    apart : (b : ℕ) → b ≡ 1 → b ≡ 0 → ⊥
    apart b one zero = omega arith

    not_before : (P : Type 0) (a b : ℕ) → (a < b → P) → (b ≤ a → P) → P
    not_before P a b this that = grind arith

-- ---- which parts a word's bits stand for

pub lacks_bit : (words : List ℕ) (p : ℕ) → bit_at (slice_index words (p / 64)) (p % 64) ≡ 0 → has_part words p ≡ false
lacks_bit words p e = ap (λ (x : ℕ). x == 1) e

-- no part from one on, up to another
abbrev pub NoneFrom : List ℕ → ℕ → ℕ → Type 0
NoneFrom words from end = (p : ℕ) → from ≤ p → p < end → has_part words p ≡ false

-- where none before a word is of the set, and no bit of this word up to one, none is up to the part of that bit
pub none_up_to : (words : List ℕ) (from word start bit : ℕ) → bit ≤ 64 → ((k : ℕ) → from ≤ 64 * word + k → start ≤ k) → ((i : ℕ) → start ≤ i → i < bit → bit_at (slice_index words word) i ≡ 0)
    → NoneFrom words from (word * 64) → NoneFrom words from (word * 64 + bit)
none_up_to words from word start bit h begins none earlier p le lt = elim (cases_lt p (word * 64)) [
  | inl less ↦ earlier p le less
  | inr more ↦
      let word_is : p / 64 ≡ word = omega (arith, more, lt, h) in
      let place : from ≤ 64 * word + p % 64 = omega (arith, le, word_is) in
      let small : p % 64 < bit = omega (arith, lt, word_is) in
      lacks_bit words p (ap (λ (k : ℕ). bit_at (slice_index words k) (p % 64)) word_is ∙ none (p % 64) (begins (p % 64) place) small)
]
