-- One number of a set of bits, after a word was written, and the least number of a set.
use Rattle.std.proofs.Common.{◌≡◌, ◌≢◌, ℕ, ◌+◌, ◌-◌, ◌*◌, ◌/◌, ◌%◌, ◌^◌, ◌<◌, inl, inr, true, false, eqb, List, length, get_or, set, bit_and, bit_or, sym, ap, ◌∙◌, arith}
use Rattle.std.specs.Int.{w64, bit_at, trailing_zeros}
use Rattle.std.proofs.lemmas.Bool.{cases_eq, cases_lt}
use Rattle.std.proofs.lemmas.List.{get_or-set_same, get_or-set_other, get_or_default}
use Rattle.std.proofs.lemmas.Nat.Bits.{bit_at-zero, bit_at_set_same, bit_at_set_other, bit_at_clear_same, bit_at_clear_other, bit_at-trailing_zeros}
use Rattle.device_reservation.specs.Bits.{holds, IsLeast}

-- ---- a word is written

same_word : (words : List ℕ) (n w b : ℕ) → n < 64 * length words → bit_at w (n % 64) ≡ b → eqb (bit_at (get_or (set words (n / 64) w) (n / 64) 0) (n % 64)) 1 ≡ eqb b 1
same_word words n w b within e =
    ap (λ b. eqb b 1) (ap (λ x. bit_at x (n % 64)) (get_or-set_same words (n / 64) w 0 (omega arith)) ∙ e)

other_bits : (words : List ℕ) (n m w : ℕ) → n < 64 * length words → m ≢ n → ((i : ℕ) → i < 64 → i ≢ n % 64 → bit_at w i ≡ bit_at (get_or words (n / 64) 0) i) → holds (set words (n / 64) w) m ≡ holds words m
other_bits words n m w within apart others = elim (cases_eq (m / 64) (n / 64)) [
  | inl same ↦
      let here : get_or (set words (n / 64) w) (m / 64) 0 ≡ w = ap (λ at. get_or (set words (n / 64) w) at 0) same ∙ get_or-set_same words (n / 64) w 0 (omega arith) in
      let bit : bit_at w (m % 64) ≡ bit_at (get_or words (n / 64) 0) (m % 64) = others (m % 64) (omega arith) (λ e. apart (omega arith)) in
      ap (λ b. eqb b 1) (ap (λ x. bit_at x (m % 64)) here ∙ bit ∙ ap (λ at. bit_at (get_or words at 0) (m % 64)) (sym same))
  | inr other ↦ ap (λ x. eqb (bit_at x (m % 64)) 1) (get_or-set_other words (n / 64) (m / 64) w 0 other)
]

read_word : (words : List ℕ) (n old : ℕ) → n < 64 * length words → old ≡ get_or words (n / 64) old → get_or words (n / 64) 0 ≡ old
read_word words n old within read = sym (read ∙ get_or_default words (n / 64) old 0 (omega arith))

pub inserted : (words : List ℕ) (n old : ℕ) → n < 64 * length words → holds (set words (n / 64) (bit_or old (1 * 2 ^ (n % 64) % 18446744073709551616))) n ≡ true
inserted words n old within = same_word words n _ 1 within (bit_at_set_same w64 old (n % 64) (omega arith))

pub inserted_others : (words : List ℕ) (n old : ℕ) → n < 64 * length words → old ≡ get_or words (n / 64) old → (m : ℕ) → m ≢ n → holds (set words (n / 64) (bit_or old (1 * 2 ^ (n % 64) % 18446744073709551616))) m ≡ holds words m
inserted_others words n old within read m apart =
    other_bits words n m _ within apart (λ i below other. bit_at_set_other w64 old (n % 64) (omega arith) i other ∙ ap (λ x. bit_at x i) (sym (read_word words n old within read)))

pub removed : (words : List ℕ) (n old : ℕ) → n < 64 * length words → holds (set words (n / 64) (bit_and old (18446744073709551615 - 1 * 2 ^ (n % 64) % 18446744073709551616))) n ≡ false
removed words n old within = same_word words n _ 0 within (bit_at_clear_same w64 old (n % 64) (omega arith))

pub removed_others : (words : List ℕ) (n old : ℕ) → n < 64 * length words → old ≡ get_or words (n / 64) old → (m : ℕ) → m ≢ n → holds (set words (n / 64) (bit_and old (18446744073709551615 - 1 * 2 ^ (n % 64) % 18446744073709551616))) m ≡ holds words m
removed_others words n old within read m apart =
    other_bits words n m _ within apart (λ i below other. bit_at_clear_other w64 old (n % 64) (omega arith) i below other ∙ ap (λ x. bit_at x i) (sym (read_word words n old within read)))

-- ---- the least number

in_empty_word : (words : List ℕ) (k : ℕ) → get_or words (k / 64) 0 ≡ 0 → holds words k ≡ false
in_empty_word words k e = ap (λ x. eqb (bit_at x (k % 64)) 1) e ∙ ap (λ b. eqb b 1) (bit_at-zero (k % 64))

pub least : (words : List ℕ) (at word : ℕ) → ((k : ℕ) → k < at → get_or words k 0 ≡ 0) → at < length words → word ≡ get_or words at word → 0 < word → word < 18446744073709551616 → IsLeast words (64 * at + trailing_zeros w64 word)
least words at word empty within read some fits =
    let place : ℕ = trailing_zeros w64 word in
    let found : (place < 64) × (bit_at word place ≡ 1) × ((i : ℕ) → i < place → bit_at word i ≡ 0) = bit_at-trailing_zeros w64 word some fits in
    let here : get_or words at 0 ≡ word = sym (read ∙ get_or_default words at word 0 within) in
    let index : (64 * at + place) / 64 ≡ at = omega (arith, found.0) in
    let bit : (64 * at + place) % 64 ≡ place = omega (arith, found.0) in
    record {
      itself = rw (index, bit, here) (ap (λ b. eqb b 1) found.1);
      none_below = λ k below. elim (cases_lt (k / 64) at) [
        | inl before ↦ in_empty_word words k (empty (k / 64) before)
        | inr from ↦
            let same : k / 64 ≡ at = omega (arith, found.0) in
            let lower : k % 64 < place = omega (arith, found.0) in
            ap (λ i. eqb (bit_at (get_or words i 0) (k % 64)) 1) same ∙ ap (λ x. eqb (bit_at x (k % 64)) 1) here ∙ ap (λ b. eqb b 1) (found.2 (k % 64) lower)
      ];
    }
