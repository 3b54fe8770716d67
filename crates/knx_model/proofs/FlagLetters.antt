-- How often a letter stands in a word, counted letter by letter.
use Rattle.std.proofs.Common.{◌≡◌, ℕ, ◌+◌, ◌<◌, ◌≤◌, cond, eqb, List, length, get_or, take, arith, inl, inr}
use Rattle.std.proofs.lemmas.List.{length-take}
use Rattle.std.proofs.lemmas.Bool.{cases_Bool}
use Rattle.std.proofs.lemmas.List.Sums.{count_by-le-length, count_by_more_yes, count_by_more_no}
use Rattle.knx_model.specs.Flags.{times}

-- one letter more
pub times_more : (letter : ℕ) (word : List ℕ) (i : ℕ) → i < length word → times letter (take (i + 1) word) ≡ times letter (take i word) + cond (eqb (get_or word i 0) letter) 1 0
times_more letter word i lt = elim (cases_Bool (eqb (get_or word i 0) letter)) [
  | inl here ↦ rw here (count_by_more_yes (λ x. eqb x letter) word i 0 lt here)
  | inr other ↦ rw other (omega (arith, count_by_more_no (λ x. eqb x letter) word i 0 lt other))
]

-- at most all of the letters so far
pub times_within : (letter : ℕ) (word : List ℕ) (i : ℕ) → times letter (take i word) ≤ i
times_within letter word i = omega (arith, count_by-le-length (λ x. eqb x letter) (take i word), length-take i word)
