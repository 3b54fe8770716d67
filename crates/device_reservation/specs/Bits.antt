-- A set of numbers as bits in words of 64: the number n is the bit n % 64, of value 2 ^ (n % 64), of the word n / 64.
use Rattle.std.specs.Prelude.{◌≡◌, ℕ, ◌/◌, ◌%◌, ◌<◌, ◌==◌, Bool, true, false, List, slice_index}
use Rattle.std.specs.Int.{bit_at}

abbrev pub holds : List ℕ → ℕ → Bool
holds words n = bit_at (slice_index words (n / 64)) (n % 64) == 1

-- the least number of the set
pub record IsLeast (words : List ℕ) (n : ℕ) : Type 0 where
  pub itself : holds words n ≡ true
  pub none_below : (k : ℕ) → k < n → holds words k ≡ false
