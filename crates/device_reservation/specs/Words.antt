-- Where the words of a set of numbers are empty.
use Rattle.std.specs.Prelude.{◌≡◌, ℕ, ◌<◌, ◌≤◌, List, length, slice_index}

-- no word before this place has a bit, and there are fewer than 2 ^ 32
pub record IsEmptyBelow (words : List ℕ) (from : ℕ) : Type 0 where
  pub within : from ≤ length words
  pub empty : (at : ℕ) → at < from → slice_index words at ≡ 0
  pub few : length words < 4294967296
