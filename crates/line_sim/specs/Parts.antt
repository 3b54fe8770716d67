-- A set of device parts, 0 to 255, as the bits of four words of 64: bit p % 64 of word p / 64 says whether p is of it.
use Rattle.std.specs.Prelude.{ℕ, ◌/◌, ◌%◌, ◌==◌, Bool, List, slice_index}
use Rattle.std.specs.Int.{bit_at}

abbrev pub has_part : List ℕ → ℕ → Bool
has_part words part = bit_at (slice_index words (part / 64)) (part % 64) == 1
