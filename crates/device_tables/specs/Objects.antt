-- A set of object numbers, as contracts see it: which of the numbers from 0 on are of it.
use Rattle.std.specs.Prelude.{ℕ, Bool, false, List, slice_index_or}

abbrev pub holds : List Bool → ℕ → Bool
holds set o = slice_index_or set o false
