-- Numbers of two octets at a place, the high octet first.
use Rattle.std.specs.Prelude.{ℕ, ◌+◌, ◌*◌, List, slice_index}

abbrev pub word_at : List ℕ → ℕ → ℕ
word_at octets i = 256 * slice_index octets i + slice_index octets (i + 1)
