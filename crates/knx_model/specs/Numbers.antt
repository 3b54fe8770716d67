-- Words that are numbers and names, each None exactly where the word isn't one. How they are written is this project's own.
use Rattle.std.specs.Prelude.{ℕ, Bool, ◌&&◌, ◌||◌, ◌==◌, nat_lt, nat_le, List, length, drop, codes, nat_eq, Option, Some, None, if◌then◌else◌}
use Rattle.std.specs.List.{list_all, starts_with}
use Rattle.std.specs.Char.{digit_value, is_ascii_alphanumeric}
use Rattle.std.specs.Str.Parse.{digits_value}

abbrev pub is_digit : ℕ → ℕ → Bool
is_digit radix c = nat_lt (digit_value c) radix

-- the number that 1 to `most` digits write
unfoldable pub numeral : ℕ → ℕ → List ℕ → Option ℕ
numeral radix most digits = if nat_lt 0 (length digits) && nat_le (length digits) most && list_all (is_digit radix) digits then Some (digits_value radix digits) else None

-- a value where it is there and at most `most`
abbrev pub up_to : ℕ → Option ℕ → Option ℕ
up_to most None = None
up_to most (Some n) = if nat_le n most then Some n else None

unfoldable pub number_value : List ℕ → Option ℕ
number_value word = up_to 4294967295 (if starts_with nat_eq word (codes "0x") then numeral 16 8 (drop 2 word) else numeral 10 10 word)

unfoldable pub part_value : ℕ → List ℕ → Option ℕ
part_value most word = up_to most (numeral 10 3 word)

-- what a name is made of
abbrev pub is_name_octet : ℕ → Bool
is_name_octet c = is_ascii_alphanumeric c || c == 95 || c == 45 || c == 46

abbrev pub is_name : List ℕ → Bool
is_name word = nat_lt 0 (length word) && nat_le (length word) 32 && list_all is_name_octet word
