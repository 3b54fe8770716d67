-- How a text is printed: its lines of words, octets in hexadecimal digits, and the value of a group object.
use Rattle.std.specs.Prelude.{ℕ, ◌+◌, ◌/◌, ◌%◌, nat_lt, codes, List, [], ◌∷◌, ◌++◌, if◌then◌else◌}
use Rattle.std.specs.List.{join_with_byte, flat_map}
use Rattle.knx_model.specs.declared.frames.value.Value.{Value}
use Rattle.knx_model.specs.declared.frames.value.Value.TheVariants.{Short, Long}

-- words apart by one space, and a line feed
abbrev pub line : List (List ℕ) → List ℕ
line words = join_with_byte 32 words ++ 10 ∷ []

abbrev pub hex_digit : ℕ → ℕ
hex_digit n = if nat_lt n 10 then 48 + n else 55 + n

abbrev pub hex_octet : ℕ → List ℕ
hex_octet octet = hex_digit (octet / 16) ∷ hex_digit (octet % 16) ∷ []

abbrev pub hex_text : List ℕ → List ℕ
hex_text octets = flat_map hex_octet octets

-- two digits an octet, or `-` for none
abbrev pub octets_text : List ℕ → List ℕ
octets_text [] = codes "-"
octets_text (first ∷ others) = hex_text (first ∷ others)

abbrev pub value_text : Value → List ℕ
value_text (Short value) = codes "s" ++ hex_octet value
value_text (Long octets) = octets_text octets
