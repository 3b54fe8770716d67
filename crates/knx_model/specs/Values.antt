-- Group values as words: `s` and two hexadecimal digits up to 3F for a short one, or 1 to 14 octets of two digits each. The words are
-- this project's own.
use Rattle.std.specs.Prelude.{ℕ, ◌+◌, ◌*◌, ◌&&◌, ◌==◌, nat_le, List, [], ◌∷◌, length, Option, Some, None, if◌then◌else◌}
use Rattle.std.specs.Char.{digit_value}
use Rattle.knx_model.specs.declared.frames.value.Value.{Value}
use Rattle.knx_model.specs.declared.frames.value.Value.TheVariants.{Short, Long}
use Rattle.knx_model.specs.Numbers.{is_digit}

abbrev pub octet_before : ℕ → Option (List ℕ) → Option (List ℕ)
octet_before octet None = None
octet_before octet (Some octets) = Some (octet ∷ octets)

-- two hexadecimal digits an octet, in either case
abbrev pub hex_octets : List ℕ → Option (List ℕ)
hex_octets [] = Some []
hex_octets (high ∷ []) = None
hex_octets (high ∷ below ∷ rest) =
    if is_digit 16 high && is_digit 16 below then octet_before (digit_value high * 16 + digit_value below) (hex_octets rest) else None

abbrev pub short_of : Option (List ℕ) → Option Value
short_of (Some (octet ∷ [])) = if nat_le octet 0x3F then Some (Short octet) else None
short_of _ = None

abbrev pub long_of : Option (List ℕ) → Option Value
long_of None = None
long_of (Some octets) = if nat_le 1 (length octets) && nat_le (length octets) 14 then Some (Long octets) else None

unfoldable pub value_value : List ℕ → Option Value
value_value [] = None
value_value (first ∷ rest) = if first == 115 then short_of (hex_octets rest) else long_of (hex_octets (first ∷ rest))
