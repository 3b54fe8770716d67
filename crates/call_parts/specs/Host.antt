-- Words that are a gateway's address: a host as four numbers of 1 to 3 decimal digits, up to 255 each, joined by dots; and behind a colon, where there is
-- one, a port number of 1 to 5 decimal digits from 1 to 65,535. Where there is none it is 3671, which is registered for KNXnet/IP
-- (ISO 22510, KNXnet/IP).
use Rattle.std.specs.Prelude.{ℕ, ◌==◌, List, [], ◌∷◌, drop, take, position, Option, Some, None, if◌then◌else◌}
use Rattle.std.specs.Option.{option_map}
use Rattle.knx_model.specs.Addresses.{◌>>=◌}
use Rattle.knx_model.specs.Numbers.{numeral, part_value, up_to}
use Rattle.line_model.specs.Dialled.{Address}

abbrev pub registered_port : ℕ
registered_port = 3671

-- what stands before the first mark, and behind it
unfoldable pub cut : ℕ → List ℕ → Option (List ℕ × List ℕ)
cut mark word = option_map (λ (i : ℕ). (take i word, drop 1 (drop i word))) (position (λ (octet : ℕ). octet == mark) word)

-- four numbers joined by dots
unfoldable pub host_value : List ℕ → Option (List ℕ)
host_value word = do
  first ← cut 46 word
  second ← cut 46 first.1
  third ← cut 46 second.1
  a ← part_value 255 first.0
  b ← part_value 255 second.0
  c ← part_value 255 third.0
  d ← part_value 255 third.1
  Some (a ∷ b ∷ c ∷ d ∷ [])

-- a port number isn't 0
abbrev pub unless_zero : ℕ → Option ℕ
unless_zero n = if n == 0 then None else Some n

unfoldable pub port_value : List ℕ → Option ℕ
port_value word = up_to 65535 (numeral 10 5 word) >>= unless_zero

abbrev pub at_port : ℕ → List ℕ → Address
at_port port host = record { host = host; port = port }

-- a host alone, or with a port behind the first colon
abbrev pub address_cut : List ℕ → Option (List ℕ × List ℕ) → Option Address
address_cut word None = option_map (at_port registered_port) (host_value word)
address_cut word (Some parts) = host_value parts.0 >>= λ host. option_map (λ (port : ℕ). at_port port host) (port_value parts.1)

unfoldable pub address_value : List ℕ → Option Address
address_value word = address_cut word (cut 58 word)
