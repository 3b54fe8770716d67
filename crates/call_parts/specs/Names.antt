-- Words and addresses, as the definitions see them.
use Rattle.std.specs.Prelude.{ℕ, List, Option}
use Rattle.line_model.specs.Dialled.{Address}
use Rattle.std.specs.Borrow.{Bor}
use Rattle.call_parts.specs.declared.host.GatewayAddress.{GatewayAddress}
use Rattle.std.specs.Option.{option_map}

abbrev pub the_word : Bor (List ℕ) → List ℕ
the_word word = word.now

abbrev pub both_sides : Bor (List ℕ) × Bor (List ℕ) → List ℕ × List ℕ
both_sides sides = (sides.0.now, sides.1.now)

abbrev pub named : Option (Bor (List ℕ)) → Option (List ℕ)
named name = option_map the_word name

abbrev pub address_of : GatewayAddress → Address
address_of at = record { host = at.host; port = at.port }
