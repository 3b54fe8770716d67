-- The units in programming mode, and what giving them an address makes of them, with the responses that they have not sent.
use Rattle.std.specs.Prelude.{List, [], ◌∷◌, if◌then◌else◌}
use Rattle.knx_model.specs.declared.address.IndAddr.{IndAddr}
use Rattle.address_world.specs.AddressWorld.{UnitState}

-- the addresses of the units in programming mode
abbrev pub programmed : List UnitState → List IndAddr
programmed [] = []
programmed (u ∷ units) = if u.programming then u.address ∷ programmed units else programmed units

-- a unit with the wanted address, if it is in programming mode
abbrev pub given : IndAddr → UnitState → UnitState
given wanted u = if u.programming then record u { address = wanted } else u
