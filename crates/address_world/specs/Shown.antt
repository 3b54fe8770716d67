-- A unit as it is shown: its address, and whether it is in programming mode.
use Rattle.address_world.specs.declared.unit.Unit.{Unit as BusUnit}
use Rattle.address_world.specs.AddressWorld.{UnitState}

abbrev pub shown : UnitState → BusUnit
shown u = record { address = u.address; prog = u.programming }
