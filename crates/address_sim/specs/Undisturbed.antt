-- When no line of the text had an effect: each frame of the client reached all units, and each response the gateway.
use Rattle.std.specs.Prelude.{◌≡◌, List, []}
use Rattle.std.specs.List.{AllByRecursion}
use Rattle.line_model.specs.World.{Comes}
use Rattle.address_world.specs.AddressWorld.{AddressEvent, Bus, Respond}

abbrev pub Reaches : AddressEvent → Type 0
Reaches (Bus left_out) = left_out ≡ []
Reaches (Respond place at) = at ≡ Comes
Reaches _ = Unit {0}

abbrev pub NothingLost : List AddressEvent → Type 0
NothingLost events = AllByRecursion Reaches events
