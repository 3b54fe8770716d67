-- The record of a port as it is kept, the oldest first, and as it is told, the newest first.
use Rattle.std.specs.Prelude.{List, [], ◌∷◌, ◌++◌}
use Rattle.line_model.specs.PortStory as of_port
use Rattle.line_fixed.specs.declared.port_items.PortItem.{PortItem}
use Rattle.line_fixed.specs.declared.port_items.PortItem.TheVariants as kept

abbrev pub told : PortItem → of_port.PortItem
told (kept.Took from octets) = of_port.Took from octets
told (kept.Quiet ms) = of_port.Quiet ms
told (kept.Gave to octets) = of_port.Gave to octets

abbrev pub newest_first : List PortItem → List of_port.PortItem
newest_first [] = []
newest_first (item ∷ items) = newest_first items ++ told item ∷ []
