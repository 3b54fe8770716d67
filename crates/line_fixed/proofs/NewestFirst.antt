-- An item that is added to a port's record.
use Rattle.std.proofs.Common.{◌≡◌, List, [], ◌∷◌, ◌++◌, refl, ap}
use Rattle.line_fixed.specs.declared.port_items.PortItem.{PortItem}
use Rattle.line_fixed.specs.PortItems.{told, newest_first}

pub added : (items : List PortItem) (item : PortItem) → newest_first (items ++ item ∷ []) ≡ told item ∷ newest_first items
added [] item = refl
added (older ∷ items) item = ap (λ told_items. told_items ++ told older ∷ []) (added items item)
