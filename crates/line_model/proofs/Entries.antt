-- The entries of places are the record.
use Rattle.std.proofs.Common.{◌≡◌, List, [], ◌∷◌, length, Option, Some, None, refl, ap}
use Rattle.line_model.specs.Record.{Item, entry, placed_if, placed, entries, item_at, noted, record_of, Entry, counted}
use Rattle.line_model.specs.World.{World, Event, now, replay}

pub entries_placed : (start : World) (events : List Event) → entries (placed start events) ≡ record_of start events
entries_placed start [] = refl
entries_placed start (e ∷ events) = by_item (item_at (replay start events) e) (entries_placed start events) where
  by_item : (o : Option Item) → entries (placed start events) ≡ record_of start events → entries (placed_if (length (e ∷ events)) (now (replay start (e ∷ events))) o (placed start events)) ≡ noted o (now (replay start (e ∷ events))) (record_of start events)
  by_item None q = q
  by_item (Some what) q = ap (λ z. entry what (now (replay start (e ∷ events))) ∷ z) q

pub entries_counted : (r : List Entry) → entries (counted r) ≡ r
entries_counted [] = refl
entries_counted (x ∷ r) = ap (λ z. x ∷ z) (entries_counted r)
