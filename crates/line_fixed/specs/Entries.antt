-- The record of a link as it is kept: equal entries in a row stand once, with how many more there are; the oldest stretch first. The record
-- that it stands for has each entry, the newest first.
use Rattle.std.specs.Prelude.{List, [], ◌∷◌, ◌++◌, replicate}
use Rattle.line_model.specs.Record as record_of_link
use Rattle.line_model.specs.Record.{Entry, entry}
use Rattle.line_fixed.specs.declared.item.Item.{Item}
use Rattle.line_fixed.specs.declared.item.Item.TheVariants as kept
use Rattle.line_fixed.specs.declared.item.Stretch.{Stretch}

abbrev pub told : Item → record_of_link.Item
told (kept.Put octets) = record_of_link.Put octets
told kept.Renewed = record_of_link.Renewed
told (kept.Got octets) = record_of_link.Got octets
told kept.Quiet = record_of_link.Quiet

abbrev pub entry_of : Stretch → Entry
entry_of stretch = entry (told stretch.what) stretch.now

abbrev pub whole : List Stretch → List Entry
whole [] = []
whole (stretch ∷ stretches) = whole stretches ++ (entry_of stretch ∷ replicate stretch.more (entry_of stretch))
