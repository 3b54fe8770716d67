use Rattle.std.proofs.Common.{◌≡◌, drop}
use Rattle.toml.specs.View.{items_view}
use Rattle.catalogue.specs.Shapes.{each, before, object_of}
use Rattle.catalogue.proofs.tables.objects_in.Given as goal

-- the objects so far, before those of the tables that are left
abbrev pub invariant-loop-table : goal.invariant-loop-table
invariant-loop-table l = before l.objects (each object_of (items_view (drop l.table-index l.tables))) ≡ each object_of (items_view l.tables)
