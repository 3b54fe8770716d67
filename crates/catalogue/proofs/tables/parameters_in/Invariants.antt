use Rattle.std.proofs.Common.{◌≡◌, drop}
use Rattle.toml.specs.View.{items_view}
use Rattle.catalogue.specs.Shapes.{each, before, parameter_of}
use Rattle.catalogue.proofs.tables.parameters_in.Given as goal

-- the parameters so far, before those of the tables that are left
abbrev pub invariant-loop-table : goal.invariant-loop-table
invariant-loop-table l = before l.parameters (each parameter_of (items_view (drop l.table-index l.tables))) ≡ each parameter_of (items_view l.tables)
