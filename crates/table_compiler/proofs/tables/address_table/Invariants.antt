use Rattle.std.proofs.Common.{◌≡◌, ◌++◌, length, take}
use Rattle.std.specs.List.{flat_map}
use Rattle.knx_model.specs.Tables.{two}
use Rattle.table_compiler.proofs.tables.address_table.Given as goal

abbrev pub invariant-loop-group : goal.invariant-loop-group
invariant-loop-group l = l.out.items ≡ two (length l.groups) ++ flat_map two (take l.group-index l.groups)
