use Rattle.std.proofs.Common.{◌≡◌, ◌++◌, length, take}
use Rattle.std.specs.List.{flat_map}
use Rattle.knx_model.specs.Tables.{two, pair}
use Rattle.table_compiler.specs.Order.{pair_of}
use Rattle.table_compiler.proofs.tables.association_table.Given as goal

abbrev pub invariant-loop-link : goal.invariant-loop-link
invariant-loop-link l = l.out.items ≡ two (length l.order) ++ flat_map (λ m. pair (pair_of l.groups m)) (take l.link-index l.order)
