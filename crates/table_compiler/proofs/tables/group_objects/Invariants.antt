use Rattle.std.proofs.Common.{◌≡◌, ◌++◌, length, take}
use Rattle.std.specs.List.{flat_map}
use Rattle.knx_model.specs.Tables.{two, object_octets}
use Rattle.table_compiler.proofs.tables.group_objects.Given as goal

abbrev pub invariant-loop-object : goal.invariant-loop-object
invariant-loop-object l = l.out.items ≡ two (length l.objects) ++ flat_map object_octets (take l.object-index l.objects)
