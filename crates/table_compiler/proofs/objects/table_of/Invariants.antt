use Rattle.table_compiler.proofs.ObjectLists.{Tabled}
use Rattle.table_compiler.proofs.objects.table_of.Given as goal

abbrev pub invariant-loop-i : goal.invariant-loop-i
invariant-loop-i l = Tabled l.objects l.table l.i
