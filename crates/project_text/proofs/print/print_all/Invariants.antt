use Rattle.std.proofs.Common.{◌≡◌, take}
use Rattle.project_text.specs.Printing.{printed}
use Rattle.project_text.proofs.print.print_all.Given as goal

abbrev pub invariant-loop-statement : goal.invariant-loop-statement
invariant-loop-statement l = l.out ≡ printed (take l.statement-index l.statements)
