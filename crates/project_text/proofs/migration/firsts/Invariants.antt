use Rattle.std.proofs.Common.{take}
use Rattle.project_text.specs.Sending.{KeepsFirst}
use Rattle.project_text.proofs.migration.firsts.Given as goal

abbrev pub invariant-loop-statement : goal.invariant-loop-statement
invariant-loop-statement l = KeepsFirst l.first (take l.statement-index l.statements)
