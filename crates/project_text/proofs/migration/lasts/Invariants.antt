use Rattle.std.proofs.Common.{take}
use Rattle.project_text.specs.Sending.{KeepsLast}
use Rattle.project_text.proofs.migration.lasts.Given as goal

abbrev pub invariant-loop-statement : goal.invariant-loop-statement
invariant-loop-statement l = KeepsLast l.last (take l.statement-index l.statements)
