use Rattle.std.proofs.Common.{take}
use Rattle.table_compiler.specs.Drafts.{IsDraft}
use Rattle.table_compiler.proofs.drafts.draft_of.Given as goal

-- the lines so far say this
abbrev pub invariant-loop-statement : goal.invariant-loop-statement
invariant-loop-statement l = IsDraft l.device l.draft (take l.statement-index l.statements)
