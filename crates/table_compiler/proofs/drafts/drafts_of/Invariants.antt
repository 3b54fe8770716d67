use Rattle.std.proofs.Common.{take}
use Rattle.table_compiler.specs.Drafts.{AreDrafts}
use Rattle.table_compiler.proofs.drafts.drafts_of.Given as goal

-- the lines so far say this of each device
abbrev pub invariant-loop-statement : goal.invariant-loop-statement
invariant-loop-statement l = AreDrafts l.devices l.drafts.items (take l.statement-index l.statements)
