use Rattle.std.proofs.Common.{◌≡◌, take}
use Rattle.project_text.specs.Migrated.{kept, numbered_after}
use Rattle.project_text.proofs.migration.put_all_kept.Given as goal

abbrev pub invariant-loop-statement : goal.invariant-loop-statement
invariant-loop-statement l = l.out ≡ numbered_after l.initial.out (kept (take l.statement-index l.statements))
