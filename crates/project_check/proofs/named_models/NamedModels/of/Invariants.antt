use Rattle.std.proofs.Common.{take}
use Rattle.project_check.specs.Knowing.{AreNamed}
use Rattle.project_check.proofs.named_models.NamedModels.of.Given as goal

abbrev pub invariant-loop-statement : goal.invariant-loop-statement
invariant-loop-statement l = AreNamed l.catalogue l.named (take l.statement-index l.statements)
