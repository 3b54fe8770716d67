use Rattle.std.proofs.Common.{List, take}
use Rattle.knx_model.specs.declared.catalogue.model.NamedModel.{NamedModel}
use Rattle.project_check.specs.Knowing.{AreNamed, Declares}
use Rattle.project_check.proofs.declared.Declared.by_all.Given as goal

abbrev pub invariant-loop-statement : goal.invariant-loop-statement
invariant-loop-statement l = (catalogue : List NamedModel) → AreNamed catalogue l.models l.statements → Declares catalogue l.declared (take l.statement-index l.statements)
