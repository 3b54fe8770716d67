use Rattle.std.proofs.Common.{◌≡◌, List, None}
use Rattle.knx_model.specs.declared.catalogue.model.NamedModel.{NamedModel}
use Rattle.project_check.specs.Knowing.{DeclaresAll}
use Rattle.project_check.specs.Parts.{first_broken_between}
use Rattle.project_check.proofs.Judged.{JudgedTo}
use Rattle.project_check.proofs.parts.first_between.Given as goal

abbrev pub invariant-loop-place : goal.invariant-loop-place
invariant-loop-place l = (catalogue : List NamedModel) → DeclaresAll catalogue l.whole l.statements → first_broken_between catalogue l.statements 0 l.from ≡ None → JudgedTo catalogue l.statements l.earlier l.whole l.place
