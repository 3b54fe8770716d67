use Rattle.std.proofs.Common.{◌≡◌, List, drop}
use Rattle.std.specs.List.{list_any}
use Rattle.knx_model.specs.declared.catalogue.model.NamedModel.{NamedModel}
use Rattle.knx_model.specs.declared.project.Statement.{Statement}
use Rattle.knx_model.specs.Rules.{differs_from_first}
use Rattle.project_check.specs.Knowing.{DeclaresAll}
use Rattle.project_check.proofs.rules.Whole.differs_from_first.Given as goal

abbrev pub invariant-loop-group : goal.invariant-loop-group
invariant-loop-group l = (catalogue : List NamedModel) (all : List Statement) → DeclaresAll catalogue l.self all → list_any (differs_from_first catalogue all l.size) (drop l.group-index l.groups) ≡ list_any (differs_from_first catalogue all l.size) l.groups
