use Rattle.std.proofs.Common.{ℕ, cond, List, take, Option, Some, None}
use Rattle.std.specs.Option.{option_or}
use Rattle.knx_model.specs.declared.catalogue.model.NamedModel.{NamedModel}
use Rattle.knx_model.specs.declared.project.Statement.{Statement}
use Rattle.knx_model.specs.Rules.{has_group}
use Rattle.project_check.specs.Knowing.{Holds, Declares, known_object}
use Rattle.project_check.specs.declared.known.KnownObject.{KnownObject}
use Rattle.project_check.proofs.declared.add_to_groups.Given as goal

abbrev pub invariant-loop-group : goal.invariant-loop-group
invariant-loop-group l = (catalogue : List NamedModel) (ss : List Statement) → Declares catalogue l.declared ss → (f : ℕ → Option KnownObject) → Holds l.fn.first_objects f
    → Holds l.first_objects (λ g. option_or (f g) (cond (has_group g (take l.group-index l.groups)) (Some (known_object catalogue ss l.object.device l.object.number)) None))
