use Rattle.std.proofs.Common.{List, take}
use Rattle.std.specs.Option.{option_map}
use Rattle.knx_model.specs.declared.catalogue.model.NamedModel.{NamedModel}
use Rattle.knx_model.specs.Rules.{first_some, linked_in}
use Rattle.project_check.specs.Knowing.{Holds, Declares, known_at}
use Rattle.project_check.proofs.declared.first_objects.Given as goal

abbrev pub invariant-loop-statement : goal.invariant-loop-statement
invariant-loop-statement l = (catalogue : List NamedModel) → Declares catalogue l.declared l.statements → Holds l.objects (λ g. option_map (known_at catalogue l.statements) (first_some (linked_in g) (take l.statement-index l.statements)))
