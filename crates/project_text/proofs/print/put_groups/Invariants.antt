use Rattle.std.proofs.Common.{◌≡◌, ◌∷◌, ◌++◌, take}
use Rattle.std.specs.List.{flat_map}
use Rattle.knx_model.specs.Addresses.{group_text}
use Rattle.project_text.proofs.print.put_groups.Given as goal

abbrev pub invariant-loop-group : goal.invariant-loop-group
invariant-loop-group l = l.out ≡ l.fn.out ++ flat_map (λ g. 32 ∷ group_text g) (take l.group-index l.groups)
