use Rattle.std.proofs.Common.{◌≡◌, map, take}
use Rattle.project_text.specs.Migrated.{link_to_one, numbered_after}
use Rattle.project_text.proofs.migration.put_links.Given as goal

abbrev pub invariant-loop-group : goal.invariant-loop-group
invariant-loop-group l = l.out ≡ numbered_after l.initial.out (map (link_to_one l.device l.object) (take l.group-index l.groups))
