use Rattle.std.proofs.Common.{◌≡◌, ◌++◌, map, take}
use Rattle.project_check.specs.Links.{link_to, at_place}
use Rattle.project_check.proofs.links.add_links.Given as goal

abbrev pub invariant-loop-group : goal.invariant-loop-group
invariant-loop-group l = l.links.items ≡ l.fn.links.items ++ map (at_place l.place) (map (link_to l.device l.object) (take l.group-index l.groups))
