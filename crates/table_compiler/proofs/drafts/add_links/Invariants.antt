use Rattle.std.proofs.Common.{◌≡◌, ◌++◌, map, take}
use Rattle.knx_model.specs.Meaning.{link_to}
use Rattle.table_compiler.proofs.drafts.add_links.Given as goal

abbrev pub invariant-loop-group : goal.invariant-loop-group
invariant-loop-group l = l.links.items ≡ l.fn.links.items ++ map (link_to l.object) (take l.group-index l.groups)
