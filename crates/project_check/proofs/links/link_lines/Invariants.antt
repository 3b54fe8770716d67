use Rattle.std.proofs.Common.{◌≡◌, take}
use Rattle.project_check.specs.Links.{link_lines}
use Rattle.project_check.proofs.links.link_lines.Given as goal

abbrev pub invariant-loop-place : goal.invariant-loop-place
invariant-loop-place l = l.links.items ≡ link_lines (take l.place l.statements)
