use Rattle.std.proofs.Common.{◌≡◌, ◌++◌}
use Rattle.knx_gen.specs.Generated.{group_lines}
use Rattle.knx_gen.proofs.project.put_groups.Given as goal

-- the groups so far
abbrev pub invariant-loop-place : goal.invariant-loop-place
invariant-loop-place l = l.lines ≡ l.fn.lines ++ group_lines l.place
