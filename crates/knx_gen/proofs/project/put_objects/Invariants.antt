use Rattle.std.proofs.Common.{◌≡◌, ◌++◌}
use Rattle.knx_gen.specs.Generated.{object_lines}
use Rattle.knx_gen.proofs.project.put_objects.Given as goal

-- the objects so far
abbrev pub invariant-loop-place : goal.invariant-loop-place
invariant-loop-place l = l.lines ≡ l.fn.lines ++ object_lines l.device l.place
