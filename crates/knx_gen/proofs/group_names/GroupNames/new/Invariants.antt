use Rattle.std.proofs.Common.{◌≡◌}
use Rattle.knx_gen.specs.Generated.{group_names}
use Rattle.knx_gen.proofs.group_names.GroupNames.new.Given as goal

-- the names so far
abbrev pub invariant-loop-place : goal.invariant-loop-place
invariant-loop-place l = l.names ≡ group_names l.place
