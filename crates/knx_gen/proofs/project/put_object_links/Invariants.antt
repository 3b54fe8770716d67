use Rattle.std.proofs.Common.{◌≡◌, ◌++◌}
use Rattle.knx_gen.specs.Draws.{state_at}
use Rattle.knx_gen.specs.Generated.{object_links}
use Rattle.knx_gen.proofs.project.put_object_links.Given as goal

-- the links of the objects so far, and the state after their numbers
abbrev pub invariant-loop-place : goal.invariant-loop-place
invariant-loop-place l = record {
  lines : l.lines ≡ l.fn.lines ++ object_links l.fn.numbers.state l.device l.place;
  state : l.numbers.state ≡ state_at l.fn.numbers.state l.place;
}
