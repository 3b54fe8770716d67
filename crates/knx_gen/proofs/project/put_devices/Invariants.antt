use Rattle.std.proofs.Common.{◌≡◌, ◌*◌, ◌++◌}
use Rattle.knx_gen.specs.Draws.{state_at}
use Rattle.knx_gen.specs.Generated.{all_device_lines}
use Rattle.knx_gen.proofs.project.put_devices.Given as goal

-- the devices so far, and the state after their numbers
abbrev pub invariant-loop-before : goal.invariant-loop-before
invariant-loop-before l = record {
  lines : l.lines ≡ l.fn.lines ++ all_device_lines l.start l.before;
  state : l.numbers.state ≡ state_at l.start (8 * l.before);
}
