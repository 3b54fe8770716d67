use Rattle.std.proofs.Common.{◌+◌, ◌*◌}
use Rattle.address_sim.specs.Turns.{HasRoom, IsCalm, seen, world}
use Rattle.address_sim.proofs.Polling.{WaitsSo}
use Rattle.address_sim.proofs.run.Run.wait_out.Given as goal

abbrev pub invariant-loop-left : goal.invariant-loop-left
invariant-loop-left l = record {
  waits : WaitsSo (seen l.fn.self) (seen l.self) l.left l.wait_ms;
  calm : IsCalm (world l.self);
  room : HasRoom (3 * l.left + 1) l.self;
}

abbrev pub decreases-loop-left : goal.decreases-loop-left
decreases-loop-left l = l.left
