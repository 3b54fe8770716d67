use Rattle.std.proofs.Common.{◌≡◌, ◌+◌, ◌-◌, ◌^◌, length}
use Rattle.line_model.specs.World.{now}
use Rattle.bus_sim.specs.Polls.{GoesOnFrom}
use Rattle.bus_sim.specs.Went.{world}
use Rattle.bus_sim.proofs.run.Run.run_to_end.Given as goal

abbrev pub invariant-loop-left : goal.invariant-loop-left
invariant-loop-left l = GoesOnFrom l.fn.self l.self × (now (world l.self) + l.left ≡ now (world l.fn.self) + l.wait)

abbrev pub decreases-loop-left : goal.decreases-loop-left
decreases-loop-left l = 2 ^ 63 - length l.self.events
