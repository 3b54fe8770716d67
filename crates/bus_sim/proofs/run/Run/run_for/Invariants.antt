use Rattle.std.proofs.Common.{◌≡◌, ◌+◌, ◌-◌, ◌^◌, length}
use Rattle.line_model.specs.World.{now}
use Rattle.bus_sim.specs.Polls.{GoesOnFrom}
use Rattle.bus_sim.specs.Went.{world}
use Rattle.bus_sim.proofs.run.Run.run_for.Given as goal

abbrev pub invariant-loop-letter : goal.invariant-loop-letter
invariant-loop-letter l = GoesOnFrom l.fn.self l.self × (now (world l.self) + l.left ≡ now (world l.fn.self) + l.wait)

abbrev pub decreases-loop-letter : goal.decreases-loop-letter
decreases-loop-letter l = 2 ^ 63 - length l.self.events
