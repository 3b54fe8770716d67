use Rattle.std.proofs.Common.{◌-◌, ◌^◌, length}
use Rattle.address_sim.specs.Turns.{SameRecord, seen}
use Rattle.address_sim.proofs.run.Run.settle.Given as goal

abbrev pub invariant-loop-self : goal.invariant-loop-self
invariant-loop-self l = SameRecord (seen l.fn.self) (seen l.self)

abbrev pub decreases-loop-self : goal.decreases-loop-self
decreases-loop-self l = 2 ^ 63 - length l.self.events
