use Rattle.std.proofs.Common.{◌≡◌, ◌-◌, ◌^◌, length}
use Rattle.bus_sim.proofs.Playing.{PlaysUntil}
use Rattle.bus_sim.proofs.run.Run.play.Given as goal

abbrev pub invariant-loop-letter : goal.invariant-loop-letter
invariant-loop-letter g l = record {
  plays : PlaysUntil l.left l.wait l.fn.self l.self (g.P.Port.story l.fn.port) (g.P.Port.story l.port);
  counts : g.P.Port.faults l.port ≡ g.P.Port.faults l.fn.port;
}

abbrev pub decreases-loop-letter : goal.decreases-loop-letter
decreases-loop-letter g l = 2 ^ 63 - length l.self.events
