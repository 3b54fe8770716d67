use Rattle.std.proofs.Common.{◌≡◌, ◌≤◌}
use Rattle.line_model.specs.Serving.{quiet_turns}
use Rattle.bus_sim.proofs.Serves.{ServesUntil}
use Rattle.bus_sim.proofs.run.Run.serve.Given as goal

abbrev pub invariant-loop-left : goal.invariant-loop-left
invariant-loop-left g l = record {
  serves : ServesUntil l.quiet l.left l.turns l.fn.self l.self (g.P.Port.story l.fn.port) (g.P.Port.story l.port);
  most : l.quiet ≤ quiet_turns;
  counts : g.P.Port.faults l.port ≡ g.P.Port.faults l.fn.port;
}

abbrev pub decreases-loop-left : goal.decreases-loop-left
decreases-loop-left g l = l.left
