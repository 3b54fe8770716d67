use Rattle.bus_sim.specs.Begun.{CanLoad}
use Rattle.line_model.specs.StartOf.{default_tunnel}
use Rattle.line_runs.proofs.load.blank.Given as goal

abbrev pub invariant-loop-device : goal.invariant-loop-device
invariant-loop-device l = CanLoad default_tunnel l.devices.items
