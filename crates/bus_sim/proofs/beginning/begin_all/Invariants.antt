use Rattle.std.proofs.Common.{◌≡◌, ◌≤◌, length, drop}
use Rattle.line_model.specs.Lines.{Script}
use Rattle.line_model.specs.StartOf.{line_of}
use Rattle.line_sim.specs.Places.{AreDevices}
use Rattle.script_index.specs.Stands.{StandsFor}
use Rattle.bus_sim.specs.Begun.{device_begun}
use Rattle.bus_sim.proofs.beginning.begin_all.Given as goal

abbrev pub invariant-loop-at : goal.invariant-loop-at
invariant-loop-at l = record {
  within : l.at ≤ length l.devices;
  line : l.made.line ≡ line_of l.fn.tunnel.raw;
  devices : (script : Script) → StandsFor l.index script → AreDevices l.made (device_begun script (drop l.at l.devices));
}

abbrev pub decreases-loop-at : goal.decreases-loop-at
decreases-loop-at l = l.at
