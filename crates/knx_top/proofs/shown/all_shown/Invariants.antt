use Rattle.std.proofs.Common.{take}
use Rattle.bus_sim.specs.RunNow.{world}
use Rattle.knx_top.specs.Shown.{AreShownOf}
use Rattle.knx_top.proofs.shown.all_shown.Given as goal

-- the devices so far are shown
abbrev pub invariant-loop-device : goal.invariant-loop-device
invariant-loop-device l = AreShownOf (world l.line.run) l.all (take l.device-index l.devices)
