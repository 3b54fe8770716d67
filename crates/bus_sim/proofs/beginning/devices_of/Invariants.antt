use Rattle.std.proofs.Common.{◌≡◌, take}
use Rattle.bus_sim.proofs.beginning.devices_of.Given as goal

abbrev pub invariant-loop-address : goal.invariant-loop-address
invariant-loop-address l = l.made ≡ take l.address-index l.devices
