use Rattle.std.proofs.Common.{◌≡◌, take}
use Rattle.bus_sim.specs.Begun.{addresses}
use Rattle.bus_sim.proofs.beginning.addresses_of.Given as goal

abbrev pub invariant-loop-address : goal.invariant-loop-address
invariant-loop-address l = l.made ≡ addresses (take l.address-index l.devices)
