use Rattle.std.proofs.Common.{◌≡◌, take}
use Rattle.knx_model.specs.DeviceFrames.{complements}
use Rattle.device_sim.proofs.wear.complements.Given as goal

-- the complements of the octets so far
abbrev pub invariant-loop-octet : goal.invariant-loop-octet
invariant-loop-octet l = l.all ≡ complements (take l.octet-index l.octets)
