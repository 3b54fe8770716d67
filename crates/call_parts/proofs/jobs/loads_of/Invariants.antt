use Rattle.std.proofs.Common.{◌≡◌, ◌++◌, drop, map}
use Rattle.call_parts.specs.Jobs.{load_of}
use Rattle.call_parts.proofs.jobs.loads_of.Given as goal

-- the loads so far, before those of the devices that are left
abbrev pub invariant-loop-device : goal.invariant-loop-device
invariant-loop-device l = l.jobs ++ map load_of (drop l.device-index l.devices) ≡ map load_of l.devices
