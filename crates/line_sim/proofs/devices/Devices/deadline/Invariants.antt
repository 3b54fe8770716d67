use Rattle.std.proofs.Common.{◌-◌, ◌≤◌}
use Rattle.line_sim.proofs.Nearest.{IsNearestBefore}
use Rattle.line_sim.proofs.devices.Devices.deadline.Given as goal

-- of the devices before this part it is the nearest
abbrev pub invariant-loop-next : goal.invariant-loop-next
invariant-loop-next l = record {
  within : l.part ≤ 256;
  nearest : IsNearestBefore l.self.places l.part l.nearest;
}

abbrev pub decreases-loop-next : goal.decreases-loop-next
decreases-loop-next l = 256 - l.part
