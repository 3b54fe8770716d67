use Rattle.std.proofs.Common.{◌≡◌, ◌<◌, ◌-◌, ◌≤◌, ℕ, None}
use Rattle.line_sim.specs.Places.{device_in, sending_at}
use Rattle.line_sim.proofs.devices.Devices.next_sender.Given as goal

-- the devices before this part have nothing to send
abbrev pub invariant-loop-next : goal.invariant-loop-next
invariant-loop-next l = record {
  within : l.part ≤ 256;
  none : (k : ℕ) → k < l.part → sending_at (device_in l.self.places k) l.now ≡ None;
}

abbrev pub decreases-loop-next : goal.decreases-loop-next
decreases-loop-next l = 256 - l.part
