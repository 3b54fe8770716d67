use Rattle.std.proofs.Common.{◌≡◌, ◌<◌, ◌≤◌, ℕ, take, slice_index_or}
use Rattle.device_sim.specs.declared.brought.Brought.TheVariants.{NotTaken}
use Rattle.line_sim.specs.Group.{brought_there}
use Rattle.line_sim.specs.Places.{device_in}
use Rattle.line_sim.proofs.devices.Devices.bring_to_all.Given as goal

-- the places before this part are as they were, and the others have got what was brought
abbrev pub invariant-loop-part : goal.invariant-loop-part
invariant-loop-part l = record {
  line : l.self.line ≡ l.fn.self.line;
  left : l.left.items ≡ take l.part l.fn.brought.items;
  before : (k : ℕ) → k < l.part → device_in l.self.places k ≡ device_in l.fn.self.places k;
  behind : (k : ℕ) → l.part ≤ k → k < 256 → device_in l.self.places k ≡ brought_there l.fn.frame (device_in l.fn.self.places k) (slice_index_or l.fn.brought.items k NotTaken);
}
