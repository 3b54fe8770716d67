use Rattle.std.proofs.Common.{◌≡◌, ◌<◌, ℕ, length, option_to_list, slice_index_or}
use Rattle.device_sim.specs.declared.brought.Brought.TheVariants.{NotTaken}
use Rattle.line_sim.specs.Group.{IsBroughtAt}
use Rattle.line_sim.proofs.devices.Devices.brought_to_all.Given as goal

abbrev pub invariant-loop-part : goal.invariant-loop-part
invariant-loop-part l = record {
  count : length l.brought.items ≡ l.part;
  each : (k : ℕ) → k < l.part → IsBroughtAt l.self (option_to_list l.without) l.frame k (slice_index_or l.brought.items k NotTaken);
}
