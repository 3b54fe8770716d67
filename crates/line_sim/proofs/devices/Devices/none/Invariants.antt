use Rattle.std.proofs.Common.{◌≡◌, ℕ, length, slice_index_or, None}
use Rattle.line_sim.proofs.devices.Devices.none.Given as goal

abbrev pub invariant-loop-part : goal.invariant-loop-part
invariant-loop-part l = record {
  len : length l.places.items ≡ l._part;
  empty : (k : ℕ) → slice_index_or l.places.items k None ≡ None;
}
