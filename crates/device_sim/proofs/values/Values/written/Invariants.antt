use Rattle.std.proofs.Common.{◌≡◌, map, if◌then◌else◌, Some}
use Rattle.std.specs.List.{range_with_len}
use Rattle.device_tables.specs.Objects.{holds}
use Rattle.knx_model.specs.DeviceState.{slot}
use Rattle.device_sim.proofs.Slots.{AreInRange}
use Rattle.device_sim.proofs.values.Values.written.Given as goal

-- the slots so far
abbrev pub invariant-loop-object : goal.invariant-loop-object
invariant-loop-object l = record {
  slots : l.slots.items ≡ map (λ o. if holds l.objects o then Some l.value else slot l.self o) (range_with_len 0 l.object);
  range : AreInRange l.slots.items;
}
