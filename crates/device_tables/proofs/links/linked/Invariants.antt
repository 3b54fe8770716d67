use Rattle.std.proofs.Common.{◌≡◌, ℕ, ◌-◌, ◌≤◌, ◌&&◌, take, length}
use Rattle.std.specs.List.{list_any}
use Rattle.knx_model.specs.Acts.{addresses, pairs, is_pair_of, is_object_number}
use Rattle.device_tables.specs.Objects.{holds}
use Rattle.device_tables.proofs.links.linked.Given as goal

-- the objects that the pairs so far name
abbrev pub invariant-loop-pair : goal.invariant-loop-pair
invariant-loop-pair l = record {
  within : l.at ≤ length (pairs l.assoc);
  noted : (o : ℕ) → holds l.objects o ≡ (is_object_number o && list_any (is_pair_of (addresses l.addr) l.group.raw o) (take l.at (pairs l.assoc)));
}

abbrev pub decreases-loop-pair : goal.decreases-loop-pair
decreases-loop-pair l = length (pairs l.assoc) - l.at
