use Rattle.std.proofs.Common.{◌≡◌, ℕ, ◌-◌, ◌≤◌, ◌&&◌, length, take, vec_len, vec_capacity}
use Rattle.std.specs.List.{list_any}
use Rattle.knx_model.specs.Acts.{addresses, pairs, is_pair_of, is_object_number}
use Rattle.device_tables.specs.Index.{is_paired}
use Rattle.device_tables.proofs.index.collect.Given as goal

-- what the pairs so far link
abbrev pub invariant-loop-pair : goal.invariant-loop-pair
invariant-loop-pair l = record {
  within : l.at ≤ length (pairs l.assoc);
  few : vec_len l.index ≤ l.at;
  room : vec_capacity l.fn.index ≤ vec_capacity l.index;
  noted : (group object : ℕ) → is_paired l.index.items group object ≡ (is_object_number object && list_any (is_pair_of (addresses l.addr) group object) (take l.at (pairs l.assoc)));
}

abbrev pub decreases-loop-pair : goal.decreases-loop-pair
decreases-loop-pair l = length (pairs l.assoc) - l.at
