use Rattle.std.proofs.Common.{◌≡◌, ◌-◌, ℕ, ◌+◌, ◌≤◌, length, take}
use Rattle.std.specs.List.{list_any}
use Rattle.device_tables.specs.Objects.{holds}
use Rattle.device_tables.specs.Index.{is_of, how_many}
use Rattle.device_tables.proofs.index.TableIndex.objects_from.Given as goal

-- the objects of the pairs that were looked at, one step each
abbrev pub invariant-loop-at : goal.invariant-loop-at
invariant-loop-at g l = record {
  behind : l.first ≤ l.at;
  within : l.at ≤ length l.self;
  found : (o : ℕ) → holds l.objects o ≡ list_any (is_of l.group.raw o) (take l.at l.self);
  each : how_many l.objects + l.first ≡ l.at;
  steps : l.steps + l.first ≡ l.fn.steps + l.at;
}

abbrev pub decreases-loop-at : goal.decreases-loop-at
decreases-loop-at g l = length l.self - l.at
