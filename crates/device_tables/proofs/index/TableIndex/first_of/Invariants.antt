use Rattle.std.proofs.Common.{◌-◌, ℕ, ◌+◌, ◌*◌, ◌^◌, ◌<◌, ◌≤◌, length, get_or}
use Rattle.device_tables.proofs.index.TableIndex.first_of.Given as goal

-- the pairs before `low` are below the group, and those from `high` on aren't
abbrev pub invariant-loop-low : goal.invariant-loop-low
invariant-loop-low g l = record {
  order : l.low ≤ l.high;
  within : l.high ≤ length l.self;
  below : (k : ℕ) (d : ℕ × ℕ) → k < l.low → (get_or l.self k d).0 < l.group.raw;
  from : (k : ℕ) (d : ℕ × ℕ) → l.high ≤ k → k < length l.self → l.group.raw ≤ (get_or l.self k d).0;
  rises : l.fn.steps ≤ l.steps;
  narrows : 2 ^ (l.steps - l.fn.steps) * (l.high - l.low) ≤ length l.self;
  few : 2 ^ (l.steps - l.fn.steps) ≤ 2 * length l.self + 1;
}

abbrev pub decreases-loop-low : goal.decreases-loop-low
decreases-loop-low g l = l.high - l.low
