use Rattle.std.proofs.Common.{◌≡◌, ℕ, ◌≤◌, length, drop, nat_cmp}
use Rattle.std.specs.BTreeMap.{get}
use Rattle.line_model.specs.Lines.{script_of, refuses}
use Rattle.script_index.proofs.index.refused_of.Given as goal

-- what the lines from this one on refuse
abbrev pub invariant-loop-at : goal.invariant-loop-at
invariant-loop-at l = record {
  within : l.at ≤ length l.lines;
  said : (n : ℕ) → get nat_cmp l.refused n ≡ refuses (script_of (drop l.at l.lines)) n;
}

abbrev pub decreases-loop-at : goal.decreases-loop-at
decreases-loop-at l = l.at
