use Rattle.std.proofs.Common.{◌≡◌, ℕ, ◌<◌, ◌≤◌, ◌-◌, length, get_or}
use Rattle.device_reservation.proofs.bits.next_word.Given as goal

-- the words so far are empty
abbrev pub invariant-loop-at : goal.invariant-loop-at
invariant-loop-at l = record {
  within : l.at ≤ length l.words;
  later : l.from ≤ l.at;
  empty : (k : ℕ) → l.from ≤ k → k < l.at → get_or l.words k 0 ≡ 0;
}

abbrev pub decreases-loop-at : goal.decreases-loop-at
decreases-loop-at l = length l.words - l.at
