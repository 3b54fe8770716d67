use Rattle.std.proofs.Common.{◌≡◌, ℕ, ◌<◌, ◌≤◌, false}
use Rattle.std.specs.Prelude.{slice_get}
use Rattle.network_sim.specs.Window.{at_sent, is_waiting}
use Rattle.network_sim.proofs.oldest.up_to_oldest_waiting.Given as goal

-- none of the older ones waits
abbrev pub invariant-loop-age : goal.invariant-loop-age
invariant-loop-age l = (k : ℕ) → l.age ≤ k → k < l.most → at_sent is_waiting (slice_get l.kept.items k) ≡ false
