use Rattle.std.proofs.Common.{◌≡◌, ℕ, ◌<◌, ◌≤◌, false}
use Rattle.std.specs.Prelude.{slice_get}
use Rattle.network_sim.specs.Arriving.{goes_first}
use Rattle.network_sim.specs.Window.{at_sent}
use Rattle.network_sim.proofs.oldest.oldest_first.Given as goal

-- none of the older ones goes first
abbrev pub invariant-loop-age : goal.invariant-loop-age
invariant-loop-age l = (k : ℕ) → l.age ≤ k → k < l.most → at_sent (goes_first l.reach l.made) (slice_get l.kept.items k) ≡ false
