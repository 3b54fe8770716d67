use Rattle.std.proofs.Common.{◌≡◌, ℕ, ◌<◌, ◌≤◌, false, get_or}
use Rattle.catalogue.proofs.taken.is_any_taken.Given as goal

-- no bit before the place is taken
abbrev pub invariant-loop-place : goal.invariant-loop-place
invariant-loop-place l = (b : ℕ) → l.bit ≤ b → b < l.place → get_or l.taken b false ≡ false
