use Rattle.std.proofs.Common.{◌≡◌, ◌||◌, ◌&&◌, ℕ, ◌<◌, false, nat_le, nat_lt, length, get_or}
use Rattle.catalogue.proofs.taken.take_bits.Given as goal

-- the bits before the place are taken too
abbrev pub invariant-loop-place : goal.invariant-loop-place
invariant-loop-place l = (b : ℕ) → b < length l.taken → get_or l.taken b false ≡ (get_or l.fn.taken b false || (nat_le l.bit b && nat_lt b l.place))
