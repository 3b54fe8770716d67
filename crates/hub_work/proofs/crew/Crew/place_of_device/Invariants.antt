use Rattle.std.proofs.Common.{◌≡◌, ◌<◌, ℕ, false}
use Rattle.hub_work.specs.Books.{held_at, is_of_device}
use Rattle.hub_work.proofs.crew.Crew.place_of_device.Given as goal

-- none of the workers so far holds it
abbrev pub invariant-loop-place : goal.invariant-loop-place
invariant-loop-place l = (k : ℕ) → k < l.place → is_of_device l.device (held_at l.self k) ≡ false
