use Rattle.std.proofs.Common.{◌<◌, ℕ}
use Rattle.std.specs.Prelude.{slice_get}
use Rattle.address_sim.specs.Units.{IsNotDueAt}
use Rattle.address_sim.proofs.units.Units.first_due.Given as goal

-- none of the places before has one
abbrev pub invariant-loop-place : goal.invariant-loop-place
invariant-loop-place l = (k : ℕ) → k < l.place → IsNotDueAt (slice_get l.self.answers.items k)
