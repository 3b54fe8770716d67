-- Which jobs of a reservation have no end yet, and how many entries of the log are still to come of each: one when it is taken, and one when it ends.
use Rattle.std.specs.Prelude.{ℕ, Bool, true, false}
use Rattle.device_reservation.specs.declared.stage.Stage.{Stage}
use Rattle.device_reservation.specs.declared.stage.Stage.TheVariants.{Untaken, Held, Over}

abbrev pub is_unfinished : Stage → Bool
is_unfinished Untaken = true
is_unfinished (Held worker) = true
is_unfinished Over = false

abbrev pub entries_to_come : Stage → ℕ
entries_to_come Untaken = 2
entries_to_come (Held worker) = 1
entries_to_come Over = 0
