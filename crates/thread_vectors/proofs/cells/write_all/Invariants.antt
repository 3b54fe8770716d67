use Rattle.std.proofs.Common.{◌≡◌, false}
use Rattle.thread_vectors.proofs.cells.write_all.Given as goal

abbrev pub invariant-loop : goal.invariant-loop
invariant-loop g l = (l.seat.cell ≡ l.initial.seat.cell) × (l.seat.turn ≡ false) × (l.seat.parts ≡ l.initial.seat.parts)
