use Rattle.std.proofs.Common.{◌≡◌}
use Rattle.turn_cell.proofs.turn.Turn.take.Given as goal

abbrev pub invariant-loop : goal.invariant-loop
invariant-loop g l = (goal.iterator-loop g).can_next l.iterator' × (goal.iterator-loop g).is_finite l.iterator' × (l.seat-inside.inner.table_id ≡ l.initial.seat-inside.inner.table_id) × (l.seat-inside.inner.me ≡ l.initial.seat-inside.inner.me)
