use Rattle.std.proofs.Common.{rules}
use Rattle.std.specs.List.Sorted.{IsStrictlyIncreasing}
use Rattle.std.proofs.lemmas.List.Elements.{All-cons}
use Rattle.turn_cell.proofs.Keeps.{holds_some, closes_as}
use Rattle.turn_cell.proofs.turn.Turn.close.Goals as goal

pub unreachable-requires : goal.unreachable-requires
unreachable-requires g c = let h = holds_some g.S.Logged.list _ _ _ _ _ _ c.close_with-closed.ensures.values.2 c.take-slot.ensures.value (search rules) (search rules) in c.in_default.not-Some h.0 h.1

pub returns-clause-opening : goal.returns-clause-opening
returns-clause-opening g c = let h = closes_as g.S.Logged.list _ _ _ _ _ _ _ c.close_with-closed.ensures.values.2 c.take-slot.ensures.value c.in-Some.is (search rules) (search rules) in rw (← c.self.view_is) h.origin

pub returns-clause-seen : goal.returns-clause-seen
returns-clause-seen g c = let h = closes_as g.S.Logged.list _ _ _ _ _ _ _ c.close_with-closed.ensures.values.2 c.take-slot.ensures.value c.in-Some.is (search rules) (search rules) in rw (← c.seat.view_is) h.seen

pub returns-clause-once : goal.returns-clause-once
returns-clause-once g c = let h = closes_as g.S.Logged.list _ _ _ _ _ _ _ c.close_with-closed.ensures.values.2 c.take-slot.ensures.value c.in-Some.is (search rules) (search rules) in rw (← c.self.view_is, ← c.seat.view_is) h.stand

pub returns-clause-order : goal.returns-clause-order
returns-clause-order g c = rw (← c.seat.view_is) (All-cons IsStrictlyIncreasing c.seat.inside.inner.me.0.mine c.seat.inside.inner.me.0.olds c.seat.invariant.mine_rise c.seat.invariant.olds_rise)
