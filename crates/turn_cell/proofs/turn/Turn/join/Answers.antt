use Rattle.std.proofs.Common.{rules, ap, ◌∙◌}
use Rattle.turn_cell.specs.Seats.{Seated}
use Rattle.turn_cell.proofs.Keeps.{may_look, may_join}
use Rattle.turn_cell.proofs.AtRest.{join_rests}
use Rattle.turn_cell.proofs.turn.Turn.join.Goals as goal

pub join_seat-requires : goal.join_seat-requires
join_seat-requires g c = (search rules, search rules, search rules, search rules, may_join _ _ _ _ _ _ (search rules) (ap (λ (s : Seated g.row.S-Entry.Denot). s.turn) c.other.view_is ∙ c.requires.free))

pub load-requires : goal.load-requires
load-requires g c = (search rules, search rules, may_look _ _ _ _ _)

pub invariant_of-seat : goal.invariant_of-seat
invariant_of-seat g c = join_rests c.seat.inside.inner.me c.other.inside.inner.me c.join_seat.new.seat.me c.load.new.seat.me _ c.seat.invariant c.other.invariant c.join_seat.ensures.2 c.load.ensures.2
