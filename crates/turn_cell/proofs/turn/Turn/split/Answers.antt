use Rattle.std.proofs.Common.{rules, ◌≡◌, ◌≤◌, ap, arith}
use Rattle.turn_cell.specs.Seats.{Seated}
use Rattle.turn_cell.proofs.Keeps.{may_split}
use Rattle.turn_cell.proofs.AtRest.{rests_left, rests_right}
use Rattle.turn_cell.proofs.turn.Turn.split.Goals as goal

pub split_seat-requires : goal.split_seat-requires
split_seat-requires g c = let same : c.seat.inside.inner.me.0.parts ≡ c.args.seat.now.parts = ap (λ (s : Seated g.row.S-Entry.Denot). s.parts) c.seat.view_is in
    let two : 2 ≤ c.seat.inside.inner.me.0.parts = omega arith in (search rules, search rules, may_split _ _ _ _ two)

pub invariant_of-seat : goal.invariant_of-seat
invariant_of-seat g c = let same : c.seat.inside.inner.me.0.parts ≡ c.args.seat.now.parts = ap (λ (s : Seated g.row.S-Entry.Denot). s.parts) c.seat.view_is in
    rests_left c.seat.inside.inner.me c.split_seat.new.seat.me c.seat.invariant (omega arith) c.split_seat.ensures.2

pub invariant_of-result : goal.invariant_of-result
invariant_of-result g c = rests_right c.seat.inside.inner.me c.split_seat.result.me c.split_seat.ensures.4
