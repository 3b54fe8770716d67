use Rattle.std.proofs.Common.{rules, ap, ◌∙◌, sym, subst}
use mathlib.Core.List.{IsPrefix}
use Rattle.turn_cell.specs.Seats.{Seated}
use Rattle.turn_cell.proofs.Keeps.{may_release, may_publish}
use Rattle.turn_cell.proofs.AtRest.{give_rests}
use Rattle.turn_cell.proofs.turn.Turn.give.Goals as goal

pub store-requires : goal.store-requires
store-requires g c = (search rules, search rules, may_publish _ _ _ _ _ c.args.state _ (search rules) (search rules) (search rules) (search rules) (search rules))

pub store-requires-2 : goal.store-requires-2
store-requires-2 g c = (search rules, search rules, may_release _ _ _ _ _ c.args.state (search rules) (search rules) (search rules) (search rules))

pub invariant_of-seat : goal.invariant_of-seat
invariant_of-seat g c = give_rests g.S.Logged.list c.seat.inside.inner.me c.exchange-before.new.seat.me c.store.new.seat.me c.store-2.new.seat.me c.args.state c.seat.invariant
    (ap (λ (s : Seated g.row.S-Entry.Denot). s.turn) c.seat.view_is ∙ c.requires.turn) (subst (λ (s : Seated g.row.S-Entry.Denot). IsPrefix s.seen (g.S.Logged.list c.args.state)) (sym c.seat.view_is) c.requires.grown)
    c.exchange-before.ensures.3 c.store.ensures.2 c.store-2.ensures.2
