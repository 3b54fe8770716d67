use Rattle.std.proofs.Common.{rules, ◌≡◌, ◌+◌, ◌-◌, ◌%◌, ◌^◌, ℕ, sym, ap, ◌∙◌, Some, List, ◌∷◌}
use Rattle.atomic_table.specs.Table.{Me, rest}
use Rattle.turn_cell.specs.Seats.{Seated}
use Rattle.turn_cell.proofs.Keeps.{may_take, may_sleep}
use Rattle.turn_cell.proofs.AtRest.{take_rests}
use Rattle.turn_cell.proofs.turn.Turn.take.Goals as goal

-- the slot that was taken comes first
taken : {T V : Type 0} (m m' : Me T V) (v : V) (x : T) → m' ≡ (v, (0, x) ∷ m.1) → m'.1 ≡ (0, x) ∷ rest m'.1
taken {T} {V} m m2 v x e = let f = ap (λ (z : Me T V). z.1) e in f ∙ ap (λ (l : List (ℕ × T)). (0, x) ∷ l) (sym (ap rest f))

pub compare_exchange-requires : goal.compare_exchange-requires
compare_exchange-requires g c = (search rules, search rules, may_take _ _ _ _ _ (search rules) (search rules))

pub exchange-requires : goal.exchange-requires
exchange-requires g c = let t = c.compare_exchange.ensures.2.0 c.if-compare_exchange-eq-FREE.true in (search rules, (Some t.0, taken c.loop.seat-inside.inner.me c.compare_exchange.new.seat.me _ (Some t.0) t.1))

pub invariant_of-seat : goal.invariant_of-seat
invariant_of-seat g c = let t = c.compare_exchange.ensures.2.0 c.if-compare_exchange-eq-FREE.true in
    take_rests c.seat.inside.inner.me c.loop.seat-inside.inner.me c.compare_exchange.new.seat.me c.exchange.new.seat.me _ (Some t.0) c.seat.invariant (ap (λ (s : Seated g.row.S-Entry.Denot). s.turn) c.seat.view_is ∙ c.requires.free) c.loop.invariant.3 t.1 t.2 c.exchange.ensures.3

pub fetch_add-requires : goal.fetch_add-requires
fetch_add-requires g c = (search rules, search rules, may_sleep _ _ _ _ _ (λ (n : ℕ). (n + 1) % 2 ^ 64))

pub fetch_sub-requires : goal.fetch_sub-requires
fetch_sub-requires g c = (search rules, search rules, may_sleep _ _ _ _ _ (λ (n : ℕ). (n + (2 ^ 64 - 1)) % 2 ^ 64))
