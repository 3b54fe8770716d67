-- A seat is at rest again after each call.
use Rattle.std.proofs.Common.{◌≡◌, ℕ, ◌+◌, ◌-◌, ◌≤◌, Bool, true, false, cond, List, [], ◌∷◌, length, refl, ap, sym, ◌∙◌, subst, arith, Option, Some, None}
use Rattle.std.specs.List.Sorted.{IsStrictlyIncreasing}
use Rattle.std.proofs.lemmas.List.Elements.{All-append, All-cons}
use mathlib.Core.List.{IsPrefix}
use Rattle.atomic_table.specs.Table.{rest}
use Rattle.turn_cell.specs.Kept.{Mine, both, left, right, with_list, Looked, IsAtRest}
use Rattle.turn_cell.proofs.Sums.{prefix_length, rise_on, below_on}

module _ {T E : Type 0} where
  -- the slot of a seat at rest that has the turn, and of one that hasn't
  out_slot : (m : Mine T E) → IsAtRest m → m.0.turn ≡ true → m.1 ≡ (0, None) ∷ []
  out_slot m r turn = r.slot ∙ ap (λ (b : Bool). cond b ((0, None) ∷ []) []) turn

  no_slot : (m : Mine T E) → IsAtRest m → m.0.turn ≡ false → m.1 ≡ []
  no_slot m r free = r.slot ∙ ap (λ (b : Bool). cond b ((0, None) ∷ []) []) free

  abbrev after_take : Mine T E → List E → Mine T E
  after_take m xs = (record m.0 { turn = true; seen = xs }, (0, None) ∷ m.1)

  -- the turn was taken, and then the state came out
  taken_is : (m m₁ m₂ : Mine T E) (xs : List E) (o : Option T) → m₁ ≡ (record m.0 { turn = true; seen = xs }, (0, o) ∷ m.1) → m₂ ≡ (m₁.0, (0, None) ∷ rest m₁.1) → m₂ ≡ after_take m xs
  taken_is m m₁ m₂ xs o first then = then ∙ ap (λ (z : Mine T E). let y : Mine T E = (z.0, (0, None) ∷ rest z.1) in y) first

  rests_taken : (m m₂ : Mine T E) (xs : List E) → IsAtRest m → m.0.turn ≡ false → IsPrefix m.0.seen xs → m₂ ≡ after_take m xs → IsAtRest m₂
  rests_taken m m₂ xs r free begins is = let after : IsAtRest (after_take m xs) = record {
    some_part = r.some_part;
    nothing_told = r.nothing_told;
    slot = ap (λ (l : List (ℕ × Option T)). (0, None) ∷ l) (no_slot m r free);
    mine_rise = r.mine_rise;
    mine_seen = λ k h. let a = r.mine_seen k h in let b = prefix_length m.0.seen xs begins in omega arith;
    olds_rise = r.olds_rise;
  } in subst IsAtRest (sym is) after

  abbrev after_give : Mine T E → List E → Mine T E
  after_give m xs = (record (with_list xs m.0) { turn = false }, rest m.1)

  -- the state went in, its list was published, and the turn was released
  given_is : (m m₁ m₂ m₃ : Mine T E) (xs : List E) (x : Option T) → m₁ ≡ (m.0, (0, x) ∷ rest m.1) → m₂ ≡ (with_list xs m₁.0, m₁.1) → m₃ ≡ (record m₂.0 { turn = false }, rest m₂.1) → m₃ ≡ after_give m xs
  given_is m m₁ m₂ m₃ xs x first then last = last ∙ ap (λ (z : Mine T E). let y : Mine T E = (record z.0 { turn = false }, rest z.1) in y) (then ∙ ap (λ (z : Mine T E). let y : Mine T E = (with_list xs z.0, z.1) in y) first)

  rests_given : (m m₃ : Mine T E) (xs : List E) → IsAtRest m → m.0.turn ≡ true → IsPrefix m.0.seen xs → m₃ ≡ after_give m xs → IsAtRest m₃
  rests_given m m₃ xs r turn begins is = let a : ℕ = length m.0.seen in let n : ℕ = length xs - a in let b = prefix_length m.0.seen xs begins in let s : a + n ≡ length xs = omega arith in
      let after : IsAtRest (after_give m xs) = record {
        some_part = r.some_part;
        nothing_told = r.nothing_told;
        slot = ap rest (out_slot m r turn);
        mine_rise = rise_on m.0.mine a n r.mine_seen r.mine_rise;
        mine_seen = λ k h. let c = below_on m.0.mine a n r.mine_seen k h in omega arith;
        olds_rise = r.olds_rise;
      } in subst IsAtRest (sym is) after

  -- all that was told has been looked at
  abbrev Quiet : Mine T E → Mine T E
  Quiet m = (record m.0 { told = [] }, m.1)

  quiet : (m : Mine T E) → IsAtRest m → IsAtRest (Quiet m)
  quiet m r = record { some_part = r.some_part; nothing_told = refl; slot = r.slot; mine_rise = r.mine_rise; mine_seen = r.mine_seen; olds_rise = r.olds_rise }

  rests_looked : (m m' : Mine T E) (r : ℕ) → IsAtRest (Quiet m) → Looked m r m' → IsAtRest m'
  rests_looked m m' r q look = let after : IsAtRest (record m.0 { seen = look.log; told = [] }, m.1) = record {
    some_part = q.some_part;
    nothing_told = refl;
    slot = q.slot;
    mine_rise = q.mine_rise;
    mine_seen = λ k h. let a = q.mine_seen k h in let b = prefix_length m.0.seen look.log look.begins in omega arith;
    olds_rise = q.olds_rise;
  } in subst IsAtRest (sym look.after) after

  quiet_joined : (m w m₁ : Mine T E) → IsAtRest m → IsAtRest w → m₁ ≡ (both m.0 w.0, m.1) → IsAtRest (Quiet m₁)
  quiet_joined m w m₁ r q is = let after : IsAtRest (Quiet (both m.0 w.0, m.1)) = record {
    some_part = let a = r.some_part in omega arith;
    nothing_told = refl;
    slot = r.slot;
    mine_rise = r.mine_rise;
    mine_seen = r.mine_seen;
    olds_rise = All-append IsStrictlyIncreasing m.0.olds (w.0.mine ∷ w.0.olds) r.olds_rise (All-cons IsStrictlyIncreasing w.0.mine w.0.olds q.mine_rise q.olds_rise);
  } in subst (λ (z : Mine T E). IsAtRest (Quiet z)) (sym is) after

  pub rests_left : (m m' : Mine T E) → IsAtRest m → 2 ≤ m.0.parts → m' ≡ (left m.0, m.1) → IsAtRest m'
  rests_left m m' r two is = let after : IsAtRest (left m.0, m.1) = record {
    some_part = omega arith;
    nothing_told = r.nothing_told;
    slot = r.slot;
    mine_rise = r.mine_rise;
    mine_seen = r.mine_seen;
    olds_rise = r.olds_rise;
  } in subst IsAtRest (sym is) after

  pub rests_right : (m m' : Mine T E) → m' ≡ (right m.0, []) → IsAtRest m'
  rests_right m m' is = let after : IsAtRest (right m.0, []) = record {
    some_part = omega arith;
    nothing_told = refl;
    slot = refl;
    mine_rise = λ k h. absurd (omega arith);
    mine_seen = λ k h. absurd (omega arith);
    olds_rise = λ k d h. absurd (omega arith);
  } in subst IsAtRest (sym is) after

  -- the steps of `take`, of `give` and of `join`, one after another
  pub take_rests : (m₀ m m₁ m₂ : Mine T E) (xs : List E) (o : Option T) → IsAtRest m₀ → m₀.0.turn ≡ false → m ≡ m₀ → m₁ ≡ (record m.0 { turn = true; seen = xs }, (0, o) ∷ m.1) → IsPrefix m.0.seen xs
      → m₂ ≡ (m₁.0, (0, None) ∷ rest m₁.1) → IsAtRest m₂
  take_rests m₀ m m₁ m₂ xs o r free same first begins then = rests_taken m m₂ xs (subst IsAtRest (sym same) r) (ap (λ (z : Mine T E). z.0.turn) same ∙ free) begins (taken_is m m₁ m₂ xs o first then)

  pub give_rests : (list : T → List E) (m m₁ m₂ m₃ : Mine T E) (x : T) → IsAtRest m → m.0.turn ≡ true → IsPrefix m.0.seen (list x) → m₁ ≡ (m.0, (0, Some x) ∷ rest m.1)
      → ((y : T) → m₁.1 ≡ (0, Some y) ∷ [] → m₂ ≡ (with_list (list y) m₁.0, m₁.1)) → m₃ ≡ (record m₂.0 { turn = false }, rest m₂.1) → IsAtRest m₃
  give_rests list m m₁ m₂ m₃ x r turn begins first then last = let slot : m₁.1 ≡ (0, Some x) ∷ [] = ap (λ (z : Mine T E). z.1) first ∙ ap (λ (l : List (ℕ × Option T)). (0, Some x) ∷ rest l) (out_slot m r turn) in
      rests_given m m₃ (list x) r turn begins (given_is m m₁ m₂ m₃ (list x) (Some x) first (then x slot) last)

  pub join_rests : (m w m₁ m₂ : Mine T E) (r : ℕ) → IsAtRest m → IsAtRest w → m₁ ≡ (both m.0 w.0, m.1) → Looked m₁ r m₂ → IsAtRest m₂
  join_rests m w m₁ m₂ r a b first look = rests_looked m₁ m₂ r (quiet_joined m w m₁ a b first) look
