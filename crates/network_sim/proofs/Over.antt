-- When all that was sent is over: where none goes first.
use Rattle.std.proofs.Common.{◌≡◌, ℕ, zero, suc, ◌+◌, Bool, true, false, not, ◌&&◌, ◌==◌, List, [], ◌∷◌, refl, sym, subst, ◌∙◌, inl, inr, arith, Option, Some, None}
use Rattle.std.specs.Prelude.{nat_lt, slice_get, is_some}
use Rattle.std.proofs.lemmas.Bool.{cases_eq, and_parts, and_from, not_from_false}
use Rattle.line_model.specs.Deliveries.{is_under_way, or_here, oldest}
use Rattle.line_model.specs.Fresh.{IsOver}
use Rattle.line_model.specs.Network.{Sent, IsUnderWay, OfSent}
use Rattle.line_model.proofs.UnderWay.{under_way}
use Rattle.network_sim.specs.declared.place.Reach.{Reach}
use Rattle.network_sim.specs.declared.place.Reach.TheVariants.{Every, To}
use Rattle.network_sim.specs.Arriving.{passes, MayCome, AllOver}
use Rattle.network_sim.proofs.Deliveries.{goes, none_oldest}

-- ---- the test and what it tests

is_under : (made age : ℕ) (s : Sent) → IsUnderWay made age s → is_under_way made age s ≡ true
is_under made age s u =
    let twice : nat_lt s.delivered 2 ≡ true = grind (arith, u.twice) in let young : nat_lt age 128 ≡ true = grind (arith, u.young) in
    let soon : nat_lt made (s.made + 255) ≡ true = grind (arith, u.soon) in
    and_from _ _ (and_from _ _ (and_from _ _ (not_from_false s.lost u.kept) twice) young) soon

passes_is : (reach : Reach) (made : ℕ) (sent : List Sent) (age : ℕ) (s : Sent) → slice_get sent age ≡ Some s → passes reach made age s ≡ true → MayCome reach made sent age
passes_is Every made sent age s there e = let Q : Option Sent → Type 0 = OfSent (IsUnderWay made age) in subst Q (sym there) (under_way made age s e)
passes_is (To endpoint) made sent age s there e =
    let p = and_parts _ _ e in
    let here : s.endpoint ≡ endpoint = grind (arith, p.1) in
    let Q : Option Sent → Type 0 = OfSent (λ t. IsUnderWay made age t × (t.endpoint ≡ endpoint)) in
    subst Q (sym there) (under_way made age s p.0, here)

is_passed : (reach : Reach) (made : ℕ) (sent : List Sent) (age : ℕ) (s : Sent) → slice_get sent age ≡ Some s → MayCome reach made sent age → passes reach made age s ≡ true
is_passed Every made sent age s there may = let Q : Option Sent → Type 0 = OfSent (IsUnderWay made age) in is_under made age s (subst Q there may)
is_passed (To endpoint) made sent age s there may =
    let Q : Option Sent → Type 0 = OfSent (λ t. IsUnderWay made age t × (t.endpoint ≡ endpoint)) in
    let p : IsUnderWay made age s × (s.endpoint ≡ endpoint) = subst Q there may in
    let here : (s.endpoint == endpoint) ≡ true = grind (arith, p.1) in
    and_from _ _ (is_under made age s p.0) here

passed_kept : (reach : Reach) (made age : ℕ) (s : Sent) → passes reach made age s ≡ true → s.lost ≡ false
passed_kept Every made age s e = (under_way made age s e).kept
passed_kept (To endpoint) made age s e = (under_way made age s (and_parts _ _ e).0).kept

-- ---- none goes first

or_none : (b : Bool) (age : ℕ) (o : Option ℕ) → or_here b age o ≡ None → (b ≡ false) × (o ≡ None)
or_none true age None e = cc
or_none false age None e = (refl, refl)
or_none b age (Some older) e = cc

none_goes : (test : ℕ → Sent → Bool) (age : ℕ) (sent : List Sent) → oldest test age sent ≡ None → (k : ℕ) (s : Sent) → slice_get sent k ≡ Some s → goes test (age + k) s ≡ false
none_goes test age [] none k s there = cc
none_goes test age (x ∷ rest) none zero s there =
    let same : x ≡ s = cc in
    let here : goes test age x ≡ false = (or_none _ age _ none).0 in
    subst (λ (n : ℕ). goes test n s ≡ false) (omega arith) (subst (λ (t : Sent). goes test age t ≡ false) same here)
none_goes test age (x ∷ rest) none (suc k) s there =
    subst (λ (n : ℕ). goes test n s ≡ false) (omega arith) (none_goes test (suc age) rest (or_none _ age _ none).1 k s there)

-- ---- over

true_isnt_false : (b : Bool) → b ≡ true → b ≡ false → ⊥
true_isnt_false b p q = cc

first_fails : (a b : Bool) → b ≡ true → (a && b) ≡ false → a ≡ false
first_fails true b p e = cc
first_fails false b p e = refl

is_over : (reach : Reach) (made : ℕ) (sent : List Sent) (age : ℕ) (s : Sent) → slice_get sent age ≡ Some s → goes (passes reach made) age s ≡ false → IsOver (MayCome reach made sent age) s
is_over reach made sent age s there fails = elim (cases_eq s.delivered 0) [
  | inl never ↦
      let zero_times : (s.delivered == 0) ≡ true = grind arith in
      inr (inr (λ may. true_isnt_false _ (is_passed reach made sent age s there may) (first_fails _ _ zero_times fails)))
  | inr once ↦ inl (omega arith)
]

pub all_over : (reach : Reach) (made : ℕ) (sent : List Sent) → oldest (passes reach made) 0 sent ≡ None → AllOver reach made sent
all_over reach made sent none age s there =
    is_over reach made sent age s there (subst (λ (n : ℕ). goes (passes reach made) n s ≡ false) (omega arith) (none_goes (passes reach made) 0 sent none age s there))

not_over : (reach : Reach) (made : ℕ) (sent : List Sent) (age : ℕ) (s : Sent) → slice_get sent age ≡ Some s → passes reach made age s ≡ true → s.delivered ≡ 0 → IsOver (MayCome reach made sent age) s → ⊥
not_over reach made sent age s there passed never (inl once) = omega arith
not_over reach made sent age s there passed never (inr (inl lost)) = true_isnt_false s.lost lost (passed_kept reach made age s passed)
not_over reach made sent age s there passed never (inr (inr may)) = may (passes_is reach made sent age s there passed)

fails_over : (reach : Reach) (made : ℕ) (sent : List Sent) (age : ℕ) (s : Sent) (b : Bool) → goes (passes reach made) age s ≡ b → slice_get sent age ≡ Some s → IsOver (MayCome reach made sent age) s → b ≡ false
fails_over reach made sent age s false e there over = refl
fails_over reach made sent age s true e there over =
    let p = and_parts (passes reach made age s) (s.delivered == 0) e in
    let never : s.delivered ≡ 0 = grind (arith, p.1) in
    absurd (not_over reach made sent age s there p.0 never over)

pub none_over : (reach : Reach) (made : ℕ) (sent : List Sent) → AllOver reach made sent → oldest (passes reach made) 0 sent ≡ None
none_over reach made sent over =
    none_oldest (passes reach made) 0 sent (λ k s there.
    subst (λ (n : ℕ). goes (passes reach made) n s ≡ false) (omega arith) (fails_over reach made sent k s (goes (passes reach made) k s) refl there (over k s there)))

is_nothing : (r : Option ℕ) (b : Bool) → is_some r ≡ not b → b ≡ true → r ≡ None
is_nothing None b e t = refl
is_nothing (Some n) true e t = cc
is_nothing (Some n) false e t = cc

nothing_is : (r : Option ℕ) (b : Bool) → is_some r ≡ not b → r ≡ None → b ≡ true
nothing_is r true e none = refl
nothing_is None false e none = cc
nothing_is (Some n) false e none = cc

pub over_exactly : (reach : Reach) (made : ℕ) (sent : List Sent) (r : Option ℕ) (b : Bool) → r ≡ oldest (passes reach made) 0 sent → is_some r ≡ not b
    → (b ≡ true → AllOver reach made sent) × (AllOver reach made sent → b ≡ true)
over_exactly reach made sent r b e told = (λ t. all_over reach made sent (sym e ∙ is_nothing r b told t), λ over. nothing_is r b told (e ∙ none_over reach made sent over))
