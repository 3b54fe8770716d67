-- Each line of a script speaks of one place: so a run meets no more places at which an attempt of a device can end than there are such lines.
use Rattle.std.proofs.Common.{◌≡◌, ℕ, zero, suc, ◌+◌, ◌<◌, ◌≤◌, List, [], ◌∷◌, length, Bool, true, false, ◌&&◌, ◌||◌, cond, Option, Some, None, refl, ◌∙◌, ap, arith}
use Rattle.std.specs.Prelude.{◌==◌, is_some}
use Rattle.std.specs.List.{filter, list_any}
use Rattle.std.proofs.lemmas.Bool.Decides.{nat_tests}
use Rattle.knx_model.specs.declared.script.ScriptWhat.{ScriptWhat}
use Rattle.line_model.specs.Lines.{Script}
use Rattle.line_model.specs.World.{World, Event}
use Rattle.calm_law.specs.CalmCounts.{one_for}
use Rattle.calm_law.specs.CalmDisturbances.{Counted, DatagramsUp, DatagramsDown, RequestsActed, FramesTo, FramesFrom, Writes, FramesTaken, Place, all_counted, ends_met, is_place, is_same, lines_that_end, place_in, reached, said, sum_over}

-- ---- one line

-- how many of the first n places are its own
here : Option Place → Counted → ℕ → ℕ
here place of zero = 0
here place of (suc n) = one_for (is_place of (suc n) place) + here place of n

none_here : (of : Counted) (n : ℕ) → here None of n ≡ 0
unfolding here
none_here of zero = refl
none_here of (suc n) = let rest = none_here of n in omega (arith, rest)

-- none of those below its number
below : (place : Place) (of : Counted) (n m : ℕ) → n < m → place.number ≡ m → here (Some place) of n ≡ 0
unfolding here
below place of zero m lt is = refl
below place of (suc n) m lt is = by_test (place.number == suc n) refl (below place of n m (omega (arith, lt)) is) where
  by_test : (b : Bool) → (place.number == suc n) ≡ b → here (Some place) of n ≡ 0 → one_for (is_same of place.of && (place.number == suc n)) + here (Some place) of n ≡ 0
  by_test true e rest = absurd (let same : place.number ≡ suc n = grind (arith, nat_tests) in omega (arith, same, is, lt))
  by_test false e rest = ap (λ b. one_for (is_same of place.of && b) + here (Some place) of n) e ∙ both (is_same of place.of) rest where
    both : (a : Bool) → here (Some place) of n ≡ 0 → one_for (a && false) + here (Some place) of n ≡ 0
    both true r = omega (arith, r)
    both false r = omega (arith, r)

one_here : (place : Place) (of : Counted) (n : ℕ) → here (Some place) of n ≤ one_for (is_same of place.of)
unfolding here
one_here place of zero = omega arith
one_here place of (suc n) = by_test (place.number == suc n) refl (one_here place of n) where
  by_test : (b : Bool) → (place.number == suc n) ≡ b → here (Some place) of n ≤ one_for (is_same of place.of) → one_for (is_same of place.of && (place.number == suc n)) + here (Some place) of n ≤ one_for (is_same of place.of)
  by_test true e rest =
      let same : place.number ≡ suc n = grind (arith, nat_tests) in
      let none = below place of n (suc n) (omega arith) same in
      let first : one_for (is_same of place.of && (place.number == suc n)) ≡ one_for (is_same of place.of) = ap (λ b. one_for (is_same of place.of && b)) e ∙ with_true (is_same of place.of) in
      omega (arith, none, first)
    where
      with_true : (a : Bool) → one_for (a && true) ≡ one_for a
      with_true true = refl
      with_true false = refl
  by_test false e rest =
      let first : one_for (is_same of place.of && (place.number == suc n)) ≡ 0 = ap (λ b. one_for (is_same of place.of && b)) e ∙ with_false (is_same of place.of) in
      omega (arith, first, rest)
    where
      with_false : (a : Bool) → one_for (a && false) ≡ 0
      with_false true = refl
      with_false false = refl

of_one : (of : Counted) → sum_over all_counted (λ x. one_for (is_same x of)) ≡ 1
of_one DatagramsUp = refl
of_one DatagramsDown = refl
of_one RequestsActed = refl
of_one FramesTo = refl
of_one FramesFrom = refl
of_one Writes = refl
of_one FramesTaken = refl

-- ---- sums

sum_less : (l : List Counted) (f g : Counted → ℕ) → ((of : Counted) → f of ≤ g of) → sum_over l f ≤ sum_over l g
sum_less [] f g le = omega arith
sum_less (of ∷ l) f g le = let first = le of in let rest = sum_less l f g le in omega (arith, first, rest)

sum_both : (l : List Counted) (f g : Counted → ℕ) → sum_over l (λ of. f of + g of) ≡ sum_over l f + sum_over l g
sum_both [] f g = refl
sum_both (of ∷ l) f g = let rest = sum_both l f g in omega (arith, rest)

sum_none : (l : List Counted) (f : Counted → ℕ) → ((of : Counted) → f of ≡ 0) → sum_over l f ≡ 0
sum_none [] f none = refl
sum_none (of ∷ l) f none = let first = none of in let rest = sum_none l f none in omega (arith, first, rest)

module _ (n : Counted → ℕ) where
  line_here : (o : Option Place) → sum_over all_counted (λ of. here o of (n of)) ≤ one_for (is_some o)
  line_here None = let none = sum_none all_counted (λ of. here None of (n of)) (λ of. none_here of (n of)) in omega (arith, none)
  line_here (Some place) =
      let less = sum_less all_counted (λ of. here (Some place) of (n of)) (λ of. one_for (is_same of place.of)) (λ of. one_here place of (n of)) in
      let one = of_one place.of in
      omega (arith, less, one)

-- ---- all lines

module _ (device : ℕ) where
  none_said : (of : Counted) (n : ℕ) → said device [] of n ≡ 0
  none_said of zero = refl
  none_said of (suc n) = let rest = none_said of n in omega (arith, rest)

  or_less : (a b : Bool) → one_for (a || b) ≤ one_for a + one_for b
  or_less true b = omega arith
  or_less false b = omega arith

  said_more : (what : ScriptWhat) (script : Script) (of : Counted) (n : ℕ) → said device (what ∷ script) of n ≤ here (place_in device what) of n + said device script of n
  unfolding here
  said_more what script of zero = omega arith
  said_more what script of (suc n) =
      let first = or_less (is_place of (suc n) (place_in device what)) (list_any (λ x. is_place of (suc n) (place_in device x)) script) in
      let rest = said_more what script of n in
      omega (arith, first, rest)

  more_lines : (b : Bool) (what : ScriptWhat) (rest : List ScriptWhat) → length (cond {A = List ScriptWhat} b (what ∷ rest) rest) ≡ one_for b + length rest
  more_lines true what rest = omega arith
  more_lines false what rest = omega arith

  few : (script : Script) (n : Counted → ℕ) → sum_over all_counted (λ of. said device script of (n of)) ≤ lines_that_end device script
  few [] n = let none = sum_none all_counted (λ of. said device [] of (n of)) (λ of. none_said of (n of)) in omega (arith, none)
  few (what ∷ script) n =
      let less = sum_less all_counted (λ of. said device (what ∷ script) of (n of)) (λ of. here (place_in device what) of (n of) + said device script of (n of)) (λ of. said_more what script of (n of)) in
      let both = sum_both all_counted (λ of. here (place_in device what) of (n of)) (λ of. said device script of (n of)) in
      let line = line_here n (place_in device what) in
      let rest = few script n in
      let all : lines_that_end device (what ∷ script) ≡ one_for (is_some (place_in device what)) + lines_that_end device script = more_lines (is_some (place_in device what)) what (filter (λ x. is_some (place_in device x)) script) in
      omega (arith, less, both, line, rest, all)

pub each_line_once : (device : ℕ) (script : Script) (start : World) (events : List Event) → ends_met device script start events ≤ lines_that_end device script
each_line_once device script start events = few device script (reached device start events)
