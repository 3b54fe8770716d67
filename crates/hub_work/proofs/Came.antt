-- How much waits for the workers, as one worker's part is written.
use Rattle.std.proofs.Common.{◌≡◌, ◌≢◌, inl, inr, ℕ, zero, suc, ◌-◌, ◌≤◌, eqb, Bool, true, false, List, [], ◌∷◌, set, Option, Some, None, refl, sym, ap, subst, ◌∙◌, arith}
use Rattle.std.specs.Prelude.{◌&&◌, is_some}
use Rattle.std.proofs.lemmas.Bool.{cases_eq, eq-eqb, ne_eqb}
use Rattle.hub_work.specs.declared.crew.Held.{Held}
use Rattle.hub_work.specs.Books.{held_at}
use Rattle.hub_work.specs.Closes.{counted}
use Rattle.hub_work.specs.Came.{waiting_in, waiting_at, holds_at, after_coming, RisesBy, RisesWhere, TakesOneIn}

set_here : (crew : List (Option Held)) (place : ℕ) (h : Held) (o : Option Held) → Some h ≡ held_at crew place → held_at (set crew place o) place ≡ o
set_here [] place h o e = absurd (cc)
set_here (x ∷ crew) zero h o e = refl
set_here (x ∷ crew) (suc place) h o e = set_here crew place h o e

set_elsewhere : (crew : List (Option Held)) (place other : ℕ) (o : Option Held) → other ≢ place → held_at (set crew place o) other ≡ held_at crew other
set_elsewhere [] place other o apart = refl
set_elsewhere (x ∷ crew) zero zero o apart = absurd (apart refl)
set_elsewhere (x ∷ crew) zero (suc other) o apart = refl
set_elsewhere (x ∷ crew) (suc place) zero o apart = refl
set_elsewhere (x ∷ crew) (suc place) (suc other) o apart = set_elsewhere crew place other o (λ e. apart (ap suc e))

-- where none is held there, or there is no such place, nothing waits there
set_unheld : (crew : List (Option Held)) (place : ℕ) (o : Option Held) → waiting_at (set crew place o) place ≤ waiting_in o
set_unheld [] place o = omega arith
set_unheld (x ∷ crew) zero o = omega arith
set_unheld (x ∷ crew) (suc place) o = set_unheld crew place o

others_stay : (crew new : List (Option Held)) (place : ℕ) (o : Option Held) → new ≡ set crew place o → (other : ℕ) → other ≢ place → waiting_at new other ≡ waiting_at crew other
others_stay crew new place o is other apart = ap (λ (c : List (Option Held)). waiting_at c other) is ∙ ap waiting_in (set_elsewhere crew place other o apart)

pub stays_by : (crew : List (Option Held)) (n : ℕ) → RisesBy n crew crew
stays_by crew n place = omega arith

-- ---- where something came

-- at the same places
pub same_where : (f g : ℕ → Bool) (old new : List (Option Held)) → ((place : ℕ) → f place ≡ g place) → RisesWhere f old new → RisesWhere g old new
same_where f g old new same r place = r place ∙ ap (λ b. after_coming b (waiting_at old place)) (same place)

pub nowhere : (f : ℕ → Bool) (crew : List (Option Held)) → ((place : ℕ) → f place ≡ false) → RisesWhere f crew crew
nowhere f crew none place = sym (ap (λ b. after_coming b (waiting_at crew place)) (none place))

pub rises_so : (crew new : List (Option Held)) (place : ℕ) (h g : Held) → Some h ≡ held_at crew place → new ≡ set crew place (Some g) → g.came ≡ counted h.came → RisesWhere (λ other. eqb other place && holds_at crew other) crew new
rises_so crew new place h g e is more other = elim (cases_eq other place) [
  | inl here ↦
      let now : waiting_at new place ≡ g.came = ap (λ (c : List (Option Held)). waiting_at c place) is ∙ ap waiting_in (set_here crew place h (Some g) e) in
      let one : waiting_at new place ≡ after_coming true (waiting_at crew place) = now ∙ (more ∙ ap (λ (o : Option Held). counted (waiting_in o)) e) in
      let test : (eqb other place && holds_at crew place) ≡ true = ap (λ b. b && holds_at crew place) (eq-eqb other place here) ∙ sym (ap is_some e) in
      subst (λ p. waiting_at new p ≡ after_coming (eqb other place && holds_at crew p) (waiting_at crew p)) (sym here) (one ∙ sym (ap (λ b. after_coming b (waiting_at crew place)) test))
  | inr apart ↦ others_stay crew new place (Some g) is other apart ∙ sym (ap (λ b. after_coming (b && holds_at crew other) (waiting_at crew other)) (ne_eqb other place apart))
]

-- at a place where no job is held
not_there : (place other : ℕ) (b : Bool) → (other ≡ place → b ≡ false) → (eqb other place && b) ≡ false
not_there place other b none = elim (cases_eq other place) [
  | inl here ↦ ap (λ x. x && b) (eq-eqb other place here) ∙ none here
  | inr apart ↦ ap (λ x. x && b) (ne_eqb other place apart)
]

pub for_nobody : (crew : List (Option Held)) (place : ℕ) → None ≡ held_at crew place → RisesWhere (λ other. eqb other place && holds_at crew other) crew crew
for_nobody crew place e = nowhere _ crew (λ other. not_there place other (holds_at crew other) (λ here. ap (λ p. is_some (held_at crew p)) here ∙ sym (ap is_some e)))

-- ---- a turn takes in

pub takes_so : (crew new : List (Option Held)) (worker place : ℕ) (h g : Held) → place ≡ worker - 1 → Some h ≡ held_at crew place → new ≡ set crew place (Some g) → g.came ≡ h.came - 1 → TakesOneIn worker crew new
takes_so crew new worker place h g at e is less =
    subst (λ p. (waiting_at new p ≡ waiting_at crew p - 1) → ((other : ℕ) → other ≢ p → waiting_at new other ≡ waiting_at crew other) → TakesOneIn worker crew new) (sym at) (λ here others. record { here = here; others = others })
    (let now : waiting_at new place ≡ g.came = ap (λ (c : List (Option Held)). waiting_at c place) is ∙ ap waiting_in (set_here crew place h (Some g) e) in
    let was : h.came ≡ waiting_at crew place = ap waiting_in e in
    now ∙ (less ∙ ap (λ n. n - 1) was))
    (others_stay crew new place (Some g) is)

-- nothing waits for it
pub takes_none : (crew : List (Option Held)) (worker : ℕ) → waiting_at crew (worker - 1) ≡ 0 → TakesOneIn worker crew crew
takes_none crew worker none = record { here = omega (arith, none); others = λ other apart. refl }

pub none_waits : (crew : List (Option Held)) (place : ℕ) → None ≡ held_at crew place → waiting_at crew place ≡ 0
none_waits crew place e = ap waiting_in (sym e)

-- a job with nothing that came, or none, is put there
pub puts_none : (crew new : List (Option Held)) (worker : ℕ) (o : Option Held) → new ≡ set crew (worker - 1) o → waiting_in o ≡ 0 → waiting_at crew (worker - 1) ≡ 0 → TakesOneIn worker crew new
puts_none crew new worker o is empty none = record {
  here =
      let now : waiting_at new (worker - 1) ≡ waiting_at (set crew (worker - 1) o) (worker - 1) = ap (λ (c : List (Option Held)). waiting_at c (worker - 1)) is in
      let le : waiting_at (set crew (worker - 1) o) (worker - 1) ≤ waiting_in o = set_unheld crew (worker - 1) o in
      omega (arith, now, le, empty, none);
  others = others_stay crew new (worker - 1) o is;
}

pub holder_waits : (crew : List (Option Held)) (place : ℕ) (h : Held) → Some h ≡ held_at crew place → h.came ≡ 0 → waiting_at crew place ≡ 0
holder_waits crew place h e none = ap waiting_in (sym e) ∙ none

-- the same waits
pub same_waits : (crew new : List (Option Held)) (place : ℕ) (h g : Held) → Some h ≡ held_at crew place → new ≡ set crew place (Some g) → g.came ≡ h.came → (other : ℕ) → waiting_at new other ≡ waiting_at crew other
same_waits crew new place h g e is same other = elim (cases_eq other place) [
  | inl here ↦
      let now : waiting_at new place ≡ g.came = ap (λ (c : List (Option Held)). waiting_at c place) is ∙ ap waiting_in (set_here crew place h (Some g) e) in
      subst (λ p. waiting_at new p ≡ waiting_at crew p) (sym here) (now ∙ (same ∙ ap waiting_in e))
  | inr apart ↦ others_stay crew new place (Some g) is other apart
]

pub none_taken_in : (crew new : List (Option Held)) (worker : ℕ) → ((other : ℕ) → waiting_at new other ≡ waiting_at crew other) → waiting_at crew (worker - 1) ≡ 0 → TakesOneIn worker crew new
none_taken_in crew new worker same none = record { here = (let s = same (worker - 1) in omega (arith, s, none)); others = λ other apart. same other }

pub by_more : (m n : ℕ) (old new : List (Option Held)) → m ≤ n → RisesBy m old new → RisesBy n old new
by_more m n old new le r place = let h = r place in omega (arith, h, le)
