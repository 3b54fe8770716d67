-- Units, place by place.
use Rattle.std.proofs.Common.{◌≡◌, ◌≢◌, ℕ, zero, suc, ◌+◌, ◌<◌, ◌≤◌, ◌-◌, ◌^◌, ◌⊎◌, min, inl, inr, Bool, true, false, ◌||◌, ◌==◌, List, [], ◌∷◌, length, map, Option, Some, None, refl, ap, sym, subst, ◌∙◌, arith, if◌then◌else◌}
use Rattle.std.specs.Prelude.{slice_get, option_map}
use Rattle.std.specs.List.{list_any}
use Rattle.std.proofs.Math.ListN.{set}
use Rattle.std.proofs.lemmas.Bool.{cases_eq, cases_lt}
use Rattle.std.proofs.lemmas.Option.{slice_get_within}
use Rattle.knx_model.specs.declared.frames.cemi.Ldata.{Ldata}
use Rattle.line_model.specs.World.{AtGateway, is_among}
use Rattle.address_world.specs.declared.unit.Unit.{Unit as BusUnit}
use Rattle.address_world.specs.AddressWorld.{AddressEvent, Respond, UnitState, all_get, changed, gets_broadcast, has_address, oldest, oldest_at, response, sends}
use Rattle.address_sim.specs.declared.units.Answers.{Answers}
use Rattle.address_law.specs.Calm.{AllSent}
use Rattle.address_sim.specs.Follows.{one_more_if, responses}
use Rattle.address_sim.specs.Told.{at_rest}
use Rattle.address_world.specs.Shown.{shown}
use Rattle.address_sim.specs.Units.{both_of, state_of, IsDueAt, IsNotDueAt, SentSo}

-- ---- the world's units

abbrev pub got_at : List ℕ → Ldata → ℕ → UnitState → UnitState
got_at left_out frame place u = if is_among left_out place then u else gets_broadcast frame u

pub all_get_at : (left_out : List ℕ) (frame : Ldata) (at : ℕ) (units : List UnitState) (place : ℕ) → slice_get (all_get at left_out frame units) place ≡ option_map (got_at left_out frame (at + place)) (slice_get units place)
all_get_at left_out frame at [] place = refl
all_get_at left_out frame at (u ∷ units) zero = ap (λ (k : ℕ). Some (got_at left_out frame k u)) (omega arith)
all_get_at left_out frame at (u ∷ units) (suc place) =
    all_get_at left_out frame (suc at) units place ∙ ap (λ (k : ℕ). option_map (got_at left_out frame k) (slice_get units place)) (omega arith)

pub changed_here : (place : ℕ) (change : UnitState → UnitState) (units : List UnitState) → slice_get (changed place change units) place ≡ option_map change (slice_get units place)
changed_here zero change [] = refl
changed_here (suc place) change [] = refl
changed_here zero change (u ∷ units) = refl
changed_here (suc place) change (u ∷ units) = changed_here place change units

pub changed_there : (place other : ℕ) (change : UnitState → UnitState) (units : List UnitState) → other ≢ place → slice_get (changed place change units) other ≡ slice_get units other
changed_there zero other change [] ne = refl
changed_there (suc place) other change [] ne = refl
changed_there zero zero change (u ∷ units) ne = absurd (ne refl)
changed_there zero (suc other) change (u ∷ units) ne = refl
changed_there (suc place) zero change (u ∷ units) ne = refl
changed_there (suc place) (suc other) change (u ∷ units) ne = changed_there place other change units (λ e. ne (ap suc e))

abbrev pub oldest_of : Option UnitState → Option Ldata
oldest_of None = None
oldest_of (Some u) = oldest u.unsent

pub oldest_there : (place : ℕ) (units : List UnitState) → oldest_at place units ≡ oldest_of (slice_get units place)
oldest_there zero [] = refl
oldest_there (suc place) [] = refl
oldest_there zero (u ∷ units) = refl
oldest_there (suc place) (u ∷ units) = oldest_there place units

pub all_sent : (units : List UnitState) → ((place : ℕ) (u : UnitState) → slice_get units place ≡ Some u → u.unsent ≡ []) → AllSent units
all_sent [] each = tt
all_sent (u ∷ units) each = (each 0 u refl, all_sent units (λ place v e. each (suc place) v e))

pub sent_at : (units : List UnitState) (place : ℕ) (u : UnitState) → AllSent units → slice_get units place ≡ Some u → u.unsent ≡ []
sent_at [] place u sent e = cc
sent_at (v ∷ units) zero u sent e =
    let same : v ≡ u = cc in
    subst (λ (x : UnitState). x.unsent ≡ []) same sent.0
sent_at (v ∷ units) (suc place) u sent e = sent_at units place u sent.1 e

-- ---- what is held of them

pub not_due : (o : Option BusUnit) (p : Option Answers) (u : UnitState) → IsNotDueAt p → both_of o p ≡ Some u → u.unsent ≡ []
not_due None None u none e = cc
not_due None (Some a) u none e = cc
not_due (Some v) None u none e = cc
not_due (Some v) (Some a) u none e =
    let same : state_of v a ≡ u = cc in
    subst (λ (x : UnitState). x.unsent ≡ []) same (ap (λ (b : Bool). if b then v.address ∷ [] else []) none)

pub is_due : (v : BusUnit) (a : Answers) → a.due ≡ true → oldest (state_of v a).unsent ≡ Some (response v.address)
is_due v a due = ap (λ (b : Bool). oldest (if b then v.address ∷ [] else [])) due

pub rested : (units : List BusUnit) (answers : List Answers) (rest : Answers) → rest.due ≡ false → length answers ≡ length units → ((place : ℕ) (a : Answers) → slice_get answers place ≡ Some a → a ≡ rest)
    → (place : ℕ) → slice_get (map at_rest units) place ≡ both_of (slice_get units place) (slice_get answers place)
rested [] [] rest none even each place = refl
rested [] (a ∷ answers) rest none even each place = refl
rested (u ∷ units) [] rest none even each place = absurd (omega (arith, even))
rested (u ∷ units) (a ∷ answers) rest none even each zero =
    let same : a ≡ rest = each 0 a refl in
    let not : a.due ≡ false = ap (λ (x : Answers). x.due) same ∙ none in
    ap (λ (b : Bool). Some (record { address = u.address; programming = u.prog; unsent = if b then u.address ∷ [] else [] })) (sym not)
rested (u ∷ units) (a ∷ answers) rest none even each (suc place) = rested units answers rest none (omega (arith, even)) (λ k b e. each (suc k) b e) place

-- ---- the whole of them

pub addresses_alike : (raw : ℕ) (units : List BusUnit) (answers : List Answers) (states : List UnitState) → length units ≡ length answers → ((place : ℕ) → slice_get states place ≡ both_of (slice_get units place) (slice_get answers place))
    → list_any (λ (u : BusUnit). u.address.raw == raw) units ≡ has_address raw states
addresses_alike raw [] [] [] even alike = refl
addresses_alike raw [] [] (s ∷ states) even alike = let none = alike 0 in cc
addresses_alike raw [] (a ∷ answers) states even alike = absurd (omega (arith, even))
addresses_alike raw (u ∷ units) [] states even alike = absurd (omega (arith, even))
addresses_alike raw (u ∷ units) (a ∷ answers) [] even alike = let none = alike 0 in cc
addresses_alike raw (u ∷ units) (a ∷ answers) (s ∷ states) even alike =
    let here = alike 0 in
    let same : s ≡ state_of u a = cc in
    ap (λ (b : Bool). (u.address.raw == raw) || b) (addresses_alike raw units answers states (omega (arith, even)) (λ k. alike (suc k))) ∙ ap (λ (x : UnitState). (x.address.raw == raw) || has_address raw states) (sym same)

pub shown_alike : (units : List BusUnit) (answers : List Answers) (states : List UnitState) → length units ≡ length answers → ((place : ℕ) → slice_get states place ≡ both_of (slice_get units place) (slice_get answers place)) → units ≡ map shown states
shown_alike [] [] [] even alike = refl
shown_alike [] [] (s ∷ states) even alike = let none = alike 0 in cc
shown_alike [] (a ∷ answers) states even alike = absurd (omega (arith, even))
shown_alike (u ∷ units) [] states even alike = absurd (omega (arith, even))
shown_alike (u ∷ units) (a ∷ answers) [] even alike = let none = alike 0 in cc
shown_alike (u ∷ units) (a ∷ answers) (s ∷ states) even alike =
    let here = alike 0 in
    let same : s ≡ state_of u a = cc in
    let rest : units ≡ map shown states = shown_alike units answers states (omega (arith, even)) (λ k. alike (suc k)) in
    ap (λ (us : List BusUnit). u ∷ us) rest ∙ ap (λ (x : UnitState). shown x ∷ map shown states) (sym same)

-- ---- one of a list is set

pub set_here : {X : Type 0} (xs : List X) (i : ℕ) (x : X) → i < length xs → slice_get (set xs i x) i ≡ Some x
set_here [] i x h = absurd (omega (arith, h))
set_here (y ∷ ys) zero x h = refl
set_here (y ∷ ys) (suc i) x h = set_here ys i x (omega (arith, h))

pub set_there : {X : Type 0} (xs : List X) (i j : ℕ) (x : X) → j ≢ i → slice_get (set xs i x) j ≡ slice_get xs j
set_there [] i j x ne = refl
set_there (y ∷ ys) zero zero x ne = absurd (ne refl)
set_there (y ∷ ys) zero (suc j) x ne = refl
set_there (y ∷ ys) (suc i) zero x ne = refl
set_there (y ∷ ys) (suc i) (suc j) x ne = set_there ys i j x (λ e. ne (ap suc e))

pub inside : {X : Type 0} (xs : List X) (i : ℕ) → i < length xs → (x : X) × (slice_get xs i ≡ Some x)
inside [] i h = absurd (omega (arith, h))
inside (x ∷ xs) zero h = (x, refl)
inside (x ∷ xs) (suc i) h = inside xs i (omega (arith, h))

-- ---- a unit sends its response

sends_both : (o : Option BusUnit) (a : Answers) (n : ℕ) → option_map sends (both_of o (Some a)) ≡ both_of o (Some (record { due = false; sent = n }))
sends_both None a n = refl
sends_both (Some u) a n = by_due a.due
  where
    by_due : (b : Bool) → Some (sends (record { address = u.address; programming = u.prog; unsent = if b then u.address ∷ [] else [] })) ≡ both_of (Some u) (Some (record { due = false; sent = n }))
    by_due true = refl
    by_due false = refl

pub sent_units : (us : List BusUnit) (ans : List Answers) (states : List UnitState) (place n : ℕ) → place < length ans → ((p : ℕ) → slice_get states p ≡ both_of (slice_get us p) (slice_get ans p))
    → (p : ℕ) → slice_get (changed place sends states) p ≡ both_of (slice_get us p) (slice_get (set ans place (record { due = false; sent = n })) p)
sent_units us ans states place n within are p = by_place (cases_eq p place)
  where
    by_place : (p ≡ place) ⊎ (p ≢ place) → slice_get (changed place sends states) p ≡ both_of (slice_get us p) (slice_get (set ans place (record { due = false; sent = n })) p)
    by_place (inl here) =
        let old = inside ans place within in
        let before : slice_get states place ≡ both_of (slice_get us place) (Some old.0) = are place ∙ ap (both_of (slice_get us place)) old.1 in
        subst (λ (k : ℕ). slice_get (changed place sends states) k ≡ both_of (slice_get us k) (slice_get (set ans place (record { due = false; sent = n })) k)) (sym here)
        (changed_here place sends states ∙ ap (option_map sends) before ∙ sends_both (slice_get us place) old.0 n ∙ ap (both_of (slice_get us place)) (sym (set_here ans place (record { due = false; sent = n }) within)))
    by_place (inr other) = changed_there place p sends states other ∙ are p ∙ ap (both_of (slice_get us p)) (sym (set_there ans place p (record { due = false; sent = n }) other))

pub sent_counted : (ans : List Answers) (events : List AddressEvent) (place n : ℕ) (at : AtGateway) → place < length ans → ((p : ℕ) → SentSo (slice_get ans p) (responses p events)) → n ≡ suc (responses place events)
    → (p : ℕ) → SentSo (slice_get (set ans place (record { due = false; sent = n })) p) (responses p (Respond place at ∷ events))
sent_counted ans events place n at within counted more p = by_place (cases_eq p place)
  where
    by_place : (p ≡ place) ⊎ (p ≢ place) → SentSo (slice_get (set ans place (record { due = false; sent = n })) p) (responses p (Respond place at ∷ events))
    by_place (inl here) =
        let itself : (place == place) ≡ true = grind arith in
        let all : n ≡ responses place (Respond place at ∷ events) = more ∙ ap (λ (b : Bool). one_more_if b (responses place events)) (sym itself) in
        subst (λ (k : ℕ). SentSo (slice_get (set ans place (record { due = false; sent = n })) k) (responses k (Respond place at ∷ events))) (sym here)
        (subst (λ (o : Option Answers). SentSo o (responses place (Respond place at ∷ events))) (sym (set_here ans place (record { due = false; sent = n }) within)) all)
    by_place (inr other) =
        let not : (place == p) ≡ false = grind (arith, other) in
        subst (λ (o : Option Answers). SentSo o (responses p (Respond place at ∷ events))) (sym (set_there ans place p (record { due = false; sent = n }) other))
        (subst (λ (k : ℕ). SentSo (slice_get ans p) k) (ap (λ (b : Bool). one_more_if b (responses p events)) (sym not)) (counted p))

-- ---- all get a broadcast

pub all_got_so : (us vs : List BusUnit) (ans bs : List Answers) (states : List UnitState) (left_out : List ℕ) (frame : Ldata) (end : ℕ) → length us ≡ length ans → end ≡ length us → ((p : ℕ) → slice_get states p ≡ both_of (slice_get us p) (slice_get ans p)) → AllSent states
    → ((p : ℕ) (u : UnitState) → p < end → both_of (slice_get us p) (slice_get ans p) ≡ Some u → u.unsent ≡ [] → both_of (slice_get vs p) (slice_get bs p) ≡ Some (got_at left_out frame p u))
    → ((p : ℕ) → end ≤ p → both_of (slice_get vs p) (slice_get bs p) ≡ both_of (slice_get us p) (slice_get ans p))
    → (p : ℕ) → slice_get (all_get 0 left_out frame states) p ≡ both_of (slice_get vs p) (slice_get bs p)
all_got_so us vs ans bs states left_out frame end even all are sent before behind p = all_get_at left_out frame 0 states p ∙ by_state (slice_get states p) refl
  where
    past : (o : Option BusUnit) (q : Option Answers) → slice_get us p ≡ o → slice_get ans p ≡ q → both_of o q ≡ None → end ≤ p
    past None q e f h = by_order (cases_lt p end)
      where
        by_order : (p < end) ⊎ (end ≤ p) → end ≤ p
        by_order (inr le) = le
        by_order (inl lt) = let found = inside us p (omega (arith, lt, all)) in let both : Some found.0 ≡ None = sym found.1 ∙ e in absurd (cc)
    past (Some u) None e f h = by_order (cases_lt p end)
      where
        by_order : (p < end) ⊎ (end ≤ p) → end ≤ p
        by_order (inr le) = le
        by_order (inl lt) = let found = inside ans p (omega (arith, lt, all, even)) in let both : Some found.0 ≡ None = sym found.1 ∙ f in absurd (cc)
    past (Some u) (Some a) e f h = absurd (cc)

    some_within : (o : Option BusUnit) (q : Option Answers) (u : UnitState) → slice_get us p ≡ o → both_of o q ≡ Some u → p < end
    some_within None q u e h = absurd (cc)
    some_within (Some v) q u e h = let lt : p < length us = slice_get_within us p v e in omega (arith, lt, all)

    by_state : (o : Option UnitState) → slice_get states p ≡ o → option_map (got_at left_out frame (0 + p)) o ≡ both_of (slice_get vs p) (slice_get bs p)
    by_state None e =
        let old : both_of (slice_get us p) (slice_get ans p) ≡ None = sym (are p) ∙ e in
        sym (behind p (past (slice_get us p) (slice_get ans p) refl refl old) ∙ old)
    by_state (Some u) e =
        let old : both_of (slice_get us p) (slice_get ans p) ≡ Some u = sym (are p) ∙ e in
        let new : both_of (slice_get vs p) (slice_get bs p) ≡ Some (got_at left_out frame p u) = before p u (some_within (slice_get us p) (slice_get ans p) u refl old) old (sent_at states p u sent e) in
        ap (λ (k : ℕ). Some (got_at left_out frame k u)) (omega arith) ∙ sym new

-- one more place
pub before_more : (old mid new : ℕ → Option UnitState) (left_out : List ℕ) (frame : Ldata) (lost : Bool) (place : ℕ) → lost ≡ is_among left_out place → mid place ≡ old place
    → ((p : ℕ) (u : UnitState) → p < place → old p ≡ Some u → u.unsent ≡ [] → mid p ≡ Some (got_at left_out frame p u)) → ((u : UnitState) → mid place ≡ Some u → u.unsent ≡ [] → new place ≡ Some (if lost then u else gets_broadcast frame u))
    → ((p : ℕ) → p ≢ place → new p ≡ mid p) → (p : ℕ) (u : UnitState) → p < place + 1 → old p ≡ Some u → u.unsent ≡ [] → new p ≡ Some (got_at left_out frame p u)
before_more old mid new left_out frame lost place so same before here others p u lt is empty = by_place (cases_eq p place)
  where
    by_place : (p ≡ place) ⊎ (p ≢ place) → new p ≡ Some (got_at left_out frame p u)
    by_place (inl at) =
        let there : old place ≡ Some u = ap old (sym at) ∙ is in
        let got : new place ≡ Some (if lost then u else gets_broadcast frame u) = here u (same ∙ there) empty in
        subst (λ (k : ℕ). new k ≡ Some (got_at left_out frame k u)) (sym at) (got ∙ ap (λ (b : Bool). Some (if b then u else gets_broadcast frame u)) so)
    by_place (inr other) = others p other ∙ before p u (omega (arith, lt, other)) is empty

-- the number of the next response
pub next_sent : (ans : List Answers) (events : List AddressEvent) (place sent : ℕ) (a : Answers) → slice_get ans place ≡ Some a → sent ≡ min (a.sent + 1) (2 ^ 64 - 1) → responses place events < 2 ^ 63 → ((p : ℕ) → SentSo (slice_get ans p) (responses p events)) → sent ≡ suc (responses place events)
next_sent ans events place sent a there is few counted =
    let so : a.sent ≡ responses place events = subst (λ (o : Option Answers). SentSo o (responses place events)) there (counted place) in
    omega (arith, is, so, few)

-- the response of a unit that has one to send
pub responds : (units : List BusUnit) (ans : List Answers) (states : List UnitState) (place : ℕ) (u : BusUnit) → ((p : ℕ) → slice_get states p ≡ both_of (slice_get units p) (slice_get ans p)) → slice_get units place ≡ Some u → IsDueAt (slice_get ans place)
    → oldest_at place states ≡ Some (response u.address)
responds units ans states place u are there due = oldest_there place states ∙ ap oldest_of (are place ∙ ap (λ (o : Option BusUnit). both_of o (slice_get ans place)) there) ∙ by_answer (slice_get ans place) due
  where
    by_answer : (o : Option Answers) → IsDueAt o → oldest_of (both_of (Some u) o) ≡ Some (response u.address)
    by_answer None h = absurd h
    by_answer (Some a) h = is_due u a h
