-- What one turn leaves of a seat, and what turns after one another leave.
use Rattle.std.proofs.Common.{◌≡◌, ◌⊎◌, inl, inr, ⊎_elim, ℕ, ◌+◌, ◌-◌, ◌≤◌, false, List, [], ◌∷◌, ◌++◌, length, Some, refl, ap, sym, ◌∙◌, subst, arith, append_assoc, length-append}
use Rattle.std.specs.List.{AllByRecursion, range_with_len}
use Rattle.std.proofs.lemmas.List.{append-nil}
use mathlib.Core.Option.{some}
use mathlib.Core.List.{IsPrefix}
use mathlib.Core.Logic.{dite}
use native.Mathlib.Decide.{ℕ_discrete}
use lib.ListN.{get_elem?}
use Rattle.atomic_table.proofs.Lists.{at_longer}
use Rattle.atomic_table.specs.Seated.{TableId}
use Rattle.turn_cell.specs.Seats.{Seated, with_turn, given_back, new_places}
use Rattle.turn_cell.proofs.Sums.{prefix_self, prefix_trans}
use Rattle.line_model.specs.declared.log.LogWhat.TheVariants as log
use Rattle.hub_core.specs.Seen.{Seen}
use Rattle.shared_hub.specs.declared.item.Item.{Item}
use Rattle.shared_hub.specs.declared.item.Item.TheVariants.{Told, Ended}
use Rattle.shared_hub.specs.declared.site.Step.{Step}
use Rattle.shared_hub.specs.declared.site.Step.TheVariants.{Took, Moved, Waits, Ready, Failed}
use Rattle.shared_hub.specs.declared.site.Step.TheVariants as step
use Rattle.shared_hub.specs.Items.{relay_in, HasFinished, IsOf}
use Rattle.shared_hub.specs.Sites.{SiteSeen, items_of}
use Rattle.shared_hub.specs.Steps.{HasFailed, OrPolls, Steps, Polls}
use Rattle.shared_hub.specs.Works.{Leads, Stays, Sees, AllAt, Got, ComesTo, IsDone, WasDone, AllDone}
use Rattle.shared_hub.proofs.Items.{opens_after, relays_after}

module _ {L W : Type 0} where
  -- what was added is the caller's, or the end
  record Added (worker : ℕ) (old new : List (Item L W)) : Type 0 where
    added : List (Item L W)
    grown : new ≡ old ++ added
    his : AllByRecursion (IsOf worker) added

  none_added : (worker : ℕ) (old new : List (Item L W)) → new ≡ old → Added worker old new
  none_added worker old new e = record { added = []; grown = e ∙ sym (append-nil old); his = tt }

  one_added : (worker : ℕ) (old new : List (Item L W)) (x : Item L W) → IsOf worker x → new ≡ old ++ x ∷ [] → Added worker old new
  one_added worker old new x is e = record { added = x ∷ []; grown = e; his = (is, tt) }

  fails_added : (worker : ℕ) (old new : List (Item L W)) → HasFailed old new → Added worker old new
  fails_added worker old new s = ⊎_elim (none_added worker old new) (λ h. one_added worker old new (Ended h.0) tt h.1) s.0

  step_added : (is_through : List (Item L W) → Type 0) (worker : ℕ) (old new : List (Item L W)) (r : Step) → Steps is_through worker old new r → Added worker old new
  step_added is_through worker old new (Took job) s = one_added worker old new (Told (record { at = s.0; worker = worker; what = log.Took job })) refl s.1
  step_added is_through worker old new step.Told s = one_added worker old new (Told s.0) s.1 s.2
  step_added is_through worker old new Moved s = none_added worker old new s
  step_added is_through worker old new Waits s = none_added worker old new s
  step_added is_through worker old new Ready s = none_added worker old new s.0
  step_added is_through worker old new Failed s = fails_added worker old new s

  pub step_grows : (is_through : List (Item L W) → Type 0) (worker : ℕ) (old new : List (Item L W)) (r : Step) → Steps is_through worker old new r → IsPrefix old new
  step_grows is_through worker old new r s = (let a = step_added is_through worker old new r s in (a.added, sym a.grown))

  pub step_comes : (is_through : List (Item L W) → Type 0) (worker : ℕ) (old new : List (Item L W)) (r : Step) → Steps is_through worker old new r → ComesTo is_through r new
  step_comes is_through worker old new (Took job) s = tt
  step_comes is_through worker old new step.Told s = tt
  step_comes is_through worker old new Moved s = tt
  step_comes is_through worker old new Waits s = tt
  step_comes is_through worker old new Ready s = subst is_through (sym s.0) s.1
  step_comes is_through worker old new Failed s = s.1

  -- a poll is a step of whoever makes it
  pub poll_steps : (is_through : List (Item L W) → Type 0) (worker : ℕ) (old new : List (Item L W)) (r : Step) → Polls old new r → Steps is_through worker old new r
  poll_steps is_through worker old new (Took job) s = absurd s
  poll_steps is_through worker old new step.Told s = absurd s
  poll_steps is_through worker old new Moved s = s
  poll_steps is_through worker old new Waits s = s
  poll_steps is_through worker old new Ready s = absurd s
  poll_steps is_through worker old new Failed s = s

  -- a call after one that added nothing
  pub steps_then : (is_through : List (Item L W) → Type 0) (worker : ℕ) (old between new : List (Item L W)) (r : Step) → between ≡ old → Steps is_through worker between new r → Steps is_through worker old new r
  steps_then is_through worker old between new r same s = subst (λ (l : List (Item L W)). Steps is_through worker l new r) same s

  then_same : (is_through : List (Item L W) → Type 0) (worker : ℕ) (old between new : List (Item L W)) (came r : Step) → Steps is_through worker old between came → new ≡ between → r ≡ came → Steps is_through worker old new r
  then_same is_through worker old between new came r s same is = subst (λ (z : Step). Steps is_through worker old new z) (sym is) (subst (λ (l : List (Item L W)). Steps is_through worker old l came) (sym same) s)

  -- a call and, where it could do nothing, at most a poll: a step of whoever makes them
  pub polls_then : (is_through : List (Item L W) → Type 0) (worker : ℕ) (old between new : List (Item L W)) (came r : Step) → Steps is_through worker old between came → OrPolls came between new r → Steps is_through worker old new r
  polls_then is_through worker old between new Waits r s p = steps_then is_through worker old between new r s (poll_steps is_through worker between new r p)
  polls_then is_through worker old between new (Took job) r s p = then_same is_through worker old between new (Took job) r s p.0 p.1
  polls_then is_through worker old between new step.Told r s p = then_same is_through worker old between new step.Told r s p.0 p.1
  polls_then is_through worker old between new Moved r s p = then_same is_through worker old between new Moved r s p.0 p.1
  polls_then is_through worker old between new Ready r s p = then_same is_through worker old between new Ready r s p.0 p.1
  polls_then is_through worker old between new Failed r s p = then_same is_through worker old between new Failed r s p.0 p.1

  -- a turn leaves the site its relay
  pub relay_kept : (is_through : List (Item L W) → Type 0) (worker : ℕ) (old new : SiteSeen L W) (came : Step) → Steps is_through worker (items_of old) (items_of new) came → new.relay.value ≡ old.relay.value
  relay_kept is_through worker old new came s =
      let z : relay_in (items_of new) ≡ Some old.relay.value = relays_after (items_of old) (items_of new) old.relay.value (step_grows is_through worker (items_of old) (items_of new) came s) refl in
      cc

  -- ---- places

  at_more : (worker : ℕ) (xs ys : List (Item L W)) (places : List ℕ) → IsPrefix xs ys → AllAt worker xs places → AllAt worker ys places
  at_more worker xs ys [] p a = tt
  at_more worker xs ys (q ∷ places) p a = ((a.0.0, subst (λ (l : List (Item L W)). get_elem? l q ≡ some a.0.0) p.1 (at_longer xs p.0 q a.0.0 a.0.1), a.0.2), at_more worker xs ys places p a.1)

  at_append : (worker : ℕ) (xs : List (Item L W)) (ps qs : List ℕ) → AllAt worker xs ps → AllAt worker xs qs → AllAt worker xs (ps ++ qs)
  at_append worker xs [] qs a b = b
  at_append worker xs (p ∷ ps) qs a b = (a.0, at_append worker xs ps qs a.1 b)

  at_middle : (xs ys : List (Item L W)) (x : Item L W) → get_elem? (xs ++ x ∷ ys) (length xs) ≡ some x
  at_middle [] ys x = refl
  at_middle (y ∷ xs) ys x = at_middle xs ys x

  all_at : (worker : ℕ) (old added : List (Item L W)) → AllByRecursion (IsOf worker) added → AllAt worker (old ++ added) (range_with_len (length old) (length added))
  all_at worker old [] a = tt
  all_at worker old (x ∷ xs) a =
      let longer : (old ++ x ∷ []) ++ xs ≡ old ++ x ∷ xs = append_assoc old (x ∷ []) xs in
      let n : length (old ++ x ∷ []) ≡ length old + 1 = length-append old (x ∷ []) in
      ((x, at_middle old xs x, a.0), subst (λ (z : List (Item L W) × ℕ). AllAt worker z.0 (range_with_len z.1 (length xs))) (λ i. (longer i, n i)) (all_at worker (old ++ x ∷ []) xs a.1))

  -- ---- a turn: the seat before it, with the turn, and after it

  module _ (is_through : List (Item L W) → Type 0) (worker : ℕ) (v u w : Seated (Item L W)) (old new : List (Item L W)) (r : Step) (begins : IsPrefix v.seen old) (took : u ≡ with_turn old v) (steps : Steps is_through worker old new r) (gave : w ≡ given_back new u) where
    abbrev after : Seated (Item L W)
    after = record v { turn = false; seen = new; mine = v.mine ++ new_places old new }

    after_is : w ≡ after
    after_is = gave ∙ ap (given_back new) took

    sees : IsPrefix v.seen new
    sees = prefix_trans v.seen old new begins (step_grows is_through worker old new r steps)

    pub turn_stays : Stays v w
    turn_stays = subst (Stays v) (sym after_is) (record { cell = refl; free = refl; parts = refl; olds = refl; sees = sees })

    pub turn_gets : Got worker v w
    turn_gets =
        let a : Added worker old new = step_added is_through worker old new r steps in
        let len : length new - length old ≡ length a.added = (let f = ap length a.grown in let g = length-append old a.added in omega (arith, f, g)) in
        let his : AllAt worker new (new_places old new) = subst (λ (z : List (Item L W) × ℕ). AllAt worker z.0 (range_with_len (length old) z.1)) (λ i. (sym a.grown i, sym len i)) (all_at worker old a.added a.his) in
        subst (Got worker v) (sym after_is) (record { places = new_places old new; more = refl; his = his })

    pub turn_comes : ComesTo is_through r w.seen
    turn_comes = subst (λ (s : Seated (Item L W)). ComesTo is_through r s.seen) (sym after_is) (step_comes is_through worker old new r steps)

  -- what is given back begins with what the seat, which has the turn, has seen
  pub turn_grows : (is_through : List (Item L W) → Type 0) (worker : ℕ) (v u : Seated (Item L W)) (old new : List (Item L W)) (r : Step) → u ≡ with_turn old v → Steps is_through worker old new r → IsPrefix u.seen new
  turn_grows is_through worker v u old new r took s = subst (λ (z : Seated (Item L W)). IsPrefix z.seen new) (sym took) (step_grows is_through worker old new r s)

  -- ---- turns after one another

  pub stays_itself : (v : Seated (Item L W)) → v.turn ≡ false → Stays v v
  stays_itself v free = record { cell = refl; free = free; parts = refl; olds = refl; sees = prefix_self v.seen }

  pub got_none : (worker : ℕ) (v : Seated (Item L W)) → Got worker v v
  got_none worker v = record { places = []; more = sym (append-nil v.mine); his = tt }

  pub stays_again : (v u w : Seated (Item L W)) → Stays v u → Stays u w → Stays v w
  stays_again v u w a b = record { cell = b.cell ∙ a.cell; free = b.free; parts = b.parts ∙ a.parts; olds = b.olds ∙ a.olds; sees = prefix_trans v.seen u.seen w.seen a.sees b.sees }

  pub got_again : (worker : ℕ) (v u w : Seated (Item L W)) → Got worker v u → Got worker u w → IsPrefix u.seen w.seen → Got worker v w
  got_again worker v u w a b p = record {
    places = a.places ++ b.places;
    more = b.more ∙ (ap (λ (l : List ℕ). l ++ b.places) a.more ∙ append_assoc v.mine a.places b.places);
    his = at_append worker w.seen a.places b.places (at_more worker u.seen w.seen a.places p a.his) b.his;
  }

  pub stays_sees : (v w : Seated (Item L W)) → Stays v w → Sees v w
  stays_sees v w s = record { cell = s.cell; free = s.free; parts = s.parts; sees = s.sees }

  pub leads_after : (workers : ℕ) (relay : TableId) (xs ys : List (Item L W)) → IsPrefix xs ys → Leads workers relay xs → Leads workers relay ys
  leads_after workers relay xs ys p l = record { hub = l.hub; opens = opens_after xs ys l.hub p l.opens; enough = l.enough; relays = relays_after xs ys relay p l.relays }

  pub leads_fewer : (few many : ℕ) (relay : TableId) (xs : List (Item L W)) → few ≤ many → Leads many relay xs → Leads few relay xs
  leads_fewer few many relay xs le l = record { hub = l.hub; opens = l.opens; enough = (let f = l.enough in omega (arith, le, f)); relays = l.relays }

  -- a site whose list leads so has a feed of this relay
  pub relays_site : (workers : ℕ) (relay : TableId) (s : SiteSeen L W) → Leads workers relay (items_of s) → s.relay.value ≡ relay
  relays_site workers relay s l = (let z : Some s.relay.value ≡ Some relay = l.relays in cc)

  -- and began with enough workers
  pub leads_site : (workers : ℕ) (relay : TableId) (s : SiteSeen L W) → Leads workers relay (items_of s) → workers ≤ length s.opening.value.crew
  leads_site workers relay s l =
      let same : s.opening.value ≡ l.hub = (let z : Some s.opening.value ≡ Some l.hub = l.opens in cc) in
      subst (λ (h : Seen L). workers ≤ length h.crew) (sym same) l.enough

  pub comes_done : (is_through : List (Item L W) → Type 0) (r : Step) (items : List (Item L W)) → (r ≡ Ready) ⊎ (r ≡ Failed) → ComesTo is_through r items → IsDone is_through items
  comes_done is_through r items (inl e) c = inr (subst (λ (s : Step). ComesTo is_through s items) e c)
  comes_done is_through r items (inr e) c = inl (subst (λ (s : Step). ComesTo is_through s items) e c)

  -- ---- all of them

  pub was_now : (is_through : List (Item L W) → Type 0) (workers : ℕ) (relay : TableId) (xs ys : List (Item L W)) → Leads workers relay xs → IsPrefix xs ys → IsDone is_through ys → WasDone is_through ys
  was_now is_through workers relay xs ys l p d = record { before = ys; begins = prefix_self ys; hub = l.hub; opens = opens_after xs ys l.hub p l.opens; done = d }

  pub was_later : (is_through : List (Item L W) → Type 0) (xs ys : List (Item L W)) → IsPrefix xs ys → WasDone is_through xs → WasDone is_through ys
  was_later is_through xs ys p w = record { before = w.before; begins = prefix_trans w.before xs ys w.begins p; hub = w.hub; opens = w.opens; done = w.done }

  pub one_done : (n : ℕ) (xs : List (Item L W)) → n ≡ 1 → WasDone (HasFinished n) xs → AllDone n xs
  one_done n xs is w worker from_1 within = (let e : n ≡ worker = omega (arith, is, from_1, within) in subst (λ (k : ℕ). WasDone (HasFinished k) xs) e w)

  -- the last worker's seat was taken in by that of the others
  pub workers_done : (n few : ℕ) (xs ys zs : List (Item L W)) → n ≤ few + 1 → IsPrefix xs zs → IsPrefix ys zs → AllDone few xs → WasDone (HasFinished n) ys → AllDone n zs
  workers_done n few xs ys zs le p q most last worker from_1 within = dite (ℕ_discrete worker n)
      (λ e. subst (λ (k : ℕ). WasDone (HasFinished k) zs) (sym e) (was_later (HasFinished n) ys zs q last))
      (λ apart. was_later (HasFinished worker) xs zs p (most worker from_1 (omega (arith, le, within, apart))))

  pub all_later : (n : ℕ) (xs ys : List (Item L W)) → IsPrefix xs ys → AllDone n xs → AllDone n ys
  all_later n xs ys p all worker from_1 within = was_later (HasFinished worker) xs ys p (all worker from_1 within)
