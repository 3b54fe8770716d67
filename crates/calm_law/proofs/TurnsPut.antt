-- Each group telegram of a run is put at most once; and where none of them is a read, no request that is put asks for a value.
use Rattle.std.proofs.Common.{◌≡◌, ◌≢◌, ◌⊎◌, ℕ, zero, suc, ◌+◌, ◌*◌, ◌-◌, ◌/◌, ◌%◌, ◌<◌, ◌≤◌, List, [], ◌∷◌, length, Bool, true, false, ◌&&◌, ◌||◌, cond, Option, Some, None, refl, sym, ◌∙◌, ap, subst, arith, inl, inr}
use Rattle.std.specs.Prelude.{IfSome, nat_lt, nat_le}
use Rattle.std.specs.List.{AllByRecursion}
use Rattle.std.proofs.lemmas.Bool.{cases_order, eqb-true, or_parts}
use Rattle.std.proofs.lemmas.Bool.Decides.{nat_tests}
use Rattle.knx_model.specs.declared.frames.cemi.Ldata.{Ldata}
use Rattle.knx_model.specs.declared.script.GroupService.{GroupService}
use Rattle.knx_model.specs.declared.script.GroupService.TheVariants.{Read, Write, Response}
use Rattle.knx_model.specs.Apdu.{long, short}
use Rattle.knx_model.specs.ApduReading.{apdu_octets}
use Rattle.line_model.specs.declared.group.GroupTurn.{GroupTurn}
use Rattle.line_model.specs.declared.log.LogEntry.{LogEntry}
use Rattle.line_model.specs.declared.log.LogWhat.{LogWhat}
use Rattle.line_model.specs.declared.log.LogWhat.TheVariants.{Took, Done, Failed, Refused, Sent, Lost}
use Rattle.line_model.specs.Asks.{IsOfJob, IsRightDeed, IsRightRequest, IsTurn, moment_of}
use Rattle.line_model.specs.ClientView.{Deed, Puts, Takes, Loses, Nothing}
use Rattle.line_model.specs.Log.{IsLog, IsNextTurn, Job, MayFollow, has_entry, is_turn, log_before, turn_of, turn_place}
use Rattle.line_model.specs.Moments.{Moment, between, moments, put_frame, where_is}
use Rattle.line_model.specs.Reading.{is_req}
use Rattle.line_model.specs.Record.{Item, Placed, entries, entry, item_at, placed, placed_if}
use Rattle.line_model.specs.Signs.{Every}
use Rattle.line_model.specs.Told.{PutsNoGroup, is_group, service_of}
use Rattle.line_model.specs.World.{World, Event, now, replay}
use Rattle.line_law.specs.Safe.{EachAsked}
use Rattle.calm_law.specs.CalmCounts.{group_requests, reads, some_reads}
use Rattle.calm_law.proofs.Held.{before_in, less}
use Rattle.calm_law.proofs.Numbered.{each_of, one_before, within}
use Rattle.calm_law.proofs.ShortValues.{HasReadCode}
use Rattle.calm_law.proofs.Unread.{AsksNone, AsksNothing, IsUnasked}

-- ---- what is told stays so

or_right : (a b : Bool) → b ≡ true → (a || b) ≡ true
or_right true b h = refl
or_right false b h = h

either_true : (a b c : Bool) → (a || b) ≡ true → (b ≡ true → c ≡ true) → (a || c) ≡ true
either_true true b c h f = refl
either_true false b c h f = f h

told_later : (k a b : ℕ) (log : List LogEntry) → a ≤ b → has_entry k (log_before a log) ≡ true → has_entry k (log_before b log) ≡ true
told_later k a b [] le h = h
told_later k a b (e ∷ log) le h = by_both (less e.at a) (less e.at b) (told_later k a b log le) where
  by_both : (nat_lt e.at a ≡ true) ⊎ (nat_lt e.at a ≡ false) → (nat_lt e.at b ≡ true) ⊎ (nat_lt e.at b ≡ false) → (has_entry k (log_before a log) ≡ true → has_entry k (log_before b log) ≡ true) → has_entry k (log_before b (e ∷ log)) ≡ true
  by_both (inl x) (inl y) further =
      ap (has_entry k) (before_in b e log true y) ∙ either_true (is_turn k e.what) (has_entry k (log_before a log)) (has_entry k (log_before b log)) (sym (ap (has_entry k) (before_in a e log true x)) ∙ h) further
  by_both (inl x) (inr y) further = absurd (let z : nat_lt e.at b ≡ true = grind (arith, nat_tests) in cc)
  by_both (inr x) (inl y) further = ap (has_entry k) (before_in b e log true y) ∙ or_right (is_turn k e.what) (has_entry k (log_before b log)) (further (sym (ap (has_entry k) (before_in a e log false x)) ∙ h))
  by_both (inr x) (inr y) further = ap (has_entry k) (before_in b e log false y) ∙ further (sym (ap (has_entry k) (before_in a e log false x)) ∙ h)

told_in_all : (k a : ℕ) (log : List LogEntry) → has_entry k (log_before a log) ≡ true → has_entry k log ≡ true
told_in_all k a [] h = h
told_in_all k a (e ∷ log) h = by_test (less e.at a) (told_in_all k a log) where
  by_test : (nat_lt e.at a ≡ true) ⊎ (nat_lt e.at a ≡ false) → (has_entry k (log_before a log) ≡ true → has_entry k log ≡ true) → has_entry k (e ∷ log) ≡ true
  by_test (inl x) further = either_true (is_turn k e.what) (has_entry k (log_before a log)) (has_entry k log) (sym (ap (has_entry k) (before_in a e log true x)) ∙ h) further
  by_test (inr x) further = or_right (is_turn k e.what) (has_entry k log) (further (sym (ap (has_entry k) (before_in a e log false x)) ∙ h))

module _ (jobs : List Job) (turns : List GroupTurn) (count : ℕ) where
  -- ---- where a telegram is told

  next_there : (k worker : ℕ) (what : LogWhat) (log : List LogEntry) → is_turn k what ≡ true → MayFollow jobs turns worker log what → IsNextTurn turns log k
  next_there k worker (Took j) log is may = absurd (cc)
  next_there k worker (Done j) log is may = absurd (cc)
  next_there k worker (Failed j signs) log is may = absurd (cc)
  next_there k worker (Refused j op got expected) log is may = absurd (cc)
  next_there k worker (Sent j) log is may = subst (IsNextTurn turns log) (eqb-true j k is) may.0
  next_there k worker (Lost j) log is may = subst (IsNextTurn turns log) (eqb-true j k is) may.0

  abbrev place_in : ℕ → LogEntry → List LogEntry → Bool → ℕ
  place_in k e log b = cond {A = ℕ} b e.at (turn_place k log)

  -- one that was told before a is told there
  told_before : (k a b : ℕ) (log : List LogEntry) → IsLog jobs turns count log → a ≤ b → has_entry k (log_before a log) ≡ true → turn_place k (log_before b log) < a
  told_before k a b [] form le h = absurd (cc)
  told_before k a b (e ∷ log) form le h = by_both (told_before k a b log form.1 le) (less e.at a) (less e.at b) where
    at_entry : nat_lt e.at b ≡ true → (has_entry k (log_before a log) ≡ true → turn_place k (log_before b log) < a) → (t : Bool) → is_turn k e.what ≡ t → (nat_lt e.at a ≡ true) ⊎ (nat_lt e.at a ≡ false) → place_in k e (log_before b log) (is_turn k e.what) < a
    at_entry y further true t (inl x) = subst (λ z. place_in k e (log_before b log) z < a) (sym t) (grind (arith, nat_tests))
    at_entry y further true t (inr x) =
        let told : has_entry k (log_before a log) ≡ true = sym (ap (has_entry k) (before_in a e log false x)) ∙ h in
        absurd (let told_all = told_in_all k a log told in let untold = (next_there k e.worker e.what log t form.0.follows).untold in cc)
    at_entry y further false t (inl x) = subst (λ z. place_in k e (log_before b log) z < a) (sym t) (further (sym (ap (λ z. z || has_entry k (log_before a log)) t) ∙ sym (ap (has_entry k) (before_in a e log true x)) ∙ h))
    at_entry y further false t (inr x) = subst (λ z. place_in k e (log_before b log) z < a) (sym t) (further (sym (ap (has_entry k) (before_in a e log false x)) ∙ h))

    by_both : (has_entry k (log_before a log) ≡ true → turn_place k (log_before b log) < a) → (nat_lt e.at a ≡ true) ⊎ (nat_lt e.at a ≡ false) → (nat_lt e.at b ≡ true) ⊎ (nat_lt e.at b ≡ false) → turn_place k (log_before b (e ∷ log)) < a
    by_both further x (inl y) = subst (λ z. turn_place k z < a) (sym (before_in b e log true y)) (at_entry y further (is_turn k e.what) refl x)
    by_both further (inl x) (inr y) = absurd (let z : nat_lt e.at b ≡ true = grind (arith, nat_tests) in cc)
    by_both further (inr x) (inr y) = subst (λ z. turn_place k z < a) (sym (before_in b e log false y)) (further (sym (ap (has_entry k) (before_in a e log false x)) ∙ h))

  -- none has the number 0
  never_first : (b : ℕ) (log : List LogEntry) → IsLog jobs turns count log → turn_place 0 (log_before b log) ≡ 0
  never_first b [] form = refl
  never_first b (e ∷ log) form = by_test (never_first b log form.1) (less e.at b) where
    at_entry : turn_place 0 (log_before b log) ≡ 0 → (t : Bool) → is_turn 0 e.what ≡ t → place_in 0 e (log_before b log) (is_turn 0 e.what) ≡ 0
    at_entry further true t = absurd ((next_there 0 e.worker e.what log t form.0.follows).there refl)
    at_entry further false t = ap (place_in 0 e (log_before b log)) t ∙ further

    by_test : turn_place 0 (log_before b log) ≡ 0 → (nat_lt e.at b ≡ true) ⊎ (nat_lt e.at b ≡ false) → turn_place 0 (log_before b (e ∷ log)) ≡ 0
    by_test further (inl y) = ap (turn_place 0) (before_in b e log true y) ∙ at_entry further (is_turn 0 e.what) refl
    by_test further (inr y) = ap (turn_place 0) (before_in b e log false y) ∙ further

  module _ (start : World) (log : List LogEntry) (form : IsLog jobs turns count log) where
    -- the telegrams before the next one were told before, the first aside, which has none before it
    place_of : (a b k : ℕ) → 1 ≤ a → a ≤ b → IsNextTurn turns (log_before a log) k → turn_place (k - 1) (log_before b log) < a
    place_of a b zero some le next = absurd (next.there refl)
    place_of a b (suc zero) some le next = (let first = never_first b log form in omega (arith, first, some))
    place_of a b (suc (suc j)) some le next =
        let lower : suc (suc j) - 1 ≡ suc j = omega arith in
        subst (λ z. turn_place z (log_before b log) < a) (sym lower) (told_before (suc j) a b log form le (next.least (suc j) (omega arith) (one_before turns j next.there)))

    -- ---- each put is of a later one

    in_between : (since upto : ℕ) (m : Moment) (l : List Moment) → since < m.at → m.at ≤ upto → Every PutsNoGroup (between since upto (m ∷ l)) → PutsNoGroup m
    in_between since upto m l lt le h = (subst (Every PutsNoGroup) (there (nat_lt since m.at) (nat_le m.at upto) (grind (arith, nat_tests)) (grind (arith, nat_tests))) h).0 where
      there : (a b : Bool) → a ≡ true → b ≡ true → cond {A = List Moment} (a && b) (m ∷ between since upto l) (between since upto l) ≡ m ∷ between since upto l
      there true true p q = refl
      there true false p q = absurd (cc)
      there false b p q = absurd (cc)

    others_between : (since upto : ℕ) (m : Moment) (l : List Moment) → Every PutsNoGroup (between since upto (m ∷ l)) → Every PutsNoGroup (between since upto l)
    others_between since upto m l h = by_test (nat_lt since m.at && nat_le m.at upto) h where
      by_test : (b : Bool) → Every PutsNoGroup (cond {A = List Moment} b (m ∷ between since upto l) (between since upto l)) → Every PutsNoGroup (between since upto l)
      by_test true h = h.1
      by_test false h = h

    record Counted (n : ℕ) (places : List Placed) : Type 0 where
      low : (b k : ℕ) → n ≤ b → IsNextTurn turns (log_before b log) k → group_requests (entries places) ≤ k
      more : (b k : ℕ) → n ≤ b → IsNextTurn turns (log_before b log) k → Every PutsNoGroup (between (turn_place (k - 1) (log_before b log)) b (moments places)) → suc (group_requests (entries places)) ≤ k
      all : group_requests (entries places) ≤ length turns

    -- of a request that is put
    turn_put : (older : List Placed) (l : List LogEntry) (m : Moment) (octets : List ℕ) → m.what ≡ Puts octets → IsRightRequest jobs turns l older m octets → is_group (put_frame m.what) ≡ true → IsTurn jobs turns l older m
    turn_put older l m octets is right group = by_why right.why where
      frame_is : put_frame m.what ≡ Some right.frame
      frame_is = ap put_frame is ∙ ap (where_is (λ (f : Ldata). is_req f.code)) right.reads ∙ ap (λ b. cond {A = Option Ldata} b (Some right.frame) None) right.request

      by_why : IsTurn jobs turns l older m ⊎ IsOfJob jobs l older m right.frame → IsTurn jobs turns l older m
      by_why (inl turn) = turn
      by_why (inr job) = absurd (let z : is_group (put_frame m.what) ≡ false = ap is_group frame_is ∙ job.alone in cc)

    module _ (n : ℕ) (places : List Placed) (p : Placed) (at : p.at ≡ suc n) (c : Counted n places) (right : IsRightDeed jobs turns (log_before p.at log) places (moment_of places p) (moment_of places p).what) where
      abbrev m : Moment
      m = moment_of places p

      abbrev g : ℕ
      g = group_requests (entries places)

      by_what : (what : Deed) → m.what ≡ what → IsRightDeed jobs turns (log_before p.at log) places m what → is_group (put_frame m.what) ≡ true → IsTurn jobs turns (log_before p.at log) places m
      by_what (Puts octets) is r group = turn_put places (log_before p.at log) m octets is r group
      by_what (Takes octets) is r group = absurd (let z : is_group (put_frame m.what) ≡ false = ap (λ d. is_group (put_frame d)) is in cc)
      by_what Loses is r group = absurd (let z : is_group (put_frame m.what) ≡ false = ap (λ d. is_group (put_frame d)) is in cc)
      by_what Nothing is r group = absurd (let z : is_group (put_frame m.what) ≡ false = ap (λ d. is_group (put_frame d)) is in cc)

      counted_same : is_group (put_frame m.what) ≡ false → Counted (suc n) (p ∷ places)
      counted_same none =
          let same : group_requests (entries (p ∷ places)) ≡ g = ap (λ b. cond {A = ℕ} b (suc g) g) none in
          record {
            low = λ b k le next. subst (λ z. z ≤ k) (sym same) (c.low b k (omega (arith, le)) next);
            more = λ b k le next since. subst (λ z. suc z ≤ k) (sym same) (c.more b k (omega (arith, le)) next (others_between (turn_place (k - 1) (log_before b log)) b m (moments places) since));
            all = subst (λ z. z ≤ length turns) (sym same) c.all;
          }

      -- the telegram that is put, and what is next later
      module _ (turn : IsTurn jobs turns (log_before p.at log) places m) (group : is_group (put_frame m.what) ≡ true) where
        above : suc g ≤ turn.k
        above = c.more p.at turn.k (omega (arith, at)) turn.next turn.once

        not_later : (b k : ℕ) → suc n ≤ b → IsNextTurn turns (log_before b log) k → turn.k ≤ k
        not_later b k le next = elim (cases_order k turn.k) [
          | inl same ↦ omega (arith, same)
          | inr (inl before) ↦ absurd (let told = told_later k p.at b log (omega (arith, le, at)) (turn.next.least k before next.there) in let untold = next.untold in cc)
          | inr (inr later) ↦ omega (arith, later)
        ]

        not_same : (b k : ℕ) → suc n ≤ b → IsNextTurn turns (log_before b log) k → Every PutsNoGroup (between (turn_place (k - 1) (log_before b log)) b (moments (p ∷ places))) → turn.k ≡ k → ⊥
        not_same b k le next none same =
            let lower : turn_place (k - 1) (log_before b log) < p.at = place_of p.at b k (omega (arith, at)) (omega (arith, le, at)) (subst (IsNextTurn turns (log_before p.at log)) same turn.next) in
            let none_here : PutsNoGroup m = in_between (turn_place (k - 1) (log_before b log)) b m (moments places) lower (omega (arith, le, at)) none in
            let z : true ≡ false = sym group ∙ none_here in
            cc

        counted_turn : Counted (suc n) (p ∷ places)
        counted_turn =
            let one_more : group_requests (entries (p ∷ places)) ≡ suc g = ap (λ b. cond {A = ℕ} b (suc g) g) group in
            let first = above in
            record {
              low = λ b k le next. (let most = not_later b k le next in omega (arith, one_more, first, most));
              more = λ b k le next none. (let most = not_later b k le next in
                  elim (cases_order turn.k k) [
                    | inl same ↦ absurd (not_same b k le next none same)
                    | inr (inl before) ↦ omega (arith, one_more, first, before)
                    | inr (inr later) ↦ absurd (omega (arith, later, most))
                  ]);
              all = (let most = (within turns turn.k turn.turn turn.there).1 in omega (arith, one_more, first, most));
            }

      counted_more : Counted (suc n) (p ∷ places)
      counted_more = by_group (is_group (put_frame m.what)) refl where
        by_group : (b : Bool) → is_group (put_frame m.what) ≡ b → Counted (suc n) (p ∷ places)
        by_group false none = counted_same none
        by_group true group = counted_turn (by_what m.what refl right group) group

    counted : (events : List Event) → EachAsked jobs turns log (placed start events) → Counted (length events) (placed start events)
    counted [] asks = record { low = λ b k le next. omega arith; more = λ b k le next none. first k next.there; all = omega arith } where
      first : (k : ℕ) → turn_of turns k ≢ None → 1 ≤ k
      first zero there = absurd (there refl)
      first (suc k) there = omega arith
    counted (e ∷ past) asks = by_item (item_at (replay start past) e) (λ h. counted past h) asks where
      by_item : (o : Option Item) → (EachAsked jobs turns log (placed start past) → Counted (length past) (placed start past)) → EachAsked jobs turns log (placed_if (suc (length past)) (now (replay start (e ∷ past))) o (placed start past))
          → Counted (suc (length past)) (placed_if (suc (length past)) (now (replay start (e ∷ past))) o (placed start past))
      by_item None c h =
          let old = c h in
          record { low = λ b k le next. old.low b k (omega (arith, le)) next; more = λ b k le next none. old.more b k (omega (arith, le)) next none; all = old.all }
      by_item (Some what) c h = counted_more (length past) (placed start past) (record { at = suc (length past); what = entry what (now (replay start (e ∷ past))) }) refl (c h.1) h.0

    pub few_requests : (events : List Event) → EachAsked jobs turns log (placed start events) → group_requests (entries (placed start events)) ≤ length turns
    few_requests events asks = (counted events asks).all

-- ---- where none of them is a read

code_not : (code : ℕ) (rest : List ℕ) → 64 ≤ code → HasReadCode ((4 * 0 + code / 256) ∷ code % 256 ∷ rest) → ⊥
code_not code rest more h =
    let first : 4 * 0 + code / 256 < 4 = grind (arith, nat_tests) in
    let none : (256 * ((4 * 0 + code / 256) % 4) + code % 256) / 64 * 64 ≡ 0 = grind (arith, nat_tests) in
    omega (arith, more, first, none)

service_not : (service : GroupService) → reads service ≡ false → HasReadCode (apdu_octets (service_of service)) → ⊥
service_not Read writes h = absurd (cc)
service_not (Write value) writes h = code_not (0x080 + short value) (long value) (omega arith) h
service_not (Response value) writes h = code_not (0x040 + short value) (long value) (omega arith) h

each_writes : (turns : List GroupTurn) → some_reads turns ≡ false → AllByRecursion (λ (turn : GroupTurn). reads turn.service ≡ false) turns
each_writes [] none = tt
each_writes (turn ∷ turns) none = let both = or_parts (reads turn.service) (some_reads turns) none in (both.0, each_writes turns both.1)

module _ (jobs : List Job) (turns : List GroupTurn) (start : World) (none : some_reads turns ≡ false) where
  unasked : (l : List LogEntry) (older : List Placed) (m : Moment) (what : Deed) → m.what ≡ what → IsRightDeed jobs turns l older m what → IsUnasked start what
  unasked l older m (Puts octets) is right = subst (λ o. IfSome o AsksNone) (sym right.reads) (λ group code. by_why group code right.why) where
    by_why : right.frame.group ≡ true → HasReadCode right.frame.tpdu → IsTurn jobs turns l older m ⊎ IsOfJob jobs l older m right.frame → ⊥
    by_why group code (inr job) = (let alone = job.alone in cc)
    by_why group code (inl turn) =
        let put : Some turn.is_its.frame ≡ Some right.frame = sym turn.is_its.put ∙ ap put_frame is ∙ ap (where_is (λ (f : Ldata). is_req f.code)) right.reads ∙ ap (λ b. cond {A = Option Ldata} b (Some right.frame) None) right.request in
        let same : turn.is_its.frame ≡ right.frame = cc in
        service_not turn.turn.service (each_of (λ (t : GroupTurn). reads t.service ≡ false) turns (each_writes turns none) turn.k turn.turn turn.there) (subst HasReadCode (ap (λ (f : Ldata). f.tpdu) (sym same) ∙ turn.is_its.service) code)
  unasked l older m (Takes octets) is right = tt
  unasked l older m Loses is right = tt
  unasked l older m Nothing is right = tt

  pub asks_nothing : (log : List LogEntry) (places : List Placed) → EachAsked jobs turns log places → AsksNothing start (entries places)
  asks_nothing log [] h = tt
  asks_nothing log (p ∷ older) h = (unasked (log_before p.at log) older (moment_of older p) (moment_of older p).what refl h.0, asks_nothing log older h.1)
