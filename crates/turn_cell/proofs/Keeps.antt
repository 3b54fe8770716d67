-- Each step keeps the rule.
use Rattle.std.proofs.Common.{◌≡◌, ◌≢◌, ℕ, zero, suc, ◌+◌, ◌-◌, ◌<◌, ◌≤◌, ◌==◌, Bool, true, false, true≢false, ne_eqb, cond, List, [], ◌∷◌, ◌++◌, length, get_or, set, refl, ap, sym, ◌∙◌, subst, ⊎_elim, arith, Option, Some, None}
use Rattle.std.specs.List.{concat, sum_by}
use Rattle.std.proofs.lemmas.List.Folds.{concat-append}
use mathlib.Core.Option as maybe
use mathlib.Core.List.{IsPrefix}
use lib.ListN.{get_elem?}
use prog.Atomic.{either}
use Rattle.atomic_table.specs.Table.{State, Me, step, Act, keeps, takes, gives, put_back, stepped, carried_after, Valid, Allows, Splits, Joins, Final, Seen}
use Rattle.atomic_table.proofs.Lists.{at_set, at_snoc}
use Rattle.turn_cell.specs.declared.view.View.{View}
use Rattle.turn_cell.specs.Seats.{new_places, StandOnce}
use Rattle.turn_cell.specs.Kept.{once, spent, left, right, both, with_list, turn_of, parts_of, times_at, AllBegin, Fits, Home, Kept, taken, published, released, untold, looked}
use Rattle.turn_cell.proofs.Sums.{prefix_self, prefix_trans, prefix_length, sum_set, sum_snoc, one_le_sum, two_le_sum, sum_alone, times, times-append, times_range, once_more, once_within, once_before, once_behind}

module _ {E : Type 0} where
  each_set : (F : View E → Type 0) (vs : List (View E)) (id : ℕ) (w : View E) → F w → ((j : ℕ) (u : View E) → j ≢ id → get_elem? vs j ≡ maybe.some u → F u)
      → (j : ℕ) (u : View E) → get_elem? (set vs id w) j ≡ maybe.some u → F u
  each_set F vs id w mine others j u e = ⊎_elim (λ (t : (j ≡ id) × (w ≡ u)). subst F t.1 mine) (λ (t : (j ≢ id) × (get_elem? vs j ≡ maybe.some u)). others j u t.0 t.1) (at_set vs id j w u e)

  begin_more : (log new : List E) (xs : List (List E)) → IsPrefix log new → AllBegin log xs → AllBegin new xs
  begin_more log new [] p a = tt
  begin_more log new (x ∷ xs) p a = (prefix_trans x log new a.0 p, begin_more log new xs p a.1)

  begin_append : (log : List E) (xs ys : List (List E)) → AllBegin log xs → AllBegin log ys → AllBegin log (xs ++ ys)
  begin_append log [] ys a b = b
  begin_append log (x ∷ xs) ys a b = (a.0, begin_append log xs ys a.1 b)

  has_turn : (v : View E) → v.turn ≡ true → turn_of v ≡ 1
  has_turn v e = ap (λ (b : Bool). cond b 1 0) e

  no_turn : (v : View E) → v.turn ≡ false → turn_of v ≡ 0
  no_turn v e = ap (λ (b : Bool). cond b 1 0) e

  -- the places after a longer list was published
  more_places : (v : View E) (new : List E) (p : ℕ) → IsPrefix v.seen new → times_at p (with_list new v) ≡ times_at p v + once (length v.seen) (length new) p
  more_places v new p grown = let a : ℕ = length v.seen in let b : ℕ = length new in let more = new_places v.seen new in let h = prefix_length v.seen new grown in
      let s : a + (b - a) ≡ b = omega arith in let t : times p more ≡ once a b p = times_range p a (b - a) ∙ ap (λ (n : ℕ). once a n p) s in
      omega (arith, t, times-append p (v.mine ++ more) (concat v.olds), times-append p v.mine more, times-append p v.mine (concat v.olds))

  both_places : (p : ℕ) (v w : View E) → times_at p (both v w) ≡ times_at p v + times_at p w
  both_places p v w = let j = ap (times p) (concat-append v.olds (w.mine ∷ w.olds)) in
      omega (arith, j, times-append p v.mine (concat (v.olds ++ w.mine ∷ w.olds)), times-append p (concat v.olds) (w.mine ++ concat w.olds), times-append p v.mine (concat v.olds))

module _ {T E : Type 0} (list : T → List E) (opening : List E) where
  abbrev V : Type 0
  V = View E

  abbrev St : Type 0
  St = State (Option T) V

  abbrev Rule : St → Type 0
  Rule = Kept list opening

  abbrev M : Type 0
  M = Me (Option T) V

  -- a step after which the log is the same
  same_log : (s : St) (k : Rule s) (id : ℕ) (v w : V) (words : List ℕ) (homes : List (maybe.Option (Option T))) (held sleepers : ℕ)
      → words ≡ k.count ∷ held ∷ sleepers ∷ [] → Home list k.log held homes → get_elem? s.views id ≡ maybe.some v → turn_of w + k.held ≡ turn_of v + held → held ≤ 1
      → w.parts ≡ v.parts → Fits k.log w → ((p : ℕ) → times_at p w ≡ times_at p v)
      → Rule record { words = words; homes = homes; views = set s.views id w }
  same_log s k id v w words homes held sleepers is home at turns one parts fits spots = record {
    log = k.log;
    count = k.count;
    held = held;
    sleepers = sleepers;
    words = is;
    counted = k.counted;
    home = home;
    turns = let a = sum_set turn_of s.views id v w at in let b = k.turns in omega arith;
    one = one;
    parts = let a = sum_set parts_of s.views id v w at in let b = k.parts in omega arith;
    each = each_set (Fits k.log) s.views id w fits (λ j u _ e. k.each j u e);
    once_each = λ p. let a = sum_set (times_at p) s.views id v w at in let b = k.once_each p in let c = spots p in omega arith;
    began = k.began;
  }

  abbrev Wins : ℕ → ℕ → M → St → ℕ → Type 0
  Wins slots id me s n = (w : V) × (a : Act (Option T)) × Valid s.homes me.1 a × Rule (stepped s 1 (either (n == 0) 1 n) id me.1 w a) × taken list (step slots 1 0 1 maybe.none) me n (w, carried_after me.1 a)

  takes_at : (slots id : ℕ) (me : M) → me.0.turn ≡ false → 0 < me.0.parts → (s : St) (k : Rule s) → get_elem? s.views id ≡ maybe.some me.0 → (n : ℕ) → k.held ≡ n → Wins slots id me s n
  takes_at slots id me free some_part s k at zero e = let v : V = me.0 in let h = subst (λ (n : ℕ). Home list k.log n s.homes) e k.home in let fits = k.each id v at in
      let w : V = record v { turn = true; seen = list h.0 } in let z = no_turn v free in (
        w,
        takes 0 (Some h.0),
        ap (λ (l : List (maybe.Option (Option T))). get_elem? l 0) h.1,
        same_log s k id v w (set s.words 1 1) (set s.homes 0 maybe.none) 1 k.sleepers (ap (λ (l : List ℕ). set l 1 1) k.words) (ap (λ (l : List (maybe.Option (Option T))). set l 0 maybe.none) h.1) at (omega arith) (omega arith) refl
            record { seen = subst (λ (l : List E). IsPrefix l k.log) (sym h.2) (prefix_self k.log); told = fits.told; held = λ _. h.2; spent = λ none. absurd (omega arith) } (λ p. refl),
        ((λ _. (h.0, refl, subst (λ (l : List E). IsPrefix v.seen l) (sym h.2) fits.seen)), λ no. absurd (no refl)),
      )
  takes_at slots id me free some_part s k at (suc n) e = let v : V = me.0 in let one = k.one in let no : (suc n == 0) ≡ false = ne_eqb (suc n) 0 (λ z. omega arith) in (
    v,
    keeps,
    tt,
    subst (λ (b : Bool). Rule (stepped s 1 (either b 1 (suc n)) id me.1 v keeps)) (sym no) (same_log s k id v v (set s.words 1 (suc n)) s.homes (suc n) k.sleepers (ap (λ (l : List ℕ). set l 1 (suc n)) k.words) (subst (λ (m : ℕ). Home list k.log m s.homes) e k.home) at
        (omega arith) (omega arith) refl (k.each id v at) (λ p. refl)),
    ((λ z. absurd (omega arith)), λ _. refl),
  )

  pub may_take : (slots id : ℕ) (me : M) → me.0.turn ≡ false → 0 < me.0.parts → Allows Rule slots id me 1 (λ n. either (n == 0) 1 n) (taken list (step slots 1 0 1 maybe.none) me)
  may_take slots id me free some_part s k _ at _ = subst (Wins slots id me s) (sym (ap (λ (l : List ℕ). get_or l 1 0) k.words)) (takes_at slots id me free some_part s k at k.held refl)

  -- the count of those who sleep changes
  pub may_sleep : (slots id : ℕ) (me : M) (f : ℕ → ℕ) → Allows Rule slots id me 2 f (untold (step slots 2 1 0 maybe.none) me)
  may_sleep slots id me f s k _ at _ = let v : V = me.0 in let n : ℕ = f (get_or s.words 2 0) in (
    v,
    keeps,
    tt,
    same_log s k id v v (set s.words 2 n) s.homes k.held n (ap (λ (l : List ℕ). set l 2 n) k.words) k.home at (omega arith) k.one refl (k.each id v at) (λ p. refl),
    refl,
  )

  abbrev Looks : ℕ → ℕ → M → St → ℕ → Type 0
  Looks slots id me s n = (w : V) × (a : Act (Option T)) × Valid s.homes me.1 a × Rule (stepped s 0 n id me.1 w a) × looked (step slots 0 0 0 maybe.none) me n (w, carried_after me.1 a)

  looks_at : (slots id : ℕ) (me : M) (s : St) (k : Rule s) → get_elem? s.views id ≡ maybe.some me.0 → Looks slots id me s k.count
  looks_at slots id me s k at = let v : V = me.0 in let fits = k.each id v at in let w : V = record v { seen = k.log; told = [] } in (
    w,
    keeps,
    tt,
    same_log s k id v w (set s.words 0 k.count) s.homes k.held k.sleepers (ap (λ (l : List ℕ). set l 0 k.count) k.words) k.home at (omega arith) k.one refl
        record { seen = prefix_self k.log; told = tt; held = λ _. refl; spent = fits.spent } (λ p. refl),
    record { log = k.log; after = refl; counted = k.counted; begins = fits.seen; told = fits.told; held = λ turn. sym (fits.held turn) },
  )

  pub may_look : (slots id : ℕ) (me : M) → Allows Rule slots id me 0 (λ n. n) (looked (step slots 0 0 0 maybe.none) me)
  may_look slots id me s k _ at _ = subst (Looks slots id me s) (sym (ap (λ (l : List ℕ). get_or l 0 0) k.words)) (looks_at slots id me s k at)

  abbrev out_of : T → List (ℕ × Option T) → T
  out_of d ((k, Some x) ∷ xs) = x
  out_of d _ = d

  is_held : (s : St) (k : Rule s) (id : ℕ) (v : V) → get_elem? s.views id ≡ maybe.some v → v.turn ≡ true → k.held ≡ 1
  is_held s k id v at turn = let a = one_le_sum turn_of s.views id v at in let b = has_turn v turn in let c = k.turns in let d = k.one in omega arith

  pub may_release : (slots id : ℕ) (me : M) (x : T) → me.0.turn ≡ true → 0 < me.0.parts → me.1 ≡ (0, Some x) ∷ [] → list x ≡ me.0.seen
      → Allows Rule slots id me 1 (λ _. 0) (λ _. released (step slots 1 0 0 maybe.none) me 0)
  may_release slots id me x turn some_part slot is s k _ at _ = let v : V = me.0 in let fits = k.each id v at in let w : V = record v { turn = false } in let e = is_held s k id v at turn in
      let out : s.homes ≡ maybe.none ∷ [] = subst (λ (n : ℕ). Home list k.log n s.homes) e k.home in let t = has_turn v turn in (
        w,
        gives,
        tt,
        same_log s k id v w (set s.words 1 0) (put_back s.homes me.1) 0 k.sleepers (ap (λ (l : List ℕ). set l 1 0) k.words)
            (x, ap (put_back s.homes) slot ∙ ap (λ (l : List (maybe.Option (Option T))). set l 0 (maybe.some (Some x))) out, is ∙ fits.held turn) at (omega arith) (omega arith) refl
            record { seen = fits.seen; told = fits.told; held = λ no. absurd (true≢false (sym no)); spent = λ none. absurd (omega arith) } (λ p. refl),
        refl,
      )

  pub may_publish : (slots id : ℕ) (me : M) (x : T) (count : ℕ) → me.0.turn ≡ true → 0 < me.0.parts → me.1 ≡ (0, Some x) ∷ [] → IsPrefix me.0.seen (list x) → count + 1 ≡ length (list x)
      → Allows Rule slots id me 0 (λ _. count) (λ _. published list (step slots 0 count 0 maybe.none) me count)
  may_publish slots id me x count turn some_part slot grown counted s k _ at _ = let v : V = me.0 in let fits = k.each id v at in let e = is_held s k id v at turn in let t = has_turn v turn in let one = k.turns in
      let is : v.seen ≡ k.log = fits.held turn in let longer : IsPrefix k.log (list x) = subst (λ (l : List E). IsPrefix l (list x)) is grown in
      let w : V = with_list (list x) v in (
        w,
        keeps,
        tt,
        record {
          log = list x;
          count = count;
          held = k.held;
          sleepers = k.sleepers;
          words = ap (λ (l : List ℕ). set l 0 count) k.words;
          counted = counted;
          home = subst (λ (n : ℕ). Home list (list x) n s.homes) (sym e) (subst (λ (n : ℕ). Home list k.log n s.homes) e k.home);
          turns = let a = sum_set turn_of s.views id v w at in omega arith;
          one = k.one;
          parts = let a = sum_set parts_of s.views id v w at in let b = k.parts in omega arith;
          each = each_set (Fits (list x)) s.views id w record { seen = prefix_self (list x); told = begin_more k.log (list x) v.told longer fits.told; held = λ _. refl; spent = λ none. absurd (omega arith) }
              (λ j u other d. let f = k.each j u d in record {
                seen = prefix_trans u.seen k.log (list x) f.seen longer;
                told = begin_more k.log (list x) u.told longer f.told;
                held = λ also. let m = two_le_sum turn_of s.views j id u v other d at in let z = has_turn u also in absurd (omega arith);
                spent = f.spent;
              });
          once_each = λ p. let a = sum_set (times_at p) s.views id v w at in let b = k.once_each p in let c = more_places v (list x) p grown in let d = ap length is in
              let o = once_more (length opening) (length v.seen) (length (list x)) p (subst (λ (n : ℕ). length opening ≤ n) (sym d) (prefix_length opening k.log k.began)) (prefix_length v.seen (list x) grown) in
              let q : once (length opening) (length k.log) p ≡ once (length opening) (length v.seen) p = ap (λ (n : ℕ). once (length opening) n p) (sym d) in omega arith;
          began = prefix_trans opening k.log (list x) k.began longer;
        },
        λ y also. let same : x ≡ y = ap (out_of x) (sym slot ∙ also) in ap (λ (z : T). let m : M = (with_list (list z) v, me.1) in m) same,
      )

  pub may_split : (id : ℕ) (v : V) → 2 ≤ v.parts → Splits Rule id v (left v) (right v)
  may_split id v two s k at = let fits = k.each id v at in record {
    log = k.log;
    count = k.count;
    held = k.held;
    sleepers = k.sleepers;
    words = k.words;
    counted = k.counted;
    home = k.home;
    turns = let a = sum_set turn_of s.views id v (left v) at in let b = sum_snoc turn_of (set s.views id (left v)) (right v) in let c = k.turns in omega arith;
    one = k.one;
    parts = let a = sum_set parts_of s.views id v (left v) at in let b = sum_snoc parts_of (set s.views id (left v)) (right v) in let c = k.parts in omega arith;
    each = λ j u e. ⊎_elim (each_set (Fits k.log) s.views id (left v) record { seen = fits.seen; told = fits.told; held = fits.held; spent = λ none. absurd (omega arith) } (λ i x _ d. k.each i x d) j u)
        (λ (t : right v ≡ u). subst (Fits k.log) t record { seen = fits.seen; told = tt; held = λ no. absurd (true≢false (sym no)); spent = λ none. absurd (omega arith) }) (at_snoc (set s.views id (left v)) (right v) u j e);
    once_each = λ p. let a = sum_set (times_at p) s.views id v (left v) at in let b = sum_snoc (times_at p) (set s.views id (left v)) (right v) in let c = k.once_each p in omega arith;
    began = k.began;
  }

  pub may_join : (id : ℕ) (v : V) (other : ℕ) (w : V) → 0 < v.parts → w.turn ≡ false → Joins Rule id v other w (both v w) spent
  may_join id v other w some_part free s k at two at' = let fits = k.each id v at in let vs : List V = set s.views id (both v w) in
      let was : get_elem? s.views other ≡ maybe.some w = ⊎_elim (λ x. absurd (two x.0)) (λ x. x.1) (at_set s.views id other (both v w) w at') in let theirs = k.each other w was in record {
        log = k.log;
        count = k.count;
        held = k.held;
        sleepers = k.sleepers;
        words = k.words;
        counted = k.counted;
        home = k.home;
        turns = let a = sum_set turn_of s.views id v (both v w) at in let b = sum_set turn_of vs other w spent at' in let c = k.turns in let z = no_turn w free in omega arith;
        one = k.one;
        parts = let a = sum_set parts_of s.views id v (both v w) at in let b = sum_set parts_of vs other w spent at' in let c = k.parts in omega arith;
        each = each_set (Fits k.log) vs other spent record { seen = (k.log, refl); told = tt; held = λ no. absurd (true≢false (sym no)); spent = λ _. (refl, refl) }
            (λ j u _ e. each_set (Fits k.log) s.views id (both v w) record { seen = fits.seen; told = (theirs.seen, begin_append k.log w.told v.told theirs.told fits.told); held = fits.held; spent = λ none. absurd (omega arith) }
            (λ i x _ d. k.each i x d) j u e);
        once_each = λ p. let a = sum_set (times_at p) s.views id v (both v w) at in let b = sum_set (times_at p) vs other w spent at' in let c = k.once_each p in let d = both_places p v w in omega arith;
        began = k.began;
      }

  -- what the table's last state says of the state that is taken out
  pub record Closes (v : V) (x : T) : Type 0 where
    pub origin : IsPrefix opening (list x)
    pub seen : IsPrefix v.seen (list x)
    pub stand : StandOnce (length opening) (length (list x)) (v.mine ∷ v.olds)

  closes : (id : ℕ) (v : V) (ws : List ℕ) (xs : List (Option T)) → v.parts ≡ 16 → v.turn ≡ false → Final (Seen Rule id v) ws xs → (x : T) × (get_elem? xs 0 ≡ maybe.some (Some x)) × Closes v x
  closes id v ws xs all free f = let s = f.0 in let k = f.1.0 in let at = f.1.1 in let sum = k.parts in let fits = k.each id v at in
      let idle : (j : ℕ) (u : V) → j ≢ id → get_elem? s.views j ≡ maybe.some u → u.parts ≡ 0 = λ j u n e. let m = two_le_sum parts_of s.views j id u v n e at in omega arith in
      let none : sum_by turn_of s.views ≡ turn_of v = sum_alone turn_of s.views id v at (λ j u n e. no_turn u ((k.each j u e).spent (idle j u n e)).0) in
      let z = no_turn v free in let c = k.turns in let e : k.held ≡ 0 = omega arith in
      let home = subst (λ (n : ℕ). Home list k.log n s.homes) e k.home in let is = home.2 in
      let spots : (p : ℕ) → times_at p v ≡ once (length opening) (length (list home.0)) p = λ p.
      let a : sum_by (times_at p) s.views ≡ times_at p v = sum_alone (times_at p) s.views id v at (λ j u n d. ap (times p) ((k.each j u d).spent (idle j u n d)).1) in
      sym a ∙ k.once_each p ∙ ap (λ (l : List E). once (length opening) (length l) p) (sym is) in (
        home.0,
        f.4 0 (Some home.0) (ap (λ (l : List (maybe.Option (Option T))). get_elem? l 0) home.1),
        record {
          origin = subst (λ (l : List E). IsPrefix opening l) (sym is) k.began;
          seen = subst (λ (l : List E). IsPrefix v.seen l) (sym is) fits.seen;
          stand = record {
            within = λ p from to. spots p ∙ once_within (length opening) (length (list home.0)) p from to;
            before = λ p from. spots p ∙ once_before (length opening) (length (list home.0)) p from;
            behind = λ p to. spots p ∙ once_behind (length opening) (length (list home.0)) p to;
          };
        },
      )

  abbrev value_or : T → Option T → T
  value_or d (Some x) = x
  value_or d None = d

  -- the slot holds a state
  pub holds_some : (id : ℕ) (v : V) (ws : List ℕ) (xs : List (Option T)) (slot : Option T) → Final (Seen Rule id v) ws xs → get_elem? xs 0 ≡ maybe.some slot → v.parts ≡ 16 → v.turn ≡ false → (x : T) × (slot ≡ Some x)
  holds_some id v ws xs slot f taken_out all free = let h = closes id v ws xs all free f in (h.0, maybe.some-injective slot (Some h.0) (sym taken_out ∙ h.1))

  -- and that state is the one that the rule speaks of
  pub closes_as : (id : ℕ) (v : V) (ws : List ℕ) (xs : List (Option T)) (slot : Option T) (state : T) → Final (Seen Rule id v) ws xs → get_elem? xs 0 ≡ maybe.some slot → slot ≡ Some state → v.parts ≡ 16 → v.turn ≡ false → Closes v state
  closes_as id v ws xs slot state f taken_out is all free = let h = closes id v ws xs all free f in
      let same : Some h.0 ≡ Some state = maybe.some-injective (Some h.0) (Some state) (sym h.1 ∙ taken_out ∙ ap (λ (o : Option T). maybe.some o) is) in subst (Closes v) (ap (value_or h.0) same) h.2
