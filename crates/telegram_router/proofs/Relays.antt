-- Each step keeps the rule.
use Rattle.std.proofs.Common.{◌≡◌, ◌≢◌, ℕ, zero, suc, ◌+◌, ◌≤◌, true, true≢false, List, [], ◌∷◌, ◌++◌, length, set, sym, refl, ap, ◌∙◌, subst, ⊎_elim, append_assoc, length-append, arith}
use mathlib.Core.Option.{some, some-ne-none}
use lib.ListN.{get_elem?}
use Rattle.crossbeam_queue.specs.Fifo.{Pushes, Pops, Forks, Merges, Learns}
use Rattle.crossbeam_queue.proofs.Lists.{at_set, at_snoc}
use Rattle.telegram_router.specs.declared.view.View.{View}
use Rattle.telegram_router.specs.Relayed.{first_view, left, right, both, spent, Writes, Fits, Relayed, pushed, popped, waiting}

-- where the list has no b, b stands behind its end alone
at_end : {A : Type 0} (l : List A) (a b : A) (j : ℕ) → get_elem? l j ≢ some b → get_elem? (l ++ a ∷ []) j ≡ some b → j ≡ length l
at_end [] a b zero n e = refl
at_end [] a b (suc j) n e = absurd (some-ne-none b (sym e))
at_end (x ∷ xs) a b zero n e = absurd (n e)
at_end (x ∷ xs) a b (suc j) n e = ap suc (at_end xs a b j n e)

module _ (T : Type 0) where
  abbrev V : Type 0
  V = View T

  abbrev Every : (ℕ → V → Type 0) → List V → Type 0
  Every F views = (port : ℕ) (v : V) → get_elem? views port ≡ some v → F port v

  every_set : (F : ℕ → V → Type 0) (views : List V) (port : ℕ) (w : V) → F port w → ((j : ℕ) (u : V) → j ≢ port → get_elem? views j ≡ some u → F j u) → Every F (set views port w)
  every_set F views port w mine others j u e = ⊎_elim (λ (x : (j ≡ port) × (w ≡ u)). subst (λ (y : ℕ × V). F y.0 y.1) (λ i. (sym x.0 i, x.1 i)) mine)
      (λ (x : (j ≢ port) × (get_elem? views j ≡ some u)). others j u x.0 x.1) (at_set views port j w u e)

  abbrev start : V
  start = first_view

  pub begins : Relayed {T = T} [] (start ∷ [])
  begins = record {
    writer = 0;
    reader = 0;
    put = [];
    got = [];
    all = refl;
    each = every_set (Fits 0 0 [] []) (start ∷ []) 0 start
        record { feed = λ _. record { port_is = refl; put_is = refl; popped_then = omega arith }; ear = λ _. record { port_is = refl; got_is = refl } }
        (λ j u other e. absurd (other (at_end [] _ u j (λ x. some-ne-none u (sym x)) e)));
  }

  pub sends : (n port : ℕ) (v : V) (x : T) → n ≡ 4096 → v.pushes ≡ true → Pushes Relayed n port v x (pushed v x)
  sends n port v x room may items views short h at = let mine = h.each port v at in let before = mine.feed may in let put = h.put ++ x ∷ [] in
      let w : V = record v { put = v.put ++ x ∷ []; popped = length h.got } in
      let sum : length h.put ≡ length h.got + length items = ap length h.all ∙ length-append h.got items in let same : length v.put ≡ length h.put = ap length before.put_is in (
        w,
        record {
          writer = h.writer;
          reader = h.reader;
          put = put;
          got = h.got;
          all = ap (λ l. l ++ x ∷ []) h.all ∙ append_assoc h.got items (x ∷ []);
          each = every_set (Fits h.writer h.reader put h.got) views port w
              record { feed = λ _. record { port_is = before.port_is; put_is = ap (λ l. l ++ x ∷ []) before.put_is; popped_then = omega arith }; ear = λ p. record { port_is = (mine.ear p).port_is; got_is = (mine.ear p).got_is } }
              (λ j u other e. let f = h.each j u e in record { feed = λ p. absurd (other ((f.feed p).port_is ∙ sym before.port_is)); ear = f.ear });
        },
        record { after = refl; later = before.popped_then; room = omega arith },
      )

  pub gets : (port : ℕ) (v : V) → v.pops ≡ true → Pops Relayed port v (popped v)
  gets port v may x items views h at = let w : V = record v { got = v.got ++ x ∷ [] } in let mine = h.each port v at in let before = mine.ear may in let got = h.got ++ x ∷ [] in
      let longer : length got ≡ length h.got + 1 = length-append h.got (x ∷ []) in (
        w,
        record {
          writer = h.writer;
          reader = h.reader;
          put = h.put;
          got = got;
          all = h.all ∙ sym (append_assoc h.got (x ∷ []) items);
          each = every_set (Fits h.writer h.reader h.put got) views port w
              record {
                feed = λ p. let f = mine.feed p in let b = f.popped_then in record { port_is = f.port_is; put_is = f.put_is; popped_then = omega arith };
                ear = λ _. record { port_is = before.port_is; got_is = ap (λ l. l ++ x ∷ []) before.got_is };
              }
              (λ j u other e. let f = h.each j u e in record {
                feed = λ p. let g = f.feed p in let b = g.popped_then in record { port_is = g.port_is; put_is = g.put_is; popped_then = omega arith };
                ear = λ p. absurd (other ((f.ear p).port_is ∙ sym before.port_is));
              });
        },
        (refl, λ all. (items, append_assoc v.got (x ∷ []) items ∙ ap (λ l. l ++ x ∷ items) before.got_is ∙ sym h.all ∙ sym (mine.feed all).put_is)),
      )

  -- the first end is cut into a feed and an ear
  pub forks : (port : ℕ) (v : V) → v.pushes ≡ true → v.pops ≡ true → Forks Relayed port v (left v) (right v)
  forks port v a b items views h at = let l : V = left v in let r : V = right v in let mine = h.each port v at in let ear = mine.ear b in let vs : List V = set views port l in
      let Old : ℕ → V → Type 0 = λ j u. (u.pushes ≡ true → Writes h.writer h.put h.got j u) × (u.pops ≢ true) in
      let feed = mine.feed a in
      let old : Every Old vs = every_set Old views port l ((λ _. record { port_is = feed.port_is; put_is = feed.put_is; popped_then = feed.popped_then }), λ p. true≢false (sym p))
      (λ j u other e. ((h.each j u e).feed, λ p. other (((h.each j u e).ear p).port_is ∙ sym ear.port_is))) in record {
        writer = h.writer;
        reader = length vs;
        put = h.put;
        got = h.got;
        all = h.all;
        each = λ j u e. ⊎_elim (λ x. record { feed = (old j u x).0; ear = λ p. absurd ((old j u x).1 p) })
            (λ (is : r ≡ u). record {
              feed = λ p. absurd (true≢false (sym (ap (λ (y : V). y.pushes) is ∙ p)));
              ear = λ p. record { port_is = at_end vs r u j (λ x. (old j u x).1 p) e; got_is = ap (λ (y : V). y.got) (sym is) ∙ ear.got_is };
            }) (at_snoc vs r u j e);
      }

  -- an ear takes a feed in
  pub merges : (port : ℕ) (v : V) (other : ℕ) (u : V) → v.pops ≡ true → u.pushes ≡ true → Merges Relayed port v other u (both v u) spent
  merges port v other u a b items views h at two at2 = let w : V = both v u in let mine = h.each port v at in let ear = mine.ear a in let vs : List V = set views port w in
      let was : get_elem? views other ≡ some u = ⊎_elim (λ x. absurd (two x.0)) (λ x. x.1) (at_set views port other w u at2) in let theirs = (h.each other u was).feed b in
      let Now : ℕ → V → Type 0 = λ j y. j ≢ other → Fits port h.reader h.put h.got j y in
      let now : Every Now vs = every_set Now views port w
      (λ _. record { feed = λ _. record { port_is = refl; put_is = theirs.put_is; popped_then = theirs.popped_then }; ear = λ _. record { port_is = ear.port_is; got_is = ear.got_is } })
      (λ j y _ e apart. let f = h.each j y e in record { feed = λ p. absurd (apart ((f.feed p).port_is ∙ sym theirs.port_is)); ear = f.ear }) in record {
        writer = port;
        reader = h.reader;
        put = h.put;
        got = h.got;
        all = h.all;
        each = every_set (Fits port h.reader h.put h.got) vs other spent record { feed = λ p. absurd (true≢false (sym p)); ear = λ p. absurd (true≢false (sym p)) } (λ j y apart e. now j y e apart);
      }

  pub learns : (port : ℕ) (v : V) → Learns Relayed port v (waiting v)
  learns port v items views h at = let mine = h.each port v at in
      let sum : length h.put ≡ length h.got + length items = ap length h.all ∙ length-append h.got items in record {
        feed = λ a. let f = mine.feed a in (length h.got, f.popped_then, sym (ap length f.put_is ∙ sum));
        ear = λ a b. let f = mine.feed a in let e = mine.ear b in (f.put_is ∙ h.all ∙ ap (λ l. l ++ items) (sym e.got_is), subst (λ (l : List T). v.popped ≤ length l) (sym e.got_is) f.popped_then);
      }
