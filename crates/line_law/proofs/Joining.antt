-- The client gets a channel: what the gateway put in earlier channels never comes, and what it put in this one does.
use Rattle.std.proofs.Common.{◌≡◌, ℕ, ◌<◌, ◌≤◌, ◌⊎◌, List, [], ◌∷◌, ◌++◌, drop, length, Bool, true, false, cond, Some, refl, sym, ◌∙◌, ap, subst, inl, inr, arith, append_assoc}
use Rattle.std.specs.Prelude.{◌==◌}
use Rattle.std.specs.List.{AllByRecursion}
use Rattle.knx_model.specs.declared.frames.cemi.Ldata.{Ldata}
use Rattle.line_model.specs.ActedOnce.{Has, in_channel, IsPrefix, IsChannelOf}
use Rattle.line_model.specs.ClientView.{ClientChannel, Fresh, Sought, RefusedBy, Unanswered, Open, Lost, Deed, Nothing, View, unused, view_after, first_view_after, channel, traffic, views, after_entry, goes_on}
use Rattle.line_model.specs.ChannelLost.{is_lost}
use Rattle.line_model.specs.Gateway.{Gateway, number_of, newest_place}
use Rattle.line_model.specs.Reading.{is_con}
use Rattle.line_model.specs.Record.{Entry, is_renewal}
use Rattle.line_model.specs.World.{World}
use Rattle.session_law.specs.World.{World as SessionWorld}
use Rattle.session_law.specs.Client.{joins}
use Rattle.session_law.specs.Events.{IsInd, Joins, MayHappen}
use Rattle.tunnel_law.proofs.Inside.{Every, every_map}
use Rattle.line_law.proofs.Queue.{Items, messages, messages_append, cons, puts_of, puts_append, back, back_parts, drop_front, all_inds}
use Rattle.line_law.proofs.Coupled.{IsTold, Flight, Landed, Serves, Last, Never, Since, IsOut, IsLater, ChannelIs, ConAt, IsLow, LastIs, IsSorted, is_open, Coupled}
use Rattle.line_law.proofs.Owned.{every_append, every_front, every_rest}
use Rattle.line_law.proofs.Gates.{newest_least}
use Rattle.line_law.proofs.Acting.{UpOnce}
use Rattle.line_law.proofs.Entries.{HeadView, views_go}

-- ---- an endpoint at which no channel came up has nothing

abbrev pub OutHead : List View → Type 0
OutHead [] = ⊥
OutHead (v ∷ rest) = (v.puts ≡ []) × (v.takes ≡ [])

out_before : (c : ClientChannel) (x : Entry) → IsOut (after_entry c x) → is_renewal x.what ≡ false → IsOut c × (traffic c x ≡ Nothing)
unfolding after_entry traffic
out_before Fresh x h n = (tt, refl)
out_before (Sought since) x h n = (tt, refl)
out_before (RefusedBy status) x h n = (tt, refl)
out_before Unanswered x h n = (tt, refl)
out_before (Open c l) x h n = absurd (open_by (is_lost c l x) (subst (λ b. IsOut (cond b Fresh (goes_on (Open c l) x))) n h)) where
  open_by : (b : Bool) → IsOut (cond b (Lost c) (Open c (x ∷ l))) → ⊥
  open_by true k = k
  open_by false k = k
out_before (Lost c) x h n = absurd (let k : IsOut (cond false Fresh (Lost c)) = subst (λ b. IsOut (cond b Fresh (Lost c))) n h in k)

out_go : (vs : List View) (after : ClientChannel) → OutHead vs → OutHead (first_view_after vs after Nothing)
out_go [] after h = h
out_go (v ∷ rest) after h = h

out_by : (r : List Entry) (x : Entry) (b : Bool) → is_renewal x.what ≡ b → IsOut (channel (x ∷ r)) → (IsOut (channel r) → OutHead (views r)) → OutHead (cond b (unused ∷ views r) (first_view_after (views r) (channel (x ∷ r)) (traffic (channel r) x)))
out_by r x true n h f = (refl, refl)
out_by r x false n h f =
    let p = out_before (channel r) x h n in
    subst (λ (z : Deed). OutHead (first_view_after (views r) (channel (x ∷ r)) z)) (sym p.1) (out_go (views r) (channel (x ∷ r)) (f p.0))

pub out_view : (r : List Entry) → IsOut (channel r) → OutHead (views r)
out_view [] h = (refl, refl)
out_view (x ∷ r) h = out_by r x (is_renewal x.what) refl h (λ k. out_view r k)

-- ---- lists

in_none : (j : ℕ) (l : List (ℕ × List ℕ)) → Every (λ (x : ℕ × List ℕ). x.0 < j) l → in_channel j l ≡ []
in_none j [] h = refl
in_none j (x ∷ l) h = let n : (x.0 == j) ≡ false = grind (arith, h.0) in rw n (in_none j l h.1)

no_prefix : (l : List (List ℕ)) → IsPrefix l [] → l ≡ []
no_prefix l p = last_none p.0 l p.1 where
  last_none : (n k : List (List ℕ)) → [] ≡ n ++ k → k ≡ []
  last_none [] k e = sym e
  last_none (y ∷ n) k e = absurd (cc)

-- the items of the channels from a place on are the newest
record Parted (j : ℕ) (items : Items) : Type 0 where
  pub newer : Items
  pub dropped : Items
  pub parts : items ≡ newer ++ dropped
  pub high : Every (IsLow j) newer
  pub below : Every (λ (x : ℕ × Ldata). x.0 < j) dropped

at_or_below : (j n : ℕ) → (j ≤ n) ⊎ (n < j)
at_or_below j n = grind arith

part : (j : ℕ) (items : Items) → IsSorted items → Parted j items
part j [] h = record { newer = []; dropped = []; parts = refl; high = tt; below = tt }
part j (x ∷ l) h =
    elim (at_or_below j x.0) [
      | inl le ↦ (let p : Parted j l = part j l h.1 in record { newer = x ∷ p.newer; dropped = p.dropped; parts = ap (λ z. x ∷ z) p.parts; high = (le, p.high); below = p.below })
      | inr lt ↦ record { newer = []; dropped = x ∷ l; parts = refl; high = tt; below = (lt, every_map (λ (y : ℕ × Ldata). y.0 ≤ x.0) (λ (y : ℕ × Ldata). y.0 < j) (λ y q. omega (arith, q, lt)) l h.0) }
    ]

pub sorted_front : (l k : Items) → IsSorted (l ++ k) → IsSorted l
sorted_front [] k h = tt
sorted_front (x ∷ l) k h = (every_front (λ (y : ℕ × Ldata). y.0 ≤ x.0) l k h.0, sorted_front l k h.1)

puts_below : (j : ℕ) (l : Items) → Every (λ (x : ℕ × Ldata). x.0 < j) l → Every (λ (x : ℕ × List ℕ). x.0 < j) (puts_of l)
puts_below j [] h = tt
puts_below j (x ∷ l) h = (h.0, puts_below j l h.1)

abbrev NoCon : ℕ × Ldata → Type 0
NoCon x = is_con x.1.code ≡ false

cons_back : (l : Items) (w : List Ldata) → Every NoCon l → cons w ≡ [] → cons (back l w) ≡ []
cons_back [] w h e = e
cons_back (x ∷ l) w h e = cons_back l (x.1 ∷ w) h.1 (rw h.0 e)

no_cons : (l : Items) (w : List Ldata) → cons (back l w) ≡ [] → Every NoCon l × (cons w ≡ [])
no_cons [] w h = (tt, h)
no_cons (x ∷ l) w h = by_code (no_cons l (x.1 ∷ w) h) where
  by_first : (b : Bool) → is_con x.1.code ≡ b → ◌≡◌ {A = List Ldata} (cond b (x.1 ∷ cons w) (cons w)) [] → NoCon x × (cons w ≡ [])
  by_first true e q = absurd (let z : x.1 ∷ cons w ≡ [] = q in cc)
  by_first false e q = (e, q)

  by_code : Every NoCon l × (cons (x.1 ∷ w) ≡ []) → Every NoCon (x ∷ l) × (cons w ≡ [])
  by_code q = let p = by_first (is_con x.1.code) refl q.1 in ((p.0, q.0), p.1)

high_none : (base j : ℕ) (l : Items) → base < j → Every (ConAt base) l → Every (IsLow j) l → Every NoCon l
high_none base j [] lt h k = tt
high_none base j (x ∷ l) lt h k = (by_code (is_con x.1.code) refl, high_none base j l lt h.1 k.1) where
  by_code : (b : Bool) → is_con x.1.code ≡ b → is_con x.1.code ≡ false
  by_code true e = absurd (let at : x.0 ≡ base = h.0 e in let le : j ≤ x.0 = k.0 in omega arith)
  by_code false e = e

none_at : (j : ℕ) (l : Items) → Every NoCon l → Every (ConAt j) l
none_at j l h = every_map NoCon (ConAt j) (λ x q. λ e. absurd (let z : true ≡ false = sym e ∙ q in cc)) l h

-- ---- what was so before

-- nothing in the channels from this place on is confirmed yet, nor of an earlier channel
record Before (g : Gateway) (r : List Entry) (older : List (ℕ × List ℕ)) (items : Items) (j : ℕ) : Type 0 where
  pub late : (k : ℕ) (other : View) → IsChannelOf g r k other → k < j
  pub olds : Every (λ (x : ℕ × List ℕ). x.0 < j) older
  pub none : (l : Items) → Every (IsLow j) l → (k : Items) → items ≡ l ++ k → Every NoCon l
  pub waiting : cons g.waiting ≡ []
  pub bus : g.bus ≡ []

later_of : (base e present : ℕ) (makers : List ℕ) (flight : Flight) (c : ClientChannel) → IsOut c → ChannelIs base e present makers flight c → IsLater base e present makers
later_of base e present makers flight Fresh o h = h
later_of base e present makers flight (Sought since) o h = h
later_of base e present makers flight (RefusedBy status) o h = h
later_of base e present makers flight Unanswered o h = h
later_of base e present makers flight (Open c l) o h = absurd o
later_of base e present makers flight (Lost c) o h = absurd o

no_serving : (base j e : ℕ) (g : Gateway) → Has g.makers j e → base < j → Serves base g ⊎ ((cons g.waiting ≡ []) × (g.bus ≡ [])) → (cons g.waiting ≡ []) × (g.bus ≡ [])
no_serving base j e g made lt (inl s) = absurd (let at : newest_place g.makers ≡ base = s.place in let le : j ≤ newest_place g.makers = newest_least g.makers j e made in omega arith)
no_serving base j e g made lt (inr q) = q

before : (last : Last) (g : Gateway) (present : ℕ) (r : List Entry) (items : Items) (older : List (ℕ × List ℕ)) (j : ℕ) → IsOut (channel r) → Has g.makers j present → LastIs last g present r items older → Before g r older items j
before Never g present r items older j out made h =
    let q = no_cons items g.waiting h.quiet in
    record {
      late = λ k other c. absurd (h.none k other c);
      olds = subst (Every (λ (x : ℕ × List ℕ). x.0 < j)) (sym h.empty) tt;
      none = λ l low k e. every_front NoCon l k (subst (Every NoCon) e q.0);
      waiting = q.1;
      bus = h.bus;
    }
before (Since base n v flight) g present r items older j out made h =
    let later : IsLater base n present g.makers = later_of base n present g.makers flight (channel r) out h.channel_is in
    let lt : base < j = later.1 j made in
    let q = no_serving base j present g made lt h.serving in
    record {
      late = λ k other c. (let le : k ≤ base = h.late k other c in omega arith);
      olds = every_map (λ (x : ℕ × List ℕ). x.0 ≤ base) (λ (x : ℕ × List ℕ). x.0 < j) (λ x le. omega (arith, le, lt)) older h.olds;
      none = λ l low k e. high_none base j l lt (every_front (ConAt base) l k (subst (Every (ConAt base)) e h.con_items)) low;
      waiting = q.0;
      bus = q.1;
    }

-- ---- the channel comes up

joined_channel : (g : Gateway) (r k : List Entry) (present j c : ℕ) (v : View) (rest : List View) (items : Items) (older : List (ℕ × List ℕ)) (h : HeadView r present) → views k ≡ v ∷ rest → h.rest ≡ rest → length rest ≡ present → v.number ≡ Some c → c ≡ number_of j
    → ((n : ℕ) → Has g.makers n present → number_of n ≡ number_of j → n ≡ j) → Before g r older items j → (n : ℕ) (other : View) → IsChannelOf g k n other → n ≤ j
joined_channel g r k present j c v rest items older h is same len number at one b n other q = by_place (subst (λ (z : List View). Has z q.endpoint other) is q.view) where
  by_place : Has (v ∷ rest) q.endpoint other → n ≤ j
  by_place (inl p) =
      let to : q.endpoint ≡ present = p.0 ∙ len in
      let named : Some c ≡ Some (number_of n) = sym number ∙ ap (λ (z : View). z.number) p.1 ∙ q.number in
      let equal : c ≡ number_of n = cc in
      let e : n ≡ j = one n (subst (λ z. Has g.makers n z) to q.made_by) (sym equal ∙ at) in
      omega arith
  by_place (inr p) =
      let old : Has (views r) q.endpoint other = subst (λ (z : List View). Has z q.endpoint other) (sym h.is) (inr (subst (λ (z : List View). Has z q.endpoint other) (sym same) p)) in
      omega (arith, b.late n other (record { endpoint = q.endpoint; made_by = q.made_by; view = old; number = q.number }))

pub joins_kept : (a : ℕ) (w : World) (r : List Entry) (x : Entry) (s : SessionWorld) (c j : ℕ) (l : List Entry) → (h : HeadView r w.tunnel.present) → is_renewal x.what ≡ false → IsOut (channel r) → traffic (channel r) x ≡ Nothing → channel (x ∷ r) ≡ Open c l
    → Has w.tunnel.gateway.makers j w.tunnel.present → c ≡ number_of j → ((n : ℕ) → Has w.tunnel.gateway.makers n w.tunnel.present → number_of n ≡ number_of j → n ≡ j) → UpOnce w.tunnel.gateway (x ∷ r) → Coupled a w r s
    → (n : ℕ) × MayHappen s (Joins n) × Coupled a w (x ∷ r) (joins s n)
joins_kept a w r x s c j l h renewal out none next made at one once q =
    let g : Gateway = w.tunnel.gateway in
    let present : ℕ = w.tunnel.present in
    let p = q.by.pipe in
    let b : Before g r q.older q.items j = before q.last g present r q.items q.older j out made p.last_is in
    let d : Parted j q.items = part j q.items p.sorted in
    let v : View = record { number = Some c; puts = h.view.puts; takes = h.view.takes } in
    let go : views (x ∷ r) ≡ v ∷ h.rest = views_go r present x h renewal ∙ ap (λ z. view_after h.view z (traffic (channel r) x) ∷ h.rest) next ∙ ap (λ z. view_after h.view (Open c l) z ∷ h.rest) none in
    let empty : OutHead (h.view ∷ h.rest) = subst OutHead h.is (out_view r out) in
    let quiet : Every NoCon d.newer = b.none d.newer d.high d.dropped d.parts in
    let cons_none : cons (back d.newer g.waiting) ≡ [] = cons_back d.newer g.waiting quiet b.waiting in
    let number_is : v.number ≡ Some (number_of j) = ap (λ z. Some z) at in
    let view_at : Has (views (x ∷ r)) present v = subst (λ (z : List View). Has z present v) (sym go) (inl (sym h.length_is, refl)) in
    let acted : in_channel j g.acted ≡ [] = no_prefix (in_channel j g.acted) (subst (IsPrefix (in_channel j g.acted)) empty.0 (once.up j v (record { endpoint = present; made_by = made; view = view_at; number = number_is }))) in
    let olds : Every (λ (y : ℕ × List ℕ). y.0 < j) (puts_of d.dropped ++ q.older) = every_append (λ (y : ℕ × List ℕ). y.0 < j) (puts_of d.dropped) q.older (puts_below j d.dropped d.below) b.olds in
    let all : back q.items g.waiting ≡ back d.dropped [] ++ back d.newer g.waiting = ap (λ z. back z g.waiting) d.parts ∙ back_parts d.newer d.dropped g.waiting in
    let n : ℕ = length (messages a (back d.dropped [])) in
    let left : drop n s.coming ≡ messages a (back d.newer g.waiting)
    = ap (drop n) (q.by.coming ∙ ap (messages a) all ∙ messages_append a (back d.dropped []) (back d.newer g.waiting)) ∙ drop_front (messages a (back d.dropped [])) (messages a (back d.newer g.waiting)) in (
      n,
      subst (AllByRecursion IsInd) (sym left) (all_inds a (back d.newer g.waiting) cons_none),
      record {
        items = d.newer;
        older = puts_of d.dropped ++ q.older;
        last = Since j present v Landed;
        by = record {
          side = record { device = q.by.side.device; same_me = q.by.side.same_me; same_now = q.by.side.same_now; echo = q.by.side.echo };
          pipe = record {
            puts_are = p.puts_are ∙ ap (λ z. puts_of z ++ q.older) d.parts ∙ ap (λ z. z ++ q.older) (puts_append d.newer d.dropped) ∙ append_assoc (puts_of d.newer) (puts_of d.dropped) q.older;
            sorted = sorted_front d.newer d.dropped (subst IsSorted d.parts p.sorted);
            newest = every_front (λ (y : ℕ × Ldata). y.0 ≤ newest_place g.makers) d.newer d.dropped (subst (Every (λ (y : ℕ × Ldata). y.0 ≤ newest_place g.makers)) d.parts p.newest);
            frames = every_rest IsTold (back d.dropped []) (back d.newer g.waiting) (subst (Every IsTold) all p.frames);
            last_is = record {
              made = made;
              view = view_at;
              number = number_is;
              late = joined_channel g r (x ∷ r) present j c v h.rest q.items q.older h go refl h.length_is refl at one b;
              low = d.high;
              taken = in_none j (puts_of d.dropped ++ q.older) olds ∙ sym empty.1;
              olds = every_map (λ (y : ℕ × List ℕ). y.0 < j) (λ (y : ℕ × List ℕ). y.0 ≤ j) (λ y lt. omega (arith, lt)) (puts_of d.dropped ++ q.older) olds;
              channel_is = subst (ChannelIs j present present g.makers Landed) (sym next) (refl, at, tt);
              con_items = none_at j d.newer quiet;
              serving = inr (b.waiting, b.bus);
              flight_is = (acted ∙ sym empty.0, b.bus, cons_none);
            };
          };
          coming = left;
          flying = tt;
          pending = λ y z. absurd (cc);
          joined = sym (ap is_open next);
        };
      },
    )
