-- In an open channel: the client puts a request, and takes one of the gateway.
use Rattle.std.proofs.Common.{◌≡◌, ℕ, ◌≤◌, ◌⊎◌, List, ◌∷◌, Bool, true, false, Some, refl, sym, ◌∙◌, ap, subst, inl, inr}
use Rattle.knx_model.specs.declared.address.IndAddr.{IndAddr}
use Rattle.knx_model.specs.declared.frames.cemi.Ldata.{Ldata}
use Rattle.line_model.specs.ActedOnce.{Has, IsChannelOf}
use Rattle.line_model.specs.ChannelLost.{confirmed, last_frame}
use Rattle.line_model.specs.ClientView.{ClientChannel, Fresh, Sought, RefusedBy, Unanswered, Open, Lost, Deed, View, view_after, channel, traffic, views}
use Rattle.line_model.specs.ClientView as view
use Rattle.line_model.specs.Gateway.{Gateway, number_of}
use Rattle.line_model.specs.Reading.{ldata_in, is_req}
use Rattle.line_model.specs.Record.{Entry, is_renewal}
use Rattle.line_model.specs.World.{World, me, on_bus}
use Rattle.session_law.specs.World.{World as SessionWorld}
use Rattle.line_law.proofs.Queue.{Items, is_its}
use Rattle.line_law.proofs.Coupled.{Waits, Flight, Landed, Flies, Last, Never, Since, IsOut, ChannelIs, OpenIs, JoinedIs, is_open, CoupledBy, Coupled}
use Rattle.line_law.proofs.Entries.{HeadView, at_head, views_go}

-- ---- the view of an open channel

-- its number stays, so no later channel is the client's
pub head_late : (g : Gateway) (r k : List Entry) (present base : ℕ) (v n : View) (rest : List View) → views r ≡ v ∷ rest → views k ≡ n ∷ rest → n.number ≡ v.number → ((q : ℕ) (other : View) → IsChannelOf g r q other → q ≤ base) → (q : ℕ) (other : View) → IsChannelOf g k q other → q ≤ base
head_late g r k present base v n rest old new number late q other c = by_place (subst (λ (z : List View). Has z c.endpoint other) new c.view) where
  by_place : Has (n ∷ rest) c.endpoint other → q ≤ base
  by_place (inl p) =
      late q v (record { endpoint = c.endpoint; made_by = c.made_by; view = subst (λ (z : List View). Has z c.endpoint v) (sym old) (inl (p.0, refl)); number = sym number ∙ ap (λ (z : View). z.number) p.1 ∙ c.number })
  by_place (inr p) = late q other (record { endpoint = c.endpoint; made_by = c.made_by; view = subst (λ (z : List View). Has z c.endpoint other) (sym old) (inr p); number = c.number })

-- the channel that the client got last is this one
pub record IsHere (base e : ℕ) (v : View) (flight : Flight) (present c : ℕ) (l r : List Entry) (h : HeadView r present) : Type 0 where
  pub here : e ≡ present
  pub number : c ≡ number_of base
  pub flies : OpenIs (confirmed c l) (last_frame c l) flight
  pub view_is : h.view ≡ v

pub here : (base e : ℕ) (v : View) (flight : Flight) (g : Gateway) (present : ℕ) (r : List Entry) (items : Items) (older : List (ℕ × List ℕ)) (c : ℕ) (l : List Entry) (h : HeadView r present) → channel r ≡ Open c l → JoinedIs base e v flight g present r items older
    → IsHere base e v flight present c l r h
here base e v flight g present r items older c l h is j =
    let q : ChannelIs base e present g.makers flight (Open c l) = subst (ChannelIs base e present g.makers flight) is j.channel_is in
    record { here = q.0; number = q.1; flies = q.2; view_is = at_head r present v h (subst (λ z. Has (views r) z v) q.0 j.view) }

pub not_out : (r : List Entry) (c : ℕ) (l : List Entry) → channel r ≡ Open c l → IsOut (channel r) → ⊥
not_out r c l is h = let o : IsOut (Open c l) = subst IsOut is h in o

-- ---- a request of the client

pub record PutsSo (r : List Entry) (x : Entry) (c : ℕ) (l : List Entry) (content : List ℕ) (f : Ldata) : Type 0 where
  pub kept : is_renewal x.what ≡ false
  pub is_up : channel r ≡ Open c l
  pub next : channel (x ∷ r) ≡ Open c (x ∷ l)
  pub puts : traffic (channel r) x ≡ view.Puts content
  pub reads : ldata_in content ≡ Some f
  pub request : is_req f.code ≡ true
  pub free : confirmed c l ≡ true
  pub taken : confirmed c (x ∷ l) ≡ false
  pub last : last_frame c (x ∷ l) ≡ Some f

-- the session puts it, or isn't concerned
pub record PutBy (a : ℕ) (address : IndAddr) (f : Ldata) (s n : SessionWorld) : Type 0 where
  pub device : n.device ≡ s.device
  pub same_me : n.me ≡ s.me
  pub same_now : n.now ≡ s.now
  pub echo : n.echo ≡ s.echo
  pub coming : n.coming ≡ s.coming
  pub joined : n.client.joined ≡ s.client.joined
  pub flying : is_its a f ≡ true → n.flying ≡ Some (on_bus address f)
  pub pending : n.client.pending ≡ true → (s.client.pending ≡ true) ⊎ (is_its a f ≡ true)

put_by : (a : ℕ) (w : World) (r : List Entry) (x : Entry) (s n : SessionWorld) (c : ℕ) (l : List Entry) (content : List ℕ) (f : Ldata) (items : Items) (older : List (ℕ × List ℕ)) (last : Last) → (h : HeadView r w.tunnel.present) → PutsSo r x c l content f → PutBy a (me w) f s n
    → CoupledBy a w r s items older last → Coupled a w (x ∷ r) n
put_by a w r x s n c l content f items older Never h p b q = absurd (not_out r c l p.is_up q.pipe.last_is.out)
put_by a w r x s n c l content f items older (Since base e v (Flies k stage)) h p b q =
    let i : IsHere base e v (Flies k stage) w.tunnel.present c l r h = here base e v (Flies k stage) w.tunnel.gateway w.tunnel.present r items older c l h p.is_up q.pipe.last_is in
    absurd (let z : true ≡ false = sym p.free ∙ i.flies.0 in cc)
put_by a w r x s n c l content f items older (Since base e v Landed) h p b q =
    let g : Gateway = w.tunnel.gateway in
    let present : ℕ = w.tunnel.present in
    let j : JoinedIs base e v Landed g present r items older = q.pipe.last_is in
    let i : IsHere base e v Landed present c l r h = here base e v Landed g present r items older c l h p.is_up j in
    let n_view : View = record { number = Some c; puts = content ∷ v.puts; takes = v.takes } in
    let old : views r ≡ v ∷ h.rest = h.is ∙ ap (λ z. z ∷ h.rest) i.view_is in
    let go : views (x ∷ r) ≡ n_view ∷ h.rest
    = views_go r present x h p.kept ∙ ap (λ z. view_after h.view z (traffic (channel r) x) ∷ h.rest) p.next ∙ ap (λ z. view_after h.view (Open c (x ∷ l)) z ∷ h.rest) p.puts ∙ ap (λ z. view_after z (Open c (x ∷ l)) (view.Puts content) ∷ h.rest) i.view_is in
    let number : Some c ≡ v.number = ap (λ z. Some z) i.number ∙ sym j.number in
    record {
      items = items;
      older = older;
      last = Since base e n_view (Flies f Waits);
      by = record {
        side = record { device = q.side.device ∙ ap (λ z. Some z) (sym b.device); same_me = b.same_me ∙ q.side.same_me; same_now = b.same_now ∙ q.side.same_now; echo = b.echo ∙ q.side.echo };
        pipe = record {
          puts_are = q.pipe.puts_are;
          sorted = q.pipe.sorted;
          newest = q.pipe.newest;
          frames = q.pipe.frames;
          last_is = record {
            made = j.made;
            view = subst (λ (z : List View). Has z e n_view) (sym go) (inl (i.here ∙ sym h.length_is, refl));
            number = number ∙ j.number;
            late = head_late g r (x ∷ r) present base v n_view h.rest old go number j.late;
            low = j.low;
            taken = j.taken;
            olds = j.olds;
            channel_is = subst (ChannelIs base e present g.makers (Flies f Waits)) (sym p.next) (i.here, i.number, (p.taken, p.last));
            con_items = j.con_items;
            serving = j.serving;
            flight_is = record { octets = content; before = v.puts; newest = refl; reads = p.reads; request = p.request; stage_is = j.flight_is };
          };
        };
        coming = b.coming ∙ q.coming;
        flying = b.flying;
        pending = λ y z. elim (b.pending z) [ inl was ↦ absurd (q.pending (sym b.joined ∙ y) was) | inr its ↦ its ];
        joined = b.joined ∙ q.joined ∙ ap is_open p.is_up ∙ sym (ap is_open p.next);
      };
    }

pub put_kept : (a : ℕ) (w : World) (r : List Entry) (x : Entry) (s n : SessionWorld) (c : ℕ) (l : List Entry) (content : List ℕ) (f : Ldata) → (h : HeadView r w.tunnel.present) → PutsSo r x c l content f → PutBy a (me w) f s n → Coupled a w r s → Coupled a w (x ∷ r) n
put_kept a w r x s n c l content f h p b q = put_by a w r x s n c l content f q.items q.older q.last h p b q.by

-- nothing of a session is in flight before a request is put
pub is_free : (a : ℕ) (w : World) (r : List Entry) (s : SessionWorld) (c : ℕ) (l : List Entry) → channel r ≡ Open c l → confirmed c l ≡ true → Coupled a w r s → (s.client.joined ≡ true) × (s.client.pending ≡ false)
is_free a w r s c l is free q = (joined, by_pending s.client.pending refl q.last q.by) where
  joined : s.client.joined ≡ true
  joined = q.by.joined ∙ ap is_open is

  by_pending : (b : Bool) → s.client.pending ≡ b → (last : Last) → CoupledBy a w r s q.items q.older last → s.client.pending ≡ false
  by_pending false e last h = e
  by_pending true e Never h = absurd (h.pending joined e)
  by_pending true e (Since base n v Landed) h = absurd (h.pending joined e)
  by_pending true e (Since base n v (Flies f stage)) h =
      let o : OpenIs (confirmed c l) (last_frame c l) (Flies f stage) = (subst (ChannelIs base n w.tunnel.present w.tunnel.gateway.makers (Flies f stage)) is h.pipe.last_is.channel_is).2 in
      absurd (let z : true ≡ false = sym free ∙ o.0 in cc)
