-- The law: an induction over the events.
use Rattle.std.proofs.Common.{◌≡◌, ℕ, suc, List, [], ◌∷◌, length, Bool, true, false, cond, if◌then◌else◌, Option, Some, None, refl, sym, ◌∙◌, ap, subst, inl, inr}
use Rattle.std.proofs.lemmas.Bool.{cases_lt}
use Rattle.knx_model.specs.declared.address.IndAddr.{IndAddr}
use Rattle.knx_model.specs.declared.frames.ip.IpFrame.{IpFrame}
use Rattle.knx_model.specs.declared.frames.ip.IpFrame.TheVariants.{TunnellingRequest}
use Rattle.line_model.specs.Reading.{datagram_in}
use Rattle.line_model.specs.Network.{Sent}
use Rattle.line_model.specs.Gateway.{Gateway, number_of}
use Rattle.line_model.specs.Tunnel.{Tunnel, TunnelEvent, Send, From, Renew, Up, UpRefused, Down, LoseUp, LoseDown, Carried, Heard, Repeat, Close, Pass, Elsewhere, fresh}
use Rattle.line_model.specs.Record.{Item, Put, Entry, entry, noted, is_renewal, put_in, item_of}
use Rattle.line_model.specs.ClientView.{ClientChannel, Fresh, View, unused, goes_on, after_entry, traffic, channel, views, first_view_after, view_after}
use Rattle.line_model.specs.Reading.{is_connect_request}
use Rattle.line_model.specs.Renews.{RenewsRightly, RenewsSo, is_just_renewed}
use Rattle.line_model.specs.Sendings.{SendsRightly, IsRightFrame, IsRightRequest, OfOpen}
use Rattle.line_model.specs.ActedOnce.{Has, in_channel, IsPrefix, IsChannelOf}
use Rattle.tunnel_law.proofs.Inside.{Nothing, Found, has_at}
use Rattle.tunnel_law.proofs.Fits.{Book, new_book, head_after, books, BookIs, BookFits, Named, Member, IsAsk}
use Rattle.tunnel_law.proofs.Sends.{MaySend, ask_or}
use Rattle.tunnel_law.proofs.Takes.{same_channel}
use Rattle.tunnel_law.proofs.Took.{InvT}
use Rattle.tunnel_law.proofs.Steps.{noted_in, MayDo, MaySendHere}

-- ---- a renewed endpoint is fresh

renewed_by : (c : ClientChannel) (x : Entry) (t : Bool) → t ≡ true → (if t then Fresh else goes_on c x) ≡ Fresh
renewed_by c x true h = refl
renewed_by c x false h = cc

renewed_fresh : (c : ClientChannel) (x : Entry) → is_renewal x.what ≡ true → after_entry c x ≡ Fresh
unfolding after_entry
renewed_fresh c x h = renewed_by c x (is_renewal x.what) h

just_renewed : (r : List Entry) → is_just_renewed r ≡ true → channel r ≡ Fresh
just_renewed [] h = cc
just_renewed (x ∷ r) h = renewed_fresh (channel r) x h

-- ---- the books are the views

abbrev pub HeadIs : List Book → ClientChannel → Type 0
HeadIs [] c = ⊥
HeadIs (b ∷ rest) c = b.state ≡ c

head_next : (bs : List Book) (c : ClientChannel) (x : Entry) → HeadIs bs c → HeadIs (head_after bs x) (after_entry c x)
head_next [] c x h = absurd h
head_next (b ∷ rest) c x h = ap (λ z. after_entry z x) h

head_by : (bs : List Book) (c : ClientChannel) (x : Entry) → HeadIs bs c → (t : Bool) → is_renewal x.what ≡ t → HeadIs (cond t (new_book ∷ bs) (head_after bs x)) (after_entry c x)
head_by bs c x h true g = sym (renewed_fresh c x g)
head_by bs c x h false g = head_next bs c x h

pub head_state : (r : List Entry) → HeadIs (books r) (channel r)
head_state [] = refl
head_state (x ∷ r) = head_by (books r) (channel r) x (head_state r) (is_renewal x.what) refl

abbrev pub views_of : List Book → List View
views_of [] = []
views_of (b ∷ bs) = b.view ∷ views_of bs

views_next : (bs : List Book) (c : ClientChannel) (x : Entry) → HeadIs bs c → first_view_after (views_of bs) (after_entry c x) (traffic c x) ≡ views_of (head_after bs x)
views_next [] c x h = absurd h
views_next (b ∷ rest) c x h = ap (λ z. view_after b.view (after_entry z x) (traffic z x) ∷ views_of rest) (sym h)

views_by : (bs : List Book) (c : ClientChannel) (x : Entry) (vs : List View) → vs ≡ views_of bs → HeadIs bs c → (t : Bool)
    → cond t (unused ∷ vs) (first_view_after vs (after_entry c x) (traffic c x)) ≡ views_of (cond t (new_book ∷ bs) (head_after bs x))
views_by bs c x vs e h true = ap (λ z. unused ∷ z) e
views_by bs c x vs e h false = ap (λ z. first_view_after z (after_entry c x) (traffic c x)) e ∙ views_next bs c x h

pub views_are : (r : List Entry) → views r ≡ views_of (books r)
views_are [] = refl
views_are (x ∷ r) = views_by (books r) (channel r) x (views r) (views_are r) (head_state r) (is_renewal x.what)

length_views : (bs : List Book) → length (views_of bs) ≡ length bs
length_views [] = refl
length_views (b ∷ bs) = ap (λ n. suc n) (length_views bs)

pub record Booked (bs : List Book) (e : ℕ) (v : View) : Type 0 where
  pub book : Book
  pub at : Has bs e book
  pub is : book.view ≡ v

pub booked : (bs : List Book) (e : ℕ) (v : View) → Has (views_of bs) e v → Booked bs e v
booked [] e v h = absurd h
booked (b ∷ bs) e v (inl q) = record { book = b; at = inl (q.0 ∙ length_views bs, refl); is = q.1 }
booked (b ∷ bs) e v (inr q) = let f : Booked bs e v = booked bs e v q in record { book = f.book; at = inr f.at; is = f.is }

viewed : (bs : List Book) (e : ℕ) (b : Book) → Has bs e b → Has (views_of bs) e b.view
viewed [] e b h = absurd h
viewed (x ∷ bs) e b (inl q) = inl (q.0 ∙ sym (length_views bs), ap (λ (z : Book). z.view) q.1)
viewed (x ∷ bs) e b (inr q) = inr (viewed bs e b q)

-- ---- what the discipline allows

asks_is : (f : Option IpFrame) → IsAsk f → is_connect_request f ≡ true
asks_is f i = elim (ask_or f) [ inl e ↦ ap is_connect_request e | inr other ↦ absurd (other i) ]

may_ask : (r : List Entry) (x : Entry) → RenewsSo r x → IsAsk (put_in x.what) → channel r ≡ Fresh
may_ask r x h i = just_renewed r (h.connects (asks_is (put_in x.what) i))

may_tell : (r : List Entry) (x : Entry) (f : Option IpFrame) → IsRightFrame r x f → (c n : ℕ) (p : List ℕ) → f ≡ Some (TunnellingRequest c n p) → OfOpen (IsRightRequest c n x) (channel r)
may_tell r x f h c n p e = let P : Option IpFrame → Type 0 = λ g. IsRightFrame r x g in subst P e h

may_here : (bs : List Book) (c : ClientChannel) (x : Entry) (f : Option IpFrame) → HeadIs bs c → MaySend x c f → MaySendHere bs x f
may_here [] c x f h m = absurd h
may_here (b ∷ rest) c x f h m = subst (λ z. MaySend x z f) (sym h) m

pub may_do : (r : List Entry) (t : Tunnel) (e : TunnelEvent) (now : ℕ) → RenewsRightly (noted (item_of t e) now r) → SendsRightly (noted (item_of t e) now r) → MayDo (books r) e now
may_do r t (Send octets) now a b =
    may_here (books r) (channel r) (entry (Put octets) now) (datagram_in octets) (head_state r)
    (record { ask = may_ask r (entry (Put octets) now) a.0; tell = may_tell r (entry (Put octets) now) (datagram_in octets) b.0 })
may_do r t (From endpoint octets) now a b = tt
may_do r t Renew now a b = tt
may_do r t (Up age) now a b = tt
may_do r t (UpRefused age status) now a b = tt
may_do r t (Down age) now a b = tt
may_do r t (LoseUp age) now a b = tt
may_do r t (LoseDown age) now a b = tt
may_do r t (Carried confirmation) now a b = tt
may_do r t (Heard frames) now a b = tt
may_do r t Repeat now a b = tt
may_do r t Close now a b = tt
may_do r t (Pass ms) now a b = tt
may_do r t Elsewhere now a b = tt

pub renews_before : (o : Option Item) (now : ℕ) (r : List Entry) → RenewsRightly (noted o now r) → RenewsRightly r
renews_before None now r h = h
renews_before (Some x) now r h = h.1

pub sends_before : (o : Option Item) (now : ℕ) (r : List Entry) → SendsRightly (noted o now r) → SendsRightly r
sends_before None now r h = h
sends_before (Some x) now r h = h.1

pub books_noted : (o : Option Item) (now : ℕ) (r : List Entry) (t : Tunnel) → InvT (noted_in (books r) o now) t → InvT (books (noted o now r)) t
books_noted None now r t h = h
books_noted (Some x) now r t h = h

-- ---- always

first_each : (e : ℕ) (x : Book) → Has (new_book ∷ []) e x → BookIs [] [] [] e x
first_each e x (inl q) =
    let here : BookIs [] [] [] e new_book
    = record { joined = None; asked = None; fits = record { tells = Nothing; asks = tt; range = λ k h. absurd h; member = refl; alone = λ k h other. refl }; named = refl; phase = (refl, refl) } in
    subst (λ y. BookIs [] [] [] e y) q.1 here
first_each e x (inr q) = absurd q

pub first : (me : IndAddr) → InvT (new_book ∷ []) (fresh me)
first me = record { endpoints = refl; sent = tt; made = λ k e h. absurd h; unmade = λ k le. refl; each = first_each; serving = tt; acks = λ k. Nothing; responses = tt }

-- ---- what this says

-- the client's requests: those acted on are the first of those put and, in a channel that the client never got, none
pub record IsUpOnce (g : Gateway) (r : List Entry) : Type 0 where
  pub up : (k : ℕ) (v : View) → IsChannelOf g r k v → IsPrefix (in_channel k g.acted) v.puts
  pub alone : (k : ℕ) → ((v : View) → ¬ IsChannelOf g r k v) → in_channel k g.acted ≡ []

named_is : (makers : List ℕ) (acted : List (ℕ × List ℕ)) (up : List Sent) (e k : ℕ) (joined asked number : Option ℕ) (puts : List (List ℕ)) → BookFits up makers acted e joined puts asked → Named joined number → number ≡ Some (number_of k) → Has makers k e
    → IsPrefix (in_channel k acted) puts
named_is makers acted up e k None asked number puts old named is maker = absurd (let h : None ≡ Some (number_of k) = sym named ∙ is in cc)
named_is makers acted up e k (Some j) asked number puts old named is maker =
    let h : Some (number_of j) ≡ Some (number_of k) = sym named ∙ is in
    let n : number_of j ≡ number_of k = cc in
    let m : Member makers acted e j puts = old.member in
    let at : j ≡ k = same_channel asked j k (old.range j m.maker) (old.range k maker) n in
    subst (λ z. IsPrefix (in_channel z acted) puts) at m.tail

named_at : (joined number : Option ℕ) (k : ℕ) → Named joined number → joined ≡ Some k → number ≡ Some (number_of k)
named_at None number k named is = cc
named_at (Some j) number k named is = let at : j ≡ k = cc in named ∙ ap (λ z. Some (number_of z)) at

pub says : (t : Tunnel) (r : List Entry) → InvT (books r) t → IsUpOnce t.gateway r
says t r i =
    record {
      up = λ k v h.
          (let f : Booked (books r) h.endpoint v = booked (books r) h.endpoint v (subst (λ z. Has z h.endpoint v) (views_are r) h.view) in
          let old : BookIs t.network.up t.gateway.makers t.gateway.acted h.endpoint f.book = i.each h.endpoint f.book f.at in
          subst (λ (z : View). IsPrefix (in_channel k t.gateway.acted) z.puts) f.is
          (named_is t.gateway.makers t.gateway.acted t.network.up h.endpoint k old.joined old.asked f.book.view.number f.book.view.puts old.fits old.named (ap (λ (z : View). z.number) f.is ∙ h.number) h.made_by));
      alone = λ k none.
          elim (cases_lt k (length t.gateway.makers)) [
            | inl below ↦
                (let m : Found t.gateway.makers k = has_at t.gateway.makers k below in
                let f : Found (books r) m.what = has_at (books r) m.what (i.made k m.what m.at) in
                let old : BookIs t.network.up t.gateway.makers t.gateway.acted m.what f.what = i.each m.what f.what f.at in
                old.fits.alone k m.at (λ q. none f.what.view (record {
                  endpoint = m.what;
                  made_by = m.at;
                  view = subst (λ z. Has z m.what f.what.view) (sym (views_are r)) (viewed (books r) m.what f.what f.at);
                  number = named_at old.joined f.what.view.number k old.named q;
                })))
            | inr above ↦ i.unmade k above
          ];
    }
