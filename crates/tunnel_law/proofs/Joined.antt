-- Both halves together: each event keeps the client's requests, the gateway's, and what the client owes; and what this says.
use Rattle.std.proofs.Common.{◌≡◌, ◌≢◌, ℕ, zero, suc, ◌+◌, ◌<◌, ◌≤◌, ◌⊎◌, List, [], ◌∷◌, length, true, Option, Some, None, refl, sym, ◌∙◌, ap, subst, arith, inl, inr}
use Rattle.std.specs.Prelude.{slice_get, take}
use Rattle.knx_model.specs.declared.address.IndAddr.{IndAddr}
use Rattle.knx_model.specs.declared.frames.ip.IpFrame.{IpFrame}
use Rattle.knx_model.specs.declared.frames.ip.IpFrame.TheVariants.{ConnectRequest, ConnectResponse, StateRequest, StateResponse, DisconnectRequest, DisconnectResponse, TunnellingRequest, TunnellingAck}
use Rattle.knx_model.specs.KnxNetIp.{Written}
use Rattle.line_model.specs.ActedOnce.{Has, in_channel, IsPrefix, IsActedOnce}
use Rattle.line_model.specs.ClientView.{ClientChannel, Fresh, Sought, RefusedBy, Unanswered, Open, Lost, View, after_entry, channel}
use Rattle.line_model.specs.Gateway.{Channel, number_of}
use Rattle.line_model.specs.Network.{Sent, IsUnderWay, OfSent, changed_at, once_more, new_datagram}
use Rattle.line_model.specs.Reading.{datagram_in}
use Rattle.line_model.specs.Record.{Put, Renewed, Got, Quiet, Entry, entry, got, noted, item_of, tunnel_record}
use Rattle.line_model.specs.Renews.{RenewsRightly, owed, owed_in}
use Rattle.line_model.specs.Sendings.{SendsRightly, IsRightFrame}
use Rattle.line_model.specs.Tunnel.{Tunnel, TunnelEvent, Send, From, Renew, Up, UpRefused, Down, LoseUp, LoseDown, Carried, Heard, Repeat, Close, Pass, Elsewhere, Commissions, MayHappen, IsLegal, made, with_up, with_down, takes_sent, refuses, after, step, fresh, replay}
use Rattle.tunnel_law.proofs.Both.{unique, dn_next, dn_repeats, dn_closes, dn_send}
use Rattle.tunnel_law.proofs.Books.{put_by, quiet_by}
use Rattle.tunnel_law.proofs.Fits.{Book, new_book, book_after, head_after, books, BookIs, IsAck, IsAsk, IsTell, Named, JoinedFits, Member, InRange, SentIs, AskIs}
use Rattle.tunnel_law.proofs.Gets.{Owing, owed_sent, other_sent}
use Rattle.tunnel_law.proofs.Inside.{Nothing, every_at, has_below}
use Rattle.tunnel_law.proofs.Law.{HeadIs, Booked, booked, views_are, head_state, may_do, renews_before, sends_before, books_noted, first, says}
use Rattle.tunnel_law.proofs.Mirror.{At, Ends, dn_other}
use Rattle.tunnel_law.proofs.Down.{Between}
use Rattle.tunnel_law.proofs.Read.{refusal_seen}
use Rattle.tunnel_law.proofs.Replies.{DnT, dn_took}
use Rattle.tunnel_law.proofs.Steps.{after_kept, step_kept}
use Rattle.tunnel_law.proofs.Taken as gotten
use Rattle.tunnel_law.proofs.Takes.{same_channel}
use Rattle.tunnel_law.proofs.Took.{InvT, hears_serving}
use Rattle.tunnel_law.proofs.Whole.{dn_renew, dn_up_changed, dn_down_changed, dn_quiet}

-- ---- what the client owes, at its present endpoint

abbrev OwesHere : List Book → Option IpFrame → Type 0
OwesHere [] o = ⊥
OwesHere (b ∷ rest) o = Owing b.view.number b.view.takes o

pub record Halves (r : List Entry) (t : Tunnel) : Type 0 where
  pub ours : InvT (books r) t
  pub theirs : DnT (books r) t
  pub owes : OwesHere (books r) (owed r)

-- what an event keeps of the gateway's half
abbrev Keeps : List Entry → Tunnel → Type 0
Keeps r t = DnT (books r) t × OwesHere (books r) (owed r)

-- the same, by the books and the present endpoint's channel
abbrev KeepsBy : List Book → ClientChannel → Entry → Tunnel → Type 0
KeepsBy bs c x t = DnT (head_after bs x) t × OwesHere (head_after bs x) (owed_in c x (after_entry c x))

-- ---- the client sends

ack_or : (r : List Entry) (x : Entry) (f : Option IpFrame) → IsRightFrame r x f → (f ≡ owed r) ⊎ (IsAck f → ⊥)
ack_or r x None h = inr (λ i. i)
ack_or r x (Some ConnectRequest) h = inr (λ i. i)
ack_or r x (Some (ConnectResponse c s t)) h = inr (λ i. i)
ack_or r x (Some (StateRequest c)) h = inr (λ i. i)
ack_or r x (Some (StateResponse c s)) h = inr (λ i. i)
ack_or r x (Some (DisconnectRequest c)) h = inr (λ i. i)
ack_or r x (Some (DisconnectResponse c s)) h = inr (λ i. i)
ack_or r x (Some (TunnellingRequest c n p)) h = inr (λ i. i)
ack_or r x (Some (TunnellingAck c n s)) h = inl (sym h)

-- its datagram is the acknowledgement that is owed, or none
head_sent : (b : Book) (rest : List Book) (t : Tunnel) (octets : List ℕ) (o : Option IpFrame) → DnT (b ∷ rest) t → Owing b.view.number b.view.takes o → (datagram_in octets ≡ o) ⊎ (IsAck (datagram_in octets) → ⊥)
    → Ends (new_datagram octets t.present (made t) ∷ t.network.up) t.gateway.makers t.gateway.channel t.gateway.puts (length rest) b.view.number b.view.takes b.state
head_sent b rest t octets o dn owes (inr other) =
    other_sent t.network.up t.gateway.makers t.gateway.channel t.gateway.puts (length rest) b.view.number b.view.takes b.state (new_datagram octets t.present (made t)) (dn.ends (length rest) b (inl (refl, refl))) (λ i f. other i)
head_sent b rest t octets None dn owes (inl is) =
    other_sent t.network.up t.gateway.makers t.gateway.channel t.gateway.puts (length rest) b.view.number b.view.takes b.state (new_datagram octets t.present (made t)) (dn.ends (length rest) b (inl (refl, refl)))
    (λ i f. subst IsAck is i)
head_sent b rest t octets (Some f) dn owes (inl is) =
    owed_sent t.network.up t.gateway.makers t.gateway.channel t.gateway.puts (length rest) b.view.number b.view.takes b.state (new_datagram octets t.present (made t)) f (dn.ends (length rest) b (inl (refl, refl))) owes is

send_by : (bs : List Book) (c : ClientChannel) (t : Tunnel) (octets : List ℕ) (now : ℕ) (o : Option IpFrame) → HeadIs bs c → InvT bs t → DnT bs t → OwesHere bs o → (datagram_in octets ≡ o) ⊎ (IsAck (datagram_in octets) → ⊥)
    → KeepsBy bs c (entry (Put octets) now) (after t (Send octets))
send_by [] c t octets now o head inv dn owes which = absurd head
send_by (b ∷ rest) c t octets now o head inv dn owes which =
    let ends : suc (length rest) ≡ suc t.present = inv.endpoints in
    let sent = head_sent b rest t octets o dn owes which in
    let next = put_by (new_datagram octets t.present (made t) ∷ t.network.up) t.gateway.makers t.gateway.channel t.gateway.puts (length rest) b.view b.state octets now sent in
    let x : Entry = entry (Put octets) now in
    let P : ClientChannel → Type 0 = λ z. Owing (book_after b x).view.number (book_after b x).view.takes (owed_in z x (after_entry z x)) in (
      dn_send b rest t.present t.network.up t.network.down t.gateway.makers t.gateway.channel t.gateway.puts dn (omega arith) octets now sent,
      subst P head next.1,
    )

-- ---- it waits, and gets

wait_by : (bs : List Book) (c : ClientChannel) (t : Tunnel) (ms now : ℕ) → HeadIs bs c → DnT bs t → KeepsBy bs c (entry Quiet now) (after t (Pass ms))
wait_by [] c t ms now head dn = absurd head
wait_by (b ∷ rest) c t ms now head dn =
    let next = quiet_by t.network.up t.gateway.makers t.gateway.channel t.gateway.puts (length rest) b.view b.state now (dn.ends (length rest) b (inl (refl, refl))) in
    let x : Entry = entry Quiet now in
    let P : ClientChannel → Type 0 = λ z. Owing (book_after b x).view.number (book_after b x).view.takes (owed_in z x (after_entry z x)) in (
      dn_quiet b rest t.network.up t.network.down t.gateway.makers t.gateway.channel t.gateway.puts dn now,
      subst P head next.1,
    )

get_by : (bs : List Book) (c : ClientChannel) (t : Tunnel) (age now : ℕ) (s : Sent) → HeadIs bs c → InvT bs t → DnT bs t → slice_get t.network.down age ≡ Some s → age < 128 → s.endpoint ≡ t.present
    → KeepsBy bs c (entry (Got (take 512 s.octets)) now) (with_down t (changed_at age once_more t.network.down))
get_by [] c t age now s head inv dn at young to = absurd head
get_by (b ∷ rest) c t age now s head inv dn at young to =
    let ends : suc (length rest) ≡ suc t.present = inv.endpoints in
    let here : t.present ≡ length rest = omega arith in
    let one = unique t.network.up t.gateway.makers t.gateway.acted (length rest) b (inv.each (length rest) b (inl (refl, refl))) in
    let x : Entry = entry (Got (take 512 s.octets)) now in
    let next = gotten.next b rest t.network.up t.network.down t.gateway.makers t.gateway.channel t.gateway.puts dn one age now s at young (to ∙ here) in
    let P : ClientChannel → Type 0 = λ z. Owing (book_after b x).view.number (book_after b x).view.takes (owed_in z x (after_entry z x)) in (
      dn_down_changed (book_after b x ∷ rest) t.network.up t.network.down t.gateway.makers t.gateway.channel t.gateway.puts
          (gotten.dn_got b rest t.network.up t.network.down t.gateway.makers t.gateway.channel t.gateway.puts dn one age now s at young (to ∙ here)) age (λ y. suc y.delivered) (λ y. y.lost),
      subst P head next.1,
    )

down_by : (r : List Entry) (t : Tunnel) (age now : ℕ) (o : Option Sent) → Halves r t → slice_get t.network.down age ≡ o → OfSent (λ s. IsUnderWay (made t) age s × (s.endpoint ≡ t.present)) o
    → Keeps (noted (got o) now r) (with_down t (changed_at age once_more t.network.down))
down_by r t age now None h at may = absurd may
down_by r t age now (Some s) h at may = get_by (books r) (channel r) t age now s (head_state r) h.ours h.theirs at may.0.young may.1

-- ---- it renews

owes_nothing : (c : ClientChannel) (x : Entry) → owed_in c x Fresh ≡ None
owes_nothing Fresh x = refl
owes_nothing (Sought since) x = refl
owes_nothing (RefusedBy status) x = refl
owes_nothing Unanswered x = refl
owes_nothing (Open c l) x = refl
owes_nothing (Lost c) x = refl

renew_by : (r : List Entry) (t : Tunnel) (now : ℕ) → Halves r t → Keeps (entry Renewed now ∷ r) (after t Renew)
unfolding after_entry
renew_by r t now h = (
  dn_renew (books r) t.network.up t.network.down t.gateway.makers t.gateway.channel t.gateway.puts h.theirs h.ours.made h.ours.sent,
  (let P : Option IpFrame → Type 0 = λ o. Owing None [] o in subst P (sym (owes_nothing (channel r) (entry Renewed now))) tt),
)

-- ---- the gateway takes a datagram

apart_by : (makers : List ℕ) (acted : List (ℕ × List ℕ)) (e m n : ℕ) (joined asked number : Option ℕ) (puts : List (List ℕ)) → Named joined number → number ≡ Some (number_of n) → n ≡ length makers → JoinedFits makers acted e joined puts
    → ((k : ℕ) → Has makers k e → InRange asked k) → asked ≡ Some m → m ≤ n → n < m + 255 → ⊥
apart_by makers acted e m n None asked number puts named is n_is fits range asks low high = absurd (let h : None ≡ Some (number_of n) = sym named ∙ is in cc)
apart_by makers acted e m n (Some j) asked number puts named is n_is fits range asks low high =
    let f : Member makers acted e j puts = fits in
    let same : number_of j ≡ number_of n = (let h : Some (number_of j) ≡ Some (number_of n) = sym named ∙ is in cc) in
    let in_range : InRange (Some m) j = subst (λ (a : Option ℕ). InRange a j) asks (range j f.maker) in
    let j_is : j ≡ n = same_channel (Some m) j n in_range (low, high) same in
    let below : j < length makers = has_below makers j e f.maker in
    omega arith

apart : (bs : List Book) (t : Tunnel) (age : ℕ) (s : Sent) → InvT bs t → slice_get t.network.up age ≡ Some s → made t < s.made + 255 → datagram_in s.octets ≡ Some ConnectRequest
    → (x : Book) → Has bs s.endpoint x → x.view.number ≡ Some (number_of (length t.gateway.makers)) → ⊥
apart bs t age s inv at soon is x has named =
    let old : BookIs t.network.up t.gateway.makers t.gateway.acted s.endpoint x = inv.each s.endpoint x has in
    let asks : old.asked ≡ Some s.made = every_at (AskIs s.endpoint old.asked) t.network.up age s at old.fits.asks (subst IsAsk (sym is) tt) refl in
    let sent : SentIs (length bs) (length t.gateway.makers) s = every_at (SentIs (length bs) (length t.gateway.makers)) t.network.up age s at inv.sent in
    apart_by t.gateway.makers t.gateway.acted s.endpoint s.made (length t.gateway.makers) old.joined old.asked x.view.number x.view.puts old.named named refl old.fits.member old.fits.range asks sent.1 soon

changed_get : (f : Sent → Sent) (age : ℕ) (l : List Sent) (s : Sent) → slice_get l age ≡ Some s → slice_get (changed_at age f l) age ≡ Some (f s)
changed_get f age [] s h = cc
changed_get f zero (x ∷ l) s h = (let e : x ≡ s = cc in ap (λ z. Some (f z)) e)
changed_get f (suc age) (x ∷ l) s h = changed_get f age l s h

more : (bs : List Book) (t : Tunnel) (age : ℕ) → DnT bs t → DnT bs (with_up t (changed_at age once_more t.network.up))
more bs t age dn = dn_up_changed bs t.network.up t.network.down t.gateway.makers t.gateway.channel t.gateway.puts dn age (λ y. suc y.delivered) (λ y. y.lost)

up_by : (bs : List Book) (t : Tunnel) (age : ℕ) (o : Option Sent) → InvT bs t → DnT bs t → slice_get t.network.up age ≡ o → OfSent (IsUnderWay (made t) age) o → DnT bs (takes_sent (with_up t (changed_at age once_more t.network.up)) o)
up_by bs t age None inv dn at may = absurd may
up_by bs t age (Some s) inv dn at may =
    dn_took bs (with_up t (changed_at age once_more t.network.up)) (once_more s) age may.young (changed_get once_more age t.network.up s at) (more bs t age dn) (apart bs t age s inv at may.soon)
    (hears_serving t.gateway.makers t.gateway.acted t.gateway.channel s.endpoint t.now inv.serving) (datagram_in s.octets) refl

refused_by : (bs : List Book) (t : Tunnel) (age status : ℕ) (o : Option Sent) → DnT bs t → status ≢ 0 → DnT bs (refuses (with_up t (changed_at age once_more t.network.up)) status o)
refused_by bs t age status None dn n = more bs t age dn
refused_by bs t age status (Some s) dn n =
    dn_other bs (changed_at age once_more t.network.up) t.network.down t.gateway.makers t.gateway.channel t.gateway.puts (more bs t age dn) (Written (ConnectResponse 0 status None)) s.endpoint (length t.gateway.makers)
    (λ i. subst IsTell (refusal_seen status n) i)

-- ---- every event

after_both : (r : List Entry) (t : Tunnel) (e : TunnelEvent) (now : ℕ) → Halves r t → MayHappen Commissions t e → SendsRightly (noted (item_of t e) now r) → Keeps (noted (item_of t e) now r) (after t e)
after_both r t (Send octets) now h can right =
    send_by (books r) (channel r) t octets now (owed r) (head_state r) h.ours h.theirs h.owes (ack_or r (entry (Put octets) now) (datagram_in octets) right.0)
after_both r t (From endpoint octets) now h can right = absurd can
after_both r t Renew now h can right = renew_by r t now h
after_both r t (Up age) now h can right = (up_by (books r) t age (slice_get t.network.up age) h.ours h.theirs refl can, h.owes)
after_both r t (UpRefused age status) now h can right = (refused_by (books r) t age status (slice_get t.network.up age) h.theirs can.2, h.owes)
after_both r t (Down age) now h can right = down_by r t age now (slice_get t.network.down age) h refl can
after_both r t (LoseUp age) now h can right = (dn_up_changed (books r) t.network.up t.network.down t.gateway.makers t.gateway.channel t.gateway.puts h.theirs age (λ y. y.delivered) (λ y. true), h.owes)
after_both r t (LoseDown age) now h can right = (dn_down_changed (books r) t.network.up t.network.down t.gateway.makers t.gateway.channel t.gateway.puts h.theirs age (λ y. y.delivered) (λ y. true), h.owes)
after_both r t (Carried confirmation) now h can right = (h.theirs, h.owes)
after_both r t (Heard frames) now h can right = (h.theirs, h.owes)
after_both r t Repeat now h can right = (dn_repeats (books r) t h.ours h.theirs t.gateway.channel refl, h.owes)
after_both r t Close now h can right = (dn_closes (books r) t h.theirs t.gateway.channel refl, h.owes)
after_both r t (Pass ms) now h can right = wait_by (books r) (channel r) t ms now (head_state r) h.theirs
after_both r t Elsewhere now h can right = (h.theirs, h.owes)

step_both : (r : List Entry) (t : Tunnel) (e : TunnelEvent) (now : ℕ) → Halves r t → MayHappen Commissions t e → RenewsRightly (noted (item_of t e) now r) → SendsRightly (noted (item_of t e) now r) → Halves (noted (item_of t e) now r) (step t e)
step_both r t e now h can a b =
    let may = may_do r t e now a b in
    let inv : InvT (books (noted (item_of t e) now r)) (after t e) = books_noted (item_of t e) now r (after t e) (after_kept (books r) t e now h.ours can may) in
    let kept = after_both r t e now h can b in
    record {
      ours = books_noted (item_of t e) now r (step t e) (step_kept (books r) t e now h.ours can may);
      theirs = dn_next (books (noted (item_of t e) now r)) (after t e) inv kept.0;
      owes = kept.1;
    }

-- ---- always

first_ends : (me : IndAddr) (e : ℕ) (b : Book) → Has (new_book ∷ []) e b → Ends [] [] None [] e b.view.number b.view.takes b.state
first_ends me e b (inl q) =
    let P : Book → Type 0 = λ x. Ends [] [] None [] e x.view.number x.view.takes x.state in
    let here : P new_book = record { acks = 0; sent = Nothing; acked = omega arith; owes = omega arith; none = λ h. refl; each = λ k h. absurd h; expects = refl } in
    subst P q.1 here
first_ends me e b (inr q) = absurd q

begin : (me : IndAddr) → Halves [] (fresh me)
begin me = record { ours = first me; theirs = record { requests = λ k. Nothing; ends = first_ends me; unmade = λ k le. refl }; owes = tt }

always : (me : IndAddr) (events : List TunnelEvent) → IsLegal Commissions (fresh me) events → RenewsRightly (tunnel_record (fresh me) events) → SendsRightly (tunnel_record (fresh me) events)
    → Halves (tunnel_record (fresh me) events) (replay (fresh me) events)
always me [] legal a b = begin me
always me (e ∷ events) legal a b =
    let t : Tunnel = replay (fresh me) events in
    let r : List Entry = tunnel_record (fresh me) events in
    let now : ℕ = (replay (fresh me) (e ∷ events)).now in
    step_both r t e now (always me events legal.1 (renews_before (item_of t e) now r a) (sends_before (item_of t e) now r b)) legal.0 a b

-- ---- what this says

first_of : (makers : List ℕ) (c : Option Channel) (number : Option ℕ) (takes puts : List (List ℕ)) (k acks : ℕ) → At makers c number takes puts k acks → number ≡ Some (number_of k) → IsPrefix takes puts
first_of makers c number takes puts k acks a is = let b : Between takes puts acks a.settled = a.joined is in b.prefix

says_both : (t : Tunnel) (r : List Entry) → Halves r t → IsActedOnce t.gateway r
says_both t r h =
    let up = says t r h.ours in
    record {
      up = up.up;
      alone = up.alone;
      down = λ k v c.
          (let f : Booked (books r) c.endpoint v = booked (books r) c.endpoint v (subst (λ z. Has z c.endpoint v) (views_are r) c.view) in
          let n : Ends t.network.up t.gateway.makers t.gateway.channel t.gateway.puts c.endpoint f.book.view.number f.book.view.takes f.book.state = h.theirs.ends c.endpoint f.book f.at in
          subst (λ (z : View). IsPrefix z.takes (in_channel k t.gateway.puts)) f.is
          (first_of t.gateway.makers t.gateway.channel f.book.view.number f.book.view.takes (in_channel k t.gateway.puts) k n.acks (n.each k c.made_by) (ap (λ (z : View). z.number) f.is ∙ c.number)));
    }

pub once_both : (me : IndAddr) (events : List TunnelEvent) → IsLegal Commissions (fresh me) events → RenewsRightly (tunnel_record (fresh me) events) → SendsRightly (tunnel_record (fresh me) events)
    → IsActedOnce (replay (fresh me) events).gateway (tunnel_record (fresh me) events)
once_both me events legal a b = says_both (replay (fresh me) events) (tunnel_record (fresh me) events) (always me events legal a b)
