-- From the gateway's closing on, and after the channel is lost.
use Rattle.std.proofs.Common.{◌≡◌, ℕ, zero, suc, ◌+◌, ◌≤◌, ◌⊎◌, List, [], ◌∷◌, ◌++◌, length, Bool, true, false, cond, ◌&&◌, ◌||◌, Option, Some, None, refl, sym, ◌∙◌, ap, subst, arith, inl, inr, length-append}
use Rattle.std.specs.Prelude.{slice_get, take, ◌==◌}
use Rattle.std.proofs.lemmas.Bool.{eq-eqb, eqb-true, and_parts}
use Rattle.knx_model.specs.declared.frames.ip.IpFrame.{IpFrame}
use Rattle.knx_model.specs.declared.frames.ip.IpFrame.TheVariants.{ConnectRequest, ConnectResponse, StateRequest, StateResponse, DisconnectRequest, DisconnectResponse, TunnellingRequest, TunnellingAck}
use Rattle.line_model.specs.Reading.{datagram_in, disconnect_request_in, is_connect_request}
use Rattle.line_model.specs.Network.{Sent, IsUnderWay, MayReach, changed_at, once_more}
use Rattle.line_model.specs.Gateway.{Channel, gateway_took}
use Rattle.line_model.specs.Tunnel.{Tunnel, Send, Up as Arrives, Down as Reaches, after, takes_frame, takes_sent, with_up, made, Commissions}
use Rattle.line_model.specs.Record.{Entry, Item, Put, Got, entry, got, is_renewal}
use Rattle.line_model.specs.ChannelLost.{has_left, has_lapsed, is_lost}
use Rattle.line_model.specs.ClientView.{ClientChannel, Fresh, Open, Lost, after_entry, channel}
use Rattle.line_model.specs.Sendings.{IsRightFrame}
use Rattle.line_model.specs.Closing.{is_open}
use Rattle.line_model.specs.Leaves.{StaysOpen}
use Rattle.line_model.specs.Deliveries.{is_under_way, or_here, oldest, next_up, next_down}
use Rattle.line_model.specs.Fresh.{TunnelSettled}
use Rattle.std.specs.Prelude.{is_some}
use Rattle.calm_law.proofs.Ways.{IsNew, Way, Took, taken, settled}
use Rattle.calm_law.proofs.Tokens.{Fall, Left, fallen, read_down}
use Rattle.calm_law.proofs.Seen.{IsOpen, seen, seen_after, up_put, asks_on}
use Rattle.calm_law.proofs.Sends.{MayDo, just_renewed}
use Rattle.calm_law.proofs.Rises.{comes}
use Rattle.calm_law.proofs.Parts.{Asks, NoneAsks, Parted}

-- the channel is lost, after the client asked for its end
pub record Gone (r : List Entry) : Type 0 where
  pub number : ℕ
  pub lost : channel r ≡ Lost number
  pub asked : StaysOpen r → ⊥

lost_stays : (c : ℕ) (x : Entry) → is_renewal x.what ≡ false → after_entry (Lost c) x ≡ Lost c
unfolding after_entry
lost_stays c x h = rw h refl

pub gone_on : (r : List Entry) (x : Entry) → Gone r → MayDo r x → Gone (x ∷ r)
gone_on r x g may = by_renewal (is_renewal x.what) refl where
  by_renewal : (b : Bool) → is_renewal x.what ≡ b → Gone (x ∷ r)
  by_renewal true e = absurd (g.asked (may.pace.seeks e))
  by_renewal false e = record { number = g.number; lost = ap (λ c. after_entry c x) g.lost ∙ lost_stays g.number x e; asked = λ z. g.asked z.1 }

-- ---- what is delivered next wasn't delivered

record Named (sent : List Sent) (start age : ℕ) : Type 0 where
  i : ℕ
  is : age ≡ start + i
  s : Sent
  there : slice_get sent i ≡ Some s
  undelivered : s.delivered ≡ 0

named : (test : ℕ → Sent → Bool) (sent : List Sent) (start age : ℕ) → oldest test start sent ≡ Some age → Named sent start age
named test [] start age e = absurd (cc)
named test (s ∷ sent) start age e = by_rest (λ q. named test sent (suc start) age q) (oldest test (suc start) sent) refl e where
  here : (b : Bool) → (test start s && (s.delivered == 0)) ≡ b → or_here b start None ≡ Some age → Named (s ∷ sent) start age
  here true t g =
      let at : start ≡ age = (let k : Some start ≡ Some age = g in cc) in
      record { i = 0; is = omega (arith, at); s = s; there = refl; undelivered = eqb-true s.delivered 0 (and_parts (test start s) (s.delivered == 0) t).1 }
  here false t g = absurd (cc)

  by_rest : (oldest test (suc start) sent ≡ Some age → Named sent (suc start) age) → (o : Option ℕ) → oldest test (suc start) sent ≡ o → or_here (test start s && (s.delivered == 0)) start o ≡ Some age → Named (s ∷ sent) start age
  by_rest f (Some older) q g =
      let same : older ≡ age = (let k : Some older ≡ Some age = g in cc) in
      let n : Named sent (suc start) age = f (q ∙ ap (λ z. Some z) same) in
      record { i = suc n.i; is = (let h : age ≡ suc start + n.i = n.is in omega (arith, h)); s = n.s; there = n.there; undelivered = n.undelivered }
  by_rest f None q g = here (test start s && (s.delivered == 0)) refl g

none_at : (sent : List Sent) (i : ℕ) (s : Sent) → NoneAsks sent → slice_get sent i ≡ Some s → s.delivered ≡ 0 → Asks (datagram_in s.octets) → ⊥
none_at [] i s h e u a = cc
none_at (y ∷ sent) zero s h e u a =
    let same : y ≡ s = cc in
    elim h.0 [
      | inl came ↦ (let d : y.delivered ≡ s.delivered = ap (λ (z : Sent). z.delivered) same in omega (arith, came, d, u))
      | inr not_ask ↦ not_ask (subst (λ (z : Sent). Asks (datagram_in z.octets)) (sym same) a)
    ]
none_at (y ∷ sent) (suc i) s h e u a = none_at sent i s h.1 e u a

none_once : (sent : List Sent) (i : ℕ) → NoneAsks sent → NoneAsks (changed_at i once_more sent)
none_once [] i h = tt
none_once (s ∷ sent) zero h = (inl (omega arith), h.1)
none_once (s ∷ sent) (suc i) h = (h.0, none_once sent i h.1)

-- ---- a datagram for a gateway without a channel changes nothing

module _ (r : List Entry) (T : Tunnel) where
  abbrev with_it : Option Channel → Tunnel
  with_it c = record T { gateway = record T.gateway { channel = c } }

  shut_takes : (from : ℕ) (f : Option IpFrame) → (Asks f → ⊥) → takes_frame (with_it None) from f ≡ with_it None
  unfolding gateway_took
  shut_takes from None n = refl
  shut_takes from (Some ConnectRequest) n = absurd (n tt)
  shut_takes from (Some (ConnectResponse c s t)) n = refl
  shut_takes from (Some (StateRequest c)) n = refl
  shut_takes from (Some (StateResponse c s)) n = refl
  shut_takes from (Some (DisconnectRequest c)) n = absurd (n tt)
  shut_takes from (Some (DisconnectResponse c s)) n = refl
  shut_takes from (Some (TunnellingRequest c n2 p)) n = refl
  shut_takes from (Some (TunnellingAck c n2 s)) n = refl

  takes_nothing : (from : ℕ) (f : Option IpFrame) → T.gateway.channel ≡ None → (Asks f → ⊥) → takes_frame T from f ≡ T
  takes_nothing from f shut n =
      let P : Option Channel → Type 0 = λ c. takes_frame (with_it c) from f ≡ with_it c in
      subst P (sym shut) (shut_takes from f n)

pub parted_up : (r : List Entry) (t : Tunnel) (age : ℕ) → Parted r t → next_up t ≡ Some age → Parted r (after t (Arrives age))
parted_up r t age p next =
    let n : Named t.network.up 0 age = named (λ a s. is_under_way (made t) a s) t.network.up 0 age next in
    let at : age ≡ n.i = (let e : age ≡ 0 + n.i = n.is in omega (arith, e)) in
    let T : Tunnel = with_up t (changed_at n.i once_more t.network.up) in
    let same : takes_sent T (slice_get t.network.up n.i) ≡ T
    = ap (takes_sent T) n.there ∙ takes_nothing r T n.s.endpoint (datagram_in n.s.octets) p.shut (λ a. none_at t.network.up n.i n.s p.rising n.there n.undelivered a) in
    let here : Parted r T = record { s = p.s; up = p.up; shut = p.shut; made = p.made; rising = none_once t.network.up n.i p.rising; status = p.status; older = p.older; falling = p.falling; few = p.few } in
    subst (λ a. Parted r (after t (Arrives a))) (sym at) (subst (λ z. Parted r z) (sym same) here)

-- ---- what the client sends

pub parted_put : (r : List Entry) (t : Tunnel) (octets : List ℕ) → Parted r t → MayDo r (entry (Put octets) t.now) → Parted (entry (Put octets) t.now ∷ r) (after t (Send octets))
parted_put r t octets p may = by_frame (datagram_in octets) refl may.sends where
  x : Entry
  x = entry (Put octets) t.now

  o : IsOpen r p.s
  o = p.up.open_

  asks_not : (f : Option IpFrame) → datagram_in octets ≡ f → Asks f → ⊥
  asks_not None d a = a
  asks_not (Some ConnectRequest) d a =
      let fresh : channel r ≡ Fresh = just_renewed r (may.renews.connects (ap is_connect_request d)) in
      let there : channel r ≡ Open 1 (p.up.open_.first ∷ p.up.open_.rest) = p.up.open_.is in cc
  asks_not (Some (ConnectResponse c s t2)) d a = a
  asks_not (Some (StateRequest c)) d a = a
  asks_not (Some (StateResponse c s)) d a = a
  asks_not (Some (DisconnectRequest c)) d a = p.up.asks.1 (may.pace.ends_once (ap (λ z. is_some (disconnect_request_in z)) d) (ap is_open p.up.open_.is))
  asks_not (Some (DisconnectResponse c s)) d a = a
  asks_not (Some (TunnellingRequest c n q)) d a = a
  asks_not (Some (TunnellingAck c n s)) d a = a

  by_frame : (f : Option IpFrame) → datagram_in octets ≡ f → IsRightFrame r (entry (Put octets) t.now) f → Parted (entry (Put octets) t.now ∷ r) (after t (Send octets))
  by_frame None d right = absurd right
  by_frame (Some f) d right =
      record {
        s = seen_after p.s t.now (Some f) None;
        up = up_put true r t.present p.s octets t.now f d p.up;
        shut = p.shut;
        made = p.made;
        rising = (inr (λ a. asks_not (datagram_in octets) refl a), p.rising);
        status = p.status;
        older = p.older;
        falling = p.falling;
        few = p.few;
      }

-- ---- what the client gets

or_true : (a b : Bool) → b ≡ true → (a || b) ≡ true
or_true true b h = refl
or_true false b h = h

ends_it : (l : List Entry) (x : Entry) (octets : List ℕ) (now status : ℕ) → x ≡ entry (Got (take 512 octets)) now → read_down octets ≡ Some (DisconnectResponse 1 status) → has_left 1 l ≡ true → is_lost 1 l (entry (Got (take 512 octets)) now) ≡ true
ends_it l x octets now status e d left = or_true (has_lapsed 1 l now) _ (rw (d, left) refl)

lost_now : (b : Bool) (ch : ClientChannel) → b ≡ true → cond b (Lost 1) ch ≡ Lost 1
lost_now b ch h = rw h refl

open_now : (b : Bool) (ch : ClientChannel) → b ≡ false → cond b (Lost 1) ch ≡ ch
open_now b ch h = rw h refl

channel_at : (r l : List Entry) (octets : List ℕ) (now : ℕ) → channel r ≡ Open 1 l → channel (entry (Got (take 512 octets)) now ∷ r) ≡ cond (is_lost 1 l (entry (Got (take 512 octets)) now)) (Lost 1) (Open 1 (entry (Got (take 512 octets)) now ∷ l))
unfolding after_entry
channel_at r l octets now e = ap (λ c. after_entry c (entry (Got (take 512 octets)) now)) e

first_of_two : (a b : Fall) (xs ys : List Fall) → a ∷ xs ≡ b ∷ ys → (a ≡ b) × (xs ≡ ys)
first_of_two a b xs ys e = (cc, cc)

pub record Part (r : List Entry) (t : Tunnel) (age : ℕ) : Type 0 where
  pub item : Item
  pub is : got (slice_get t.network.down age) ≡ Some item
  pub so : Parted (entry item t.now ∷ r) (after t (Reaches age)) ⊎ Gone (entry item t.now ∷ r)

pub parted_down : (r : List Entry) (t : Tunnel) (age : ℕ) → Parted r t → next_down Commissions t ≡ Some age → Part r t age
parted_down r t age p next =
    let few : length p.older ≤ 9 = p.few in
    let w : Took Fall read_down fallen (Left p.status ∷ p.older) t.network.down 0 age
    = taken Fall read_down fallen (λ a s. is_under_way (made t) a s && (s.endpoint == t.present))
    (λ a f s young new. passes (is_under_way (made t) a s) s.endpoint (comes read_down (fallen f) (made t) a s p.made young new) (new.from ∙ sym p.up.at)) (Left p.status ∷ p.older) t.network.down 0 age
    (omega (arith, few)) p.falling next in
    let at : age ≡ w.i = (let e : age ≡ 0 + w.i = w.is in omega (arith, e)) in
    let there : slice_get t.network.down age ≡ Some w.s = ap (λ a. slice_get t.network.down a) at ∙ w.there in
    let way : Way Fall read_down fallen w.before (changed_at age once_more t.network.down) = subst (λ a. Way Fall read_down fallen w.before (changed_at a once_more t.network.down)) (sym at) w.rest in
    record { item = Got (take 512 w.s.octets); is = ap got there; so = by_lost w.s.octets w.before w.last w.split way w.new.reads (is_lost 1 (p.up.open_.first ∷ p.up.open_.rest) (entry (Got (take 512 w.s.octets)) t.now)) refl }
  where
    passes : (b : Bool) (e : ℕ) → b ≡ true → e ≡ t.present → (b && (e == t.present)) ≡ true
    passes b e q h = rw (q, eq-eqb e t.present h) refl

    goes_on : (octets : List ℕ) (before : List Fall) (last : Fall) → Left p.status ∷ p.older ≡ before ++ last ∷ [] → Way Fall read_down fallen before (changed_at age once_more t.network.down) → read_down octets ≡ Some (fallen last)
        → is_lost 1 (p.up.open_.first ∷ p.up.open_.rest) (entry (Got (take 512 octets)) t.now) ≡ false → Parted (entry (Got (take 512 octets)) t.now ∷ r) (after t (Reaches age))
    goes_on octets [] last split way d open_ =
        let same : last ≡ Left p.status = sym (first_of_two (Left p.status) last p.older [] split).0 in
        let d2 : read_down octets ≡ Some (DisconnectResponse 1 p.status) = d ∙ ap (λ f. Some (fallen f)) same in
        let gone : is_lost 1 (p.up.open_.first ∷ p.up.open_.rest) (entry (Got (take 512 octets)) t.now) ≡ true = ends_it (p.up.open_.first ∷ p.up.open_.rest) (entry (Got (take 512 octets)) t.now) octets t.now p.status refl d2 p.up.asks.0 in
        absurd (cc)
    goes_on octets (b ∷ bs) last split way d open_ =
        let two = first_of_two (Left p.status) b p.older (bs ++ last ∷ []) split in
        let x : Entry = entry (Got (take 512 octets)) t.now in
        let l : List Entry = p.up.open_.first ∷ p.up.open_.rest in
        let n : IsOpen (x ∷ r) (seen (x ∷ l)) = record { first = x; rest = l; is = channel_at r l octets t.now p.up.open_.is ∙ open_now (is_lost 1 l x) (Open 1 (x ∷ l)) open_; says = refl } in
        let few : length p.older ≤ 9 = p.few in
        let count : length p.older ≡ length bs + 1 = ap (λ (z : List Fall). length z) two.1 ∙ length-append bs (last ∷ []) in
        record {
          s = seen (x ∷ l);
          up = record { open_ = n; asks = asks_on true r p.s (seen (x ∷ l)) x p.up.open_ n refl refl p.up.asks; renewed = p.up.renewed; at = p.up.at };
          shut = p.shut;
          made = p.made;
          rising = p.rising;
          status = p.status;
          older = bs;
          falling = subst (λ f. Way Fall read_down fallen (f ∷ bs) (changed_at age once_more t.network.down)) (sym two.0) way;
          few = omega (arith, few, count);
        }

    by_lost : (octets : List ℕ) (before : List Fall) (last : Fall) → Left p.status ∷ p.older ≡ before ++ last ∷ [] → Way Fall read_down fallen before (changed_at age once_more t.network.down) → read_down octets ≡ Some (fallen last)
        → (b : Bool) → is_lost 1 (p.up.open_.first ∷ p.up.open_.rest) (entry (Got (take 512 octets)) t.now) ≡ b → Parted (entry (Got (take 512 octets)) t.now ∷ r) (after t (Reaches age)) ⊎ Gone (entry (Got (take 512 octets)) t.now ∷ r)
    by_lost octets before last split way d true e =
        let x : Entry = entry (Got (take 512 octets)) t.now in
        let l : List Entry = p.up.open_.first ∷ p.up.open_.rest in
        inr (record { number = 1; lost = channel_at r l octets t.now p.up.open_.is ∙ lost_now (is_lost 1 l x) (Open 1 (x ∷ l)) e; asked = λ z. p.up.asks.1 z.1 })
    by_lost octets before last split way d false e = inl (goes_on octets before last split way d e)

-- ---- no time passes meanwhile

pub parted_pass : (r : List Entry) (t : Tunnel) → Parted r t → TunnelSettled Commissions t → ⊥
parted_pass r t p is =
    let none : Left p.status ∷ p.older ≡ []
    = settled Fall read_down fallen (λ l age. MayReach t.present (made t) l age) (λ f s l new. (under_way f s new, new.from ∙ sym p.up.at)) (Left p.status ∷ p.older) t.network.down p.falling is.down in
    cc
  where
    under_way : (f : Fall) (s : Sent) → IsNew read_down (fallen f) s → IsUnderWay (made t) 0 s
    under_way f s new = let u : s.delivered ≡ 0 = new.undelivered in let few : made t ≤ 1 = p.made in record { kept = new.kept; twice = omega (arith, u); young = omega arith; soon = omega (arith, few) }
