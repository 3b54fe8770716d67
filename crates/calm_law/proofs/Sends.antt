-- What the client sends.
use Rattle.std.proofs.Common.{◌≡◌, ℕ, suc, ◌+◌, ◌-◌, ◌≤◌, ◌⊎◌, List, [], ◌∷◌, Bool, true, false, ◌||◌, Option, Some, None, refl, sym, ◌∙◌, ap, subst, arith, inl, inr}
use Rattle.std.specs.Prelude.{nat_le, is_some}
use Rattle.std.proofs.lemmas.Bool.{leb-true}
use Rattle.knx_model.specs.declared.address.IndAddr.{IndAddr}
use Rattle.knx_model.specs.declared.frames.cemi.Ldata.{Ldata}
use Rattle.knx_model.specs.declared.frames.ip.IpFrame.{IpFrame}
use Rattle.knx_model.specs.declared.frames.ip.IpFrame.TheVariants.{ConnectRequest, ConnectResponse, StateRequest, StateResponse, DisconnectRequest, DisconnectResponse, TunnellingRequest, TunnellingAck}
use Rattle.line_model.specs.Reading.{datagram_in, ldata_in, is_req, is_connect_request, request_in, disconnect_request_in}
use Rattle.line_model.specs.Network.{Sent, new_datagram}
use Rattle.line_model.specs.Tunnel.{Send, after}
use Rattle.line_model.specs.Record.{Put, Entry, entry, got_in, is_renewal}
use Rattle.line_model.specs.ChannelLost.{own}
use Rattle.line_model.specs.ClientView.{ClientChannel, Fresh, Sought, RefusedBy, Unanswered, Open, Lost, Puts, Nothing, after_entry, channel, deed}
use Rattle.line_model.specs.Renews.{RenewsSo, is_just_renewed, has_renewed, owed, owed_in, IsOwed, is_beat_due, last_beat, is_repeat_due}
use Rattle.line_model.specs.Sendings.{IsRightItem, IsRightFrame, IsRightBeat, IsRightRequest, OfOpen, OwnsChannel, end_got}
use Rattle.line_model.specs.Closing.{is_open}
use Rattle.line_model.specs.Haste.{KeepsPace}
use Rattle.calm_law.specs.CalmTunnel.{PutsSo, PutsFree}
use Rattle.calm_law.proofs.Tokens.{Rise, Fall, Ask, Tell, Receipt, Beat, Leave}
use Rattle.calm_law.proofs.Seen.{Seen, IsOpen, up_put, up_leaves}
use Rattle.calm_law.proofs.Owning.{own_none}
use Rattle.calm_law.proofs.State.{Door, Shut, Knocked, Replied, Ajar, Stage, Rising, Riding, Past, Under, Free, Coming, Owed, Back, Pulse, Calm, Beating, Echo, Nums, owed_at, seen_at, awaited, flies, con_under, cons_in, Paced, IsFree, IsUnseen, Goes, Going, going, tunnel_at, sent_at, flies_of, queue_of, Steps}

-- ---- what the client may do

pub record MayDo (r : List Entry) (x : Entry) : Type 0 where
  pub sends : IsRightItem r x x.what
  pub renews : RenewsSo r x
  pub acknowledges : IsOwed (owed r) x
  pub pace : KeepsPace r x
  pub puts : PutsSo (channel r) (deed (channel r) x)

-- ---- an entry in which nothing was got

pub owed_none : (a b : ClientChannel) (x : Entry) → got_in x.what ≡ None → owed_in a x b ≡ None
owed_none Fresh b x h = refl
owed_none (Sought since) b x h = refl
owed_none (RefusedBy status) b x h = refl
owed_none Unanswered b x h = refl
owed_none (Lost c) b x h = refl
owed_none (Open c l) Fresh x h = refl
owed_none (Open c l) (Sought since) x h = refl
owed_none (Open c l) (RefusedBy status) x h = refl
owed_none (Open c l) Unanswered x h = refl
owed_none (Open c l) (Lost d) x h = refl
owed_none (Open c l) (Open d m) x h = rw h refl

pub paced_put : (r : List Entry) (octets : List ℕ) (now : ℕ) → Paced r now → Paced (entry (Put octets) now ∷ r) now
paced_put r octets now p = record { newest = refl; last = p.last; before = p.before }

-- ---- a new endpoint is fresh

renewed_by : (c : ClientChannel) (x : Entry) → is_renewal x.what ≡ true → after_entry c x ≡ Fresh
unfolding after_entry
renewed_by c x h = rw h refl

pub just_renewed : (r : List Entry) → is_just_renewed r ≡ true → channel r ≡ Fresh
just_renewed [] h = cc
just_renewed (x ∷ r) h = renewed_by (channel r) x h

true_or : (a b : Bool) → a ≡ true → (a || b) ≡ true
true_or a b h = rw h refl

just_is : (r : List Entry) → is_just_renewed r ≡ true → has_renewed r ≡ true
just_is [] h = cc
just_is (x ∷ r) h = true_or (is_renewal x.what) (has_renewed r) h

sought_by : (c : ClientChannel) (octets : List ℕ) (now : ℕ) → c ≡ Fresh → datagram_in octets ≡ Some ConnectRequest → after_entry c (entry (Put octets) now) ≡ Sought now
unfolding after_entry
sought_by c octets now h d = rw (h, d) refl

-- ---- an acknowledgement

abbrev is_ack : IpFrame → Bool
is_ack (TunnellingAck c n s) = true
is_ack _ = false

abbrev is_ack_in : Option IpFrame → Bool
is_ack_in None = false
is_ack_in (Some f) = is_ack f

-- ---- no wait has passed since now

pub not_yet : (wait now : ℕ) → nat_le (suc wait) (now - now) ≡ true → ⊥
not_yet wait now h = let g : suc wait ≤ now - now = leb-true (suc wait) (now - now) h in omega arith

module _ (r : List Entry) (octets : List ℕ) (present : ℕ) (up down : List Sent) (waiting : List Ldata) (me : IndAddr) (acted puts : List (ℕ × List ℕ)) (now : ℕ) (may : MayDo r (entry (Put octets) now)) (E F : Option Ldata → List Ldata → Type 0) (to : Steps E F (deed (channel r) (entry (Put octets) now))) where
  abbrev x : Entry
  x = entry (Put octets) now

  abbrev After : Door → Stage → Under → Nums → Type 0
  After door stage under m = Going F (x ∷ r) (after (tunnel_at door stage under m present up down me waiting acted puts now) (Send octets))

  -- what is sent isn't owed, if it isn't an acknowledgement
  owes_not : (o : ℕ) (f : IpFrame) → datagram_in octets ≡ Some f → got_in x.what ≡ None → is_ack f ≡ false → (under : Under) → owed r ≡ owed_at o under → owed_at o under ≡ None
  owes_not o f d g n Free e = refl
  owes_not o f d g n (Coming y) e = refl
  owes_not o f d g n (Owed y) e =
      let a : IsOwed (Some (TunnellingAck 1 o 0)) x = subst (λ w. IsOwed w x) e may.acknowledges in
      absurd (let b : is_ack_in (Some f) ≡ true = ap is_ack_in (sym d ∙ a) in cc)
  owes_not o f d g n (Back y) e = refl

  queue_cons : (u : Under) → con_under u + cons_in waiting ≡ 0 → cons_in (queue_of u waiting) ≡ 0
  queue_cons Free e = omega (arith, e)
  queue_cons (Coming y) e = e
  queue_cons (Owed y) e = omega (arith, e)
  queue_cons (Back y) e = omega (arith, e)

  -- ---- what the entry is to the channel

  puts_deed : (l : List Entry) (n : ℕ) (cemi : List ℕ) → datagram_in octets ≡ Some (TunnellingRequest 1 n cemi) → (own 1 l).sent ≡ [] → deed (Open 1 l) x ≡ Puts cemi
  unfolding deed
  puts_deed l n cemi d e = rw (d, e) refl

  plain_deed : (l : List Entry) (f : IpFrame) → datagram_in octets ≡ Some f → request_in (Some f) ≡ None → deed (Open 1 l) x ≡ Nothing
  unfolding deed
  plain_deed l f d e = rw d (rw e refl)

  fresh_deed : deed Fresh x ≡ Nothing
  unfolding deed
  fresh_deed = refl

  calmly : deed (channel r) x ≡ Nothing → (fly : Option Ldata) (q : List Ldata) → E fly q → F fly q
  calmly e fly q h = let s : Steps E F Nothing = subst (λ z. Steps E F z) e to in s fly q h

  nothing_put : (s : Seen) (f : IpFrame) → IsOpen r s → datagram_in octets ≡ Some f → request_in (Some f) ≡ None → deed (channel r) x ≡ Nothing
  nothing_put s f o d e = ap (λ c. deed c x) o.is ∙ plain_deed (o.first ∷ o.rest) f d e

  -- ---- a connect request

  ask_sent : (door : Door) (stage : Stage) (under : Under) (pulse : Pulse) (m : Nums) (ups : List Rise) (downs : List Fall) → datagram_in octets ≡ Some ConnectRequest → Goes E door stage under pulse m ups downs r present up down waiting now → After door stage under m
  ask_sent Shut stage under pulse m ups downs d h =
      let just : is_just_renewed r ≡ true = may.renews.connects (ap is_connect_request d) in
      let at : present ≡ 1 = one h.door_is.1 (just_is r just) in
      going F Knocked stage under pulse m (Ask ∷ ups) downs (x ∷ r) present (new_datagram octets present 0 ∷ up) down me waiting acted puts now
      (record {
        rising = (record { reads = d; from = at; undelivered = refl; kept = refl }, h.rising);
        falling = h.falling;
        ups_are = record { asks_are = ap (λ l. 0 ∷ l) h.ups_are.asks_are; tells_are = h.ups_are.tells_are; receipts_are = h.ups_are.receipts_are; beats_are = h.ups_are.beats_are; leaves_are = h.ups_are.leaves_are };
        downs_are = h.downs_are;
        door_is = (record { is = sought_by (channel r) octets now h.door_is.0 d; renewed = just_is r just; at = at }, h.door_is.2, h.door_is.3);
        owed_is = owed_none (channel r) (channel (x ∷ r)) x refl ∙ sym (none under h.door_is.3);
        end_is = refl;
        reads = h.reads;
        counts = h.counts;
        own = h.own;
        acked = h.acked;
        fits = h.fits;
        heard = h.heard;
        since = h.since;
        beat = h.beat;
        pace = paced_put r octets now h.pace;
        rides = calmly (ap (λ c. deed c x) h.door_is.0 ∙ fresh_deed) (flies_of stage) (queue_of under waiting) h.rides;
      })
    where
      one : ((has_renewed r ≡ false) × (present ≡ 0)) ⊎ ((has_renewed r ≡ true) × (present ≡ 1)) → has_renewed r ≡ true → present ≡ 1
      one (inl n) e = absurd (let a : has_renewed r ≡ false = n.0 in cc)
      one (inr y) e = y.1

      none : (u : Under) → IsFree u → owed_at m.put u ≡ None
      none Free f = refl
      none (Coming y) f = absurd f
      none (Owed y) f = absurd f
      none (Back y) f = absurd f
  ask_sent Knocked stage under pulse m ups downs d h =
      let f : channel r ≡ Fresh = just_renewed r (may.renews.connects (ap is_connect_request d)) in
      absurd (let e : channel r ≡ Sought now = h.door_is.0.is in cc)
  ask_sent Replied stage under pulse m ups downs d h =
      let f : channel r ≡ Fresh = just_renewed r (may.renews.connects (ap is_connect_request d)) in
      absurd (let e : channel r ≡ Sought now = h.door_is.0.is in cc)
  ask_sent (Ajar leaves) stage under pulse m ups downs d h =
      let f : channel r ≡ Fresh = just_renewed r (may.renews.connects (ap is_connect_request d)) in
      absurd (let o : IsOpen r (seen_at stage under pulse m now) = h.door_is.open_ in let e : channel r ≡ Open 1 (o.first ∷ o.rest) = o.is in cc)

  -- ---- in an open channel

  -- where none is open yet
  shut_not : (P : ClientChannel → Type 0) → (P Fresh → ⊥) → ((since : ℕ) → P (Sought since) → ⊥) → (door : Door) (stage : Stage) (under : Under) (pulse : Pulse) (m : Nums) (ups : List Rise) (downs : List Fall)
      → Goes E door stage under pulse m ups downs r present up down waiting now → P (channel r) → ((leaves : Bool) → door ≡ Ajar leaves → ⊥) → ⊥
  shut_not P a b Shut stage under pulse m ups downs h p n = a (subst P h.door_is.0 p)
  shut_not P a b Knocked stage under pulse m ups downs h p n = b now (subst P h.door_is.0.is p)
  shut_not P a b Replied stage under pulse m ups downs h p n = b now (subst P h.door_is.0.is p)
  shut_not P a b (Ajar leaves) stage under pulse m ups downs h p n = n leaves refl

  -- a heartbeat
  beat_sent : (leaves : Bool) (stage : Stage) (under : Under) (pulse : Pulse) (m : Nums) (ups : List Rise) (downs : List Fall) → datagram_in octets ≡ Some (StateRequest 1) → Goes E (Ajar leaves) stage under pulse m ups downs r present up down waiting now
      → ((l : List Entry) → channel r ≡ Open 1 l → is_beat_due 1 l now ≡ true) → After (Ajar leaves) stage under m
  beat_sent leaves stage under Beating m ups downs d h due =
      let o : IsOpen r (seen_at stage under Beating m now) = h.door_is.open_ in
      let at : last_beat 1 (o.first ∷ o.rest) ≡ now = ap (λ (s : Seen). s.beat) o.says ∙ h.beat in
      absurd (not_yet 59999 now (ap (λ z. nat_le 60000 (now - z)) (sym at) ∙ due (o.first ∷ o.rest) o.is))
  beat_sent leaves stage under Echo m ups downs d h due =
      let o : IsOpen r (seen_at stage under Echo m now) = h.door_is.open_ in
      let at : last_beat 1 (o.first ∷ o.rest) ≡ now = ap (λ (s : Seen). s.beat) o.says ∙ h.beat.0 in
      absurd (not_yet 59999 now (ap (λ z. nat_le 60000 (now - z)) (sym at) ∙ due (o.first ∷ o.rest) o.is))
  beat_sent leaves stage under Calm m ups downs d h due =
      going F (Ajar leaves) stage under Beating (record m { beat = now }) (Beat ∷ ups) downs (x ∷ r) present (new_datagram octets present 1 ∷ up) down me waiting acted puts now
      (record {
        rising = (record { reads = d; from = h.door_is.at; undelivered = refl; kept = refl }, h.rising);
        falling = h.falling;
        ups_are = record { asks_are = h.ups_are.asks_are; tells_are = h.ups_are.tells_are; receipts_are = h.ups_are.receipts_are; beats_are = ap (λ l. 0 ∷ l) h.ups_are.beats_are; leaves_are = h.ups_are.leaves_are };
        downs_are = h.downs_are;
        door_is = up_put leaves r present (seen_at stage under Calm m now) octets now (StateRequest 1) d h.door_is;
        owed_is = owed_none (channel r) (channel (x ∷ r)) x refl ∙ sym (owes_not m.put (StateRequest 1) d refl refl under h.owed_is);
        end_is = refl;
        reads = h.reads;
        counts = h.counts;
        own = h.own;
        acked = h.acked;
        fits = h.fits;
        heard = h.heard;
        since = h.since;
        beat = refl;
        pace = paced_put r octets now h.pace;
        rides = calmly (nothing_put (seen_at stage under Calm m now) (StateRequest 1) h.door_is.open_ d refl) (flies_of stage) (queue_of under waiting) h.rides;
      })

  -- an acknowledgement
  receipt_sent : (leaves : Bool) (stage : Stage) (y : Ldata) (pulse : Pulse) (m : Nums) (ups : List Rise) (downs : List Fall) → datagram_in octets ≡ Some (TunnellingAck 1 m.put 0)
      → Goes E (Ajar leaves) stage (Owed y) pulse m ups downs r present up down waiting now → After (Ajar leaves) stage (Owed y) m
  receipt_sent leaves stage y pulse m ups downs d h =
      going F (Ajar leaves) stage (Back y) pulse m (Receipt m.put ∷ ups) downs (x ∷ r) present (new_datagram octets present 1 ∷ up) down me waiting acted puts now
      (record {
        rising = (record { reads = d; from = h.door_is.at; undelivered = refl; kept = refl }, h.rising);
        falling = h.falling;
        ups_are = record { asks_are = h.ups_are.asks_are; tells_are = h.ups_are.tells_are; receipts_are = ap (λ l. m.put ∷ l) h.ups_are.receipts_are; beats_are = h.ups_are.beats_are; leaves_are = h.ups_are.leaves_are };
        downs_are = h.downs_are;
        door_is = up_put leaves r present (seen_at stage (Owed y) pulse m now) octets now (TunnellingAck 1 m.put 0) d h.door_is;
        owed_is = owed_none (channel r) (channel (x ∷ r)) x refl;
        end_is = refl;
        reads = h.reads;
        counts = h.counts;
        own = h.own;
        acked = h.acked;
        fits = h.fits;
        heard = h.heard;
        since = h.since;
        beat = h.beat;
        pace = paced_put r octets now h.pace;
        rides = calmly (nothing_put (seen_at stage (Owed y) pulse m now) (TunnellingAck 1 m.put 0) h.door_is.open_ d refl) (flies_of stage) waiting h.rides;
      })

  -- the request for its end
  leave_sent : (stage : Stage) (under : Under) (pulse : Pulse) (m : Nums) (ups : List Rise) (downs : List Fall) → datagram_in octets ≡ Some (DisconnectRequest 1) → Goes E (Ajar false) stage under pulse m ups downs r present up down waiting now → After (Ajar false) stage under m
  leave_sent stage under pulse m ups downs d h =
      going F (Ajar true) stage under pulse m (Leave ∷ ups) downs (x ∷ r) present (new_datagram octets present 1 ∷ up) down me waiting acted puts now
      (record {
        rising = (record { reads = d; from = h.door_is.at; undelivered = refl; kept = refl }, h.rising);
        falling = h.falling;
        ups_are = record { asks_are = h.ups_are.asks_are; tells_are = h.ups_are.tells_are; receipts_are = h.ups_are.receipts_are; beats_are = h.ups_are.beats_are; leaves_are = ap (λ l. 0 ∷ l) h.ups_are.leaves_are };
        downs_are = h.downs_are;
        door_is = up_leaves r present (seen_at stage under pulse m now) octets now (DisconnectRequest 1) d refl h.door_is;
        owed_is = owed_none (channel r) (channel (x ∷ r)) x refl ∙ sym (owes_not m.put (DisconnectRequest 1) d refl refl under h.owed_is);
        end_is = refl;
        reads = h.reads;
        counts = h.counts;
        own = h.own;
        acked = h.acked;
        fits = h.fits;
        heard = h.heard;
        since = h.since;
        beat = h.beat;
        pace = paced_put r octets now h.pace;
        rides = calmly (nothing_put (seen_at stage under pulse m now) (DisconnectRequest 1) h.door_is.open_ d refl) (flies_of stage) (queue_of under waiting) h.rides;
      })

  -- a request
  tell_sent : (leaves : Bool) (stage : Stage) (under : Under) (pulse : Pulse) (m : Nums) (ups : List Rise) (downs : List Fall) (cemi : List ℕ) (f : Ldata) → datagram_in octets ≡ Some (TunnellingRequest 1 m.own cemi)
      → ldata_in cemi ≡ Some f → is_req f.code ≡ true → m.confirmed ≡ true → stage ≡ Past false → Goes E (Ajar leaves) stage under pulse m ups downs r present up down waiting now → After (Ajar leaves) stage under m
  tell_sent leaves (Rising other g) under pulse m ups downs cemi f d reads req con e h = absurd (cc)
  tell_sent leaves (Riding g b) under pulse m ups downs cemi f d reads req con e h = absurd (cc)
  tell_sent leaves (Past true) under pulse m ups downs cemi f d reads req con e h = absurd (let g : sent_at (Past true) now ≡ sent_at (Past false) now = ap (λ z. sent_at z now) e in cc)
  tell_sent leaves (Past false) under pulse m ups downs cemi f d reads req con e h =
      going F (Ajar leaves) (Rising cemi f) under pulse (record m { acked = None; confirmed = false; last = ldata_in cemi }) (Tell m.own cemi ∷ ups) downs (x ∷ r) present (new_datagram octets present 1 ∷ up) down me waiting acted puts now
      (record {
        rising = (record { reads = d; from = h.door_is.at; undelivered = refl; kept = refl }, h.rising);
        falling = h.falling;
        ups_are = record { asks_are = h.ups_are.asks_are; tells_are = ap (λ l. (m.own, cemi) ∷ l) h.ups_are.tells_are; receipts_are = h.ups_are.receipts_are; beats_are = h.ups_are.beats_are; leaves_are = h.ups_are.leaves_are };
        downs_are = h.downs_are;
        door_is = up_put leaves r present (seen_at (Past false) under pulse m now) octets now (TunnellingRequest 1 m.own cemi) d h.door_is;
        owed_is = owed_none (channel r) (channel (x ∷ r)) x refl ∙ sym (owes_not m.put (TunnellingRequest 1 m.own cemi) d refl refl under h.owed_is);
        end_is = refl;
        reads = (reads, req);
        counts = (let c : awaited m.confirmed ≡ 0 + (con_under under + cons_in waiting) = h.counts in let z : awaited m.confirmed ≡ 0 = ap awaited con in omega (arith, c, z));
        own = (reads, own_none (ldata_in cemi) (queue_of under waiting) (queue_cons under (let c : awaited m.confirmed ≡ 0 + (con_under under + cons_in waiting) = h.counts in let z : awaited m.confirmed ≡ 0 = ap awaited con in omega (arith, c, z))));
        acked = inr (inl refl);
        fits = h.fits;
        heard = h.heard;
        since = h.since;
        beat = h.beat;
        pace = paced_put r octets now h.pace;
        rides = (let o : IsOpen r (seen_at (Past false) under pulse m now) = h.door_is.open_ in
            let s : Steps E F (Puts cemi) = subst (λ z. Steps E F z) (ap (λ c. deed c x) o.is ∙ puts_deed (o.first ∷ o.rest) m.own cemi d (ap (λ (z : Seen). z.own.sent) o.says)) to in
            s f (queue_of under waiting) reads (queue_cons under (let c : awaited m.confirmed ≡ 0 + (con_under under + cons_in waiting) = h.counts in let z : awaited m.confirmed ≡ 0 = ap awaited con in omega (arith, c, z))) h.rides);
      })

  -- ---- what it may send

  not_repeat : (stage : Stage) → is_repeat_due (sent_at stage now) now ≡ true → ⊥
  not_repeat (Rising cemi f) e = not_yet 999 now e
  not_repeat (Riding f true) e = not_yet 999 now e
  not_repeat (Riding f false) e = cc
  not_repeat (Past true) e = not_yet 999 now e
  not_repeat (Past false) e = cc

  -- nothing of the client's is on its way
  is_past : (stage : Stage) (n : ℕ) → sent_at stage now ≡ [] → 0 ≡ flies stage + n → stage ≡ Past false
  is_past (Rising cemi f) n e c = absurd (cc)
  is_past (Riding f true) n e c = absurd (cc)
  is_past (Riding f false) n e c = absurd (let z : 0 ≡ 1 + n = c in omega (arith, z))
  is_past (Past true) n e c = absurd (cc)
  is_past (Past false) n e c = refl

  tell_by : (leaves : Bool) (stage : Stage) (under : Under) (pulse : Pulse) (m : Nums) (ups : List Rise) (downs : List Fall) (c n : ℕ) (cemi : List ℕ) → datagram_in octets ≡ Some (TunnellingRequest c n cemi)
      → OfOpen (IsRightRequest c n x) (channel r) → Goes E (Ajar leaves) stage under pulse m ups downs r present up down waiting now → After (Ajar leaves) stage under m
  tell_by leaves stage under pulse m ups downs c n cemi d right h =
      let o : IsOpen r (seen_at stage under pulse m now) = h.door_is.open_ in
      let l : List Entry = o.first ∷ o.rest in
      let P : ClientChannel → Type 0 = λ z. OfOpen (IsRightRequest c n x) z in
      let is : IsRightRequest c n x 1 l = subst P o.is right in
      let own_is : (own 1 l).number ≡ m.own = ap (λ (s : Seen). s.own.number) o.says in
      let sent_is : (own 1 l).sent ≡ sent_at stage now = ap (λ (s : Seen). s.own.sent) o.says in
      let none : (own 1 l).sent ≡ [] = elim is.one_at_a_time [ inl e ↦ e | inr again ↦ absurd (not_repeat stage (ap (λ z. is_repeat_due z now) (sym sent_is) ∙ again.due)) ] in
      let d1 : datagram_in octets ≡ Some (TunnellingRequest 1 n cemi) = d ∙ ap (λ z. Some (TunnellingRequest z n cemi)) is.in_it in
      let d2 : datagram_in octets ≡ Some (TunnellingRequest 1 m.own cemi) = d1 ∙ ap (λ z. Some (TunnellingRequest 1 z cemi)) (is.numbered ∙ own_is) in
      let Q : ClientChannel → Type 0 = λ z. PutsSo z (deed z x) in
      let free : PutsFree (Open 1 l) cemi = subst (λ z. PutsSo (Open 1 l) z) (puts_deed l n cemi d1 none) (subst Q o.is may.puts) in
      let con : m.confirmed ≡ true = sym (ap (λ (s : Seen). s.confirmed) o.says) ∙ free.place.has_confirmation in
      let past : stage ≡ Past false = is_past stage (con_under under + cons_in waiting) (sym sent_is ∙ none) (sym (ap awaited con) ∙ h.counts) in
      tell_sent leaves stage under pulse m ups downs cemi free.frame d2 free.reads free.request con past h

  beat_by : (leaves : Bool) (stage : Stage) (under : Under) (pulse : Pulse) (m : Nums) (ups : List Rise) (downs : List Fall) (c : ℕ) → datagram_in octets ≡ Some (StateRequest c)
      → OfOpen (IsRightBeat c x) (channel r) → Goes E (Ajar leaves) stage under pulse m ups downs r present up down waiting now → After (Ajar leaves) stage under m
  beat_by leaves stage under pulse m ups downs c d right h =
      let o : IsOpen r (seen_at stage under pulse m now) = h.door_is.open_ in
      let P : ClientChannel → Type 0 = λ z. OfOpen (IsRightBeat c x) z in
      let is : IsRightBeat c x 1 (o.first ∷ o.rest) = subst P o.is right in
      beat_sent leaves stage under pulse m ups downs (d ∙ ap (λ z. Some (StateRequest z)) is.in_it) h (λ l e. let it : IsRightBeat c x 1 l = subst P e right in it.due)

  leave_by : (leaves : Bool) (stage : Stage) (under : Under) (pulse : Pulse) (m : Nums) (ups : List Rise) (downs : List Fall) (c : ℕ) → datagram_in octets ≡ Some (DisconnectRequest c)
      → OwnsChannel c (channel r) → Goes E (Ajar leaves) stage under pulse m ups downs r present up down waiting now → After (Ajar leaves) stage under m
  leave_by leaves stage under pulse m ups downs c d right h = once leaves h where
    once : (leaves : Bool) → Goes E (Ajar leaves) stage under pulse m ups downs r present up down waiting now → After (Ajar leaves) stage under m
    once true g = absurd (g.door_is.asks.1 (may.pace.ends_once (ap (λ p. is_some (disconnect_request_in p)) d) (ap is_open g.door_is.open_.is)))
    once false g =
        let in_it : c ≡ 1 = subst (λ z. OwnsChannel c z) g.door_is.open_.is right in
        leave_sent stage under pulse m ups downs (d ∙ ap (λ z. Some (DisconnectRequest z)) in_it) g

  abbrev AckIs : ℕ → ℕ → ℕ → IpFrame → Type 0
  AckIs c n s (TunnellingAck c2 n2 s2) = (c ≡ c2) × (n ≡ n2) × (s ≡ s2)
  AckIs c n s _ = Unit {0}

  abbrev AckIn : ℕ → ℕ → ℕ → Option IpFrame → Type 0
  AckIn c n s None = ⊥
  AckIn c n s (Some f) = AckIs c n s f

  receipt_by : (leaves : Bool) (stage : Stage) (under : Under) (pulse : Pulse) (m : Nums) (ups : List Rise) (downs : List Fall) (c n s : ℕ) → datagram_in octets ≡ Some (TunnellingAck c n s)
      → Some (TunnellingAck c n s) ≡ owed_at m.put under → Goes E (Ajar leaves) stage under pulse m ups downs r present up down waiting now → After (Ajar leaves) stage under m
  receipt_by leaves stage Free pulse m ups downs c n s d e h = absurd (subst (AckIn c n s) e (refl, refl, refl))
  receipt_by leaves stage (Coming y) pulse m ups downs c n s d e h = absurd (subst (AckIn c n s) e (refl, refl, refl))
  receipt_by leaves stage (Back y) pulse m ups downs c n s d e h = absurd (subst (AckIn c n s) e (refl, refl, refl))
  receipt_by leaves stage (Owed y) pulse m ups downs c n s d e h = receipt_sent leaves stage y pulse m ups downs (d ∙ e) h

  unowed : (under : Under) (o c n s : ℕ) → IsUnseen under → Some (TunnellingAck c n s) ≡ owed_at o under → ⊥
  unowed Free o c n s f e = subst (AckIn c n s) e (refl, refl, refl)
  unowed (Coming y) o c n s f e = subst (AckIn c n s) e (refl, refl, refl)
  unowed (Owed y) o c n s f e = f
  unowed (Back y) o c n s f e = f

  unseen : (under : Under) → IsFree under → IsUnseen under
  unseen Free f = tt
  unseen (Coming y) f = tt
  unseen (Owed y) f = f
  unseen (Back y) f = f

  pub send_kept : (door : Door) (stage : Stage) (under : Under) (pulse : Pulse) (m : Nums) (ups : List Rise) (downs : List Fall) → Goes E door stage under pulse m ups downs r present up down waiting now → After door stage under m
  send_kept door stage under pulse m ups downs h = by_frame (datagram_in octets) refl may.sends door h where
    not_open : (P : ℕ → List Entry → Type 0) → OfOpen P (channel r) → (door : Door) → Goes E door stage under pulse m ups downs r present up down waiting now → ((leaves : Bool) → door ≡ Ajar leaves → ⊥) → ⊥
    not_open P p door h n = shut_not (λ z. OfOpen P z) (λ z. z) (λ since z. z) door stage under pulse m ups downs h p n

    by_frame : (f : Option IpFrame) → datagram_in octets ≡ f → IsRightFrame r x f → (door : Door) → Goes E door stage under pulse m ups downs r present up down waiting now → After door stage under m
    by_frame None d right door h = absurd right
    by_frame (Some ConnectRequest) d right door h = ask_sent door stage under pulse m ups downs d h
    by_frame (Some (ConnectResponse c s t)) d right door h = absurd right
    by_frame (Some (StateResponse c s)) d right door h = absurd right
    by_frame (Some (DisconnectResponse c s)) d right door h = absurd (let a : end_got r ≡ Some c = right.got_just_now in let b : end_got r ≡ None = h.end_is in let e : None ≡ Some c = sym b ∙ a in cc)
    by_frame (Some (StateRequest c)) d right Shut h = absurd (not_open (IsRightBeat c x) right Shut h (λ l e. cc))
    by_frame (Some (StateRequest c)) d right Knocked h = absurd (not_open (IsRightBeat c x) right Knocked h (λ l e. cc))
    by_frame (Some (StateRequest c)) d right Replied h = absurd (not_open (IsRightBeat c x) right Replied h (λ l e. cc))
    by_frame (Some (StateRequest c)) d right (Ajar leaves) h = beat_by leaves stage under pulse m ups downs c d right h
    by_frame (Some (TunnellingRequest c n p)) d right Shut h = absurd (not_open (IsRightRequest c n x) right Shut h (λ l e. cc))
    by_frame (Some (TunnellingRequest c n p)) d right Knocked h = absurd (not_open (IsRightRequest c n x) right Knocked h (λ l e. cc))
    by_frame (Some (TunnellingRequest c n p)) d right Replied h = absurd (not_open (IsRightRequest c n x) right Replied h (λ l e. cc))
    by_frame (Some (TunnellingRequest c n p)) d right (Ajar leaves) h = tell_by leaves stage under pulse m ups downs c n p d right h
    by_frame (Some (DisconnectRequest c)) d right Shut h = absurd (shut_not (OwnsChannel c) (λ z. z) (λ since z. z) Shut stage under pulse m ups downs h right (λ l e. cc))
    by_frame (Some (DisconnectRequest c)) d right Knocked h = absurd (shut_not (OwnsChannel c) (λ z. z) (λ since z. z) Knocked stage under pulse m ups downs h right (λ l e. cc))
    by_frame (Some (DisconnectRequest c)) d right Replied h = absurd (shut_not (OwnsChannel c) (λ z. z) (λ since z. z) Replied stage under pulse m ups downs h right (λ l e. cc))
    by_frame (Some (DisconnectRequest c)) d right (Ajar leaves) h = leave_by leaves stage under pulse m ups downs c d right h
    by_frame (Some (TunnellingAck c n s)) d right Shut h = absurd (unowed under m.put c n s (unseen under h.door_is.3) (sym right ∙ h.owed_is))
    by_frame (Some (TunnellingAck c n s)) d right Knocked h = absurd (unowed under m.put c n s (unseen under h.door_is.2) (sym right ∙ h.owed_is))
    by_frame (Some (TunnellingAck c n s)) d right Replied h = absurd (unowed under m.put c n s h.door_is.2 (sym right ∙ h.owed_is))
    by_frame (Some (TunnellingAck c n s)) d right (Ajar leaves) h = receipt_by leaves stage under pulse m ups downs c n s d (sym right ∙ h.owed_is) h
