-- What the client gets.
use Rattle.std.proofs.Common.{◌≡◌, ℕ, suc, ◌+◌, ◌-◌, ◌⊎◌, List, [], ◌∷◌, ◌++◌, length, Bool, true, false, cond, not, ◌&&◌, ◌||◌, Option, Some, None, refl, sym, ◌∙◌, ap, subst, arith, inl, inr, le_of_eq}
use Rattle.std.specs.Prelude.{slice_get, take, nat_le, ◌==◌}
use Rattle.std.proofs.lemmas.Bool.{eq-eqb}
use Rattle.knx_model.specs.declared.address.IndAddr.{IndAddr}
use Rattle.knx_model.specs.declared.frames.cemi.Ldata.{Ldata}
use Rattle.knx_model.specs.declared.frames.ip.IpFrame.{IpFrame}
use Rattle.knx_model.specs.declared.frames.ip.IpFrame.TheVariants.{ConnectResponse, StateResponse, TunnellingRequest, TunnellingAck}
use Rattle.knx_model.specs.Cemi.{Written as cemi_octets}
use Rattle.knx_model.specs.Connection.{has_passed}
use Rattle.line_model.specs.Reading.{ldata_in, request_in, disconnect_request_in}
use Rattle.line_model.specs.Network.{Sent, changed_at, once_more}
use Rattle.line_model.specs.Gateway.{next_number}
use Rattle.line_model.specs.Tunnel.{Tunnel, Down as Arrives, after, Commissions}
use Rattle.line_model.specs.Record.{Entry, Item, Got, entry, got, got_in}
use Rattle.line_model.specs.ChannelLost.{expected, last_frame, is_confirmation_of, is_given_up, is_unconfirmed, is_dead, is_lost}
use Rattle.line_model.specs.ClientView.{ClientChannel, Sought, Open, Deed, Takes, Loses, Nothing, own_address, is_stray, as_counted, counts, deed, deed_in, after_entry, channel}
use Rattle.line_model.specs.Renews.{owed, owed_in, calls_for, IsOwed}
use Rattle.line_model.specs.Deliveries.{is_under_way, next_down}
use Rattle.calm_law.proofs.Ways.{Way, Took, taken, none_left}
use Rattle.calm_law.proofs.Tokens.{Rise, Fall, Made, Ack, Note, Alive, Left, Downs, fallen, read_down, made_of, ack_of, note_of, alive_of, left_of, same_last, only_last, not_last, downs_none}
use Rattle.calm_law.proofs.Seen.{Seen, IsOpen, Up, seen, seen_after, lapsed, ended, not_lost, up_got, and_no, neither}
use Rattle.calm_law.proofs.Owning.{own_counts, same_con}
use Rattle.calm_law.proofs.State.{Door, Shut, Knocked, Replied, Ajar, Stage, Rising, Riding, Past, Under, Free, Coming, Owed, Back, Pulse, Calm, Beating, Echo, Nums, acks_at, notes_at, alives_at, ack_if, makers_at, owed_at, sent_at, taken_at, beating_at, seen_at, is_con_frame, one_if, awaited, flies, cons_in, Paced, flies_of, queue_of, channel_at, the_channel, Steps, Strays, Early, IsFree, IsUnseen, Opens, Goes, Going, going, tunnel_at}
use Rattle.calm_law.proofs.Sends.{MayDo, not_yet}
use Rattle.calm_law.proofs.Rises.{comes, downs_short, one_maker}

-- ---- a frame of another kind, or of this one

module _ {mades acks alives lefts : List ℕ} {notes : List (ℕ × List ℕ)} (before : List Fall) where
  made_gone : (t : Option IndAddr) → mades ≡ 0 ∷ [] → Downs mades acks notes alives lefts (before ++ Made t ∷ []) → Downs [] acks notes alives lefts before
  made_gone t e h =
      record {
        mades_are = (only_last made_of before (Made t) 0 0 refl (h.mades_are ∙ e)).0;
        acks_are = same_last ack_of before (Made t) refl ∙ h.acks_are;
        notes_are = same_last note_of before (Made t) refl ∙ h.notes_are;
        alives_are = same_last alive_of before (Made t) refl ∙ h.alives_are;
        lefts_are = same_last left_of before (Made t) refl ∙ h.lefts_are;
      }

  ack_gone : (n m : ℕ) → acks ≡ m ∷ [] → Downs mades acks notes alives lefts (before ++ Ack n ∷ []) → Downs mades [] notes alives lefts before
  ack_gone n m e h =
      record {
        mades_are = same_last made_of before (Ack n) refl ∙ h.mades_are;
        acks_are = (only_last ack_of before (Ack n) n m refl (h.acks_are ∙ e)).0;
        notes_are = same_last note_of before (Ack n) refl ∙ h.notes_are;
        alives_are = same_last alive_of before (Ack n) refl ∙ h.alives_are;
        lefts_are = same_last left_of before (Ack n) refl ∙ h.lefts_are;
      }

  note_gone : (n : ℕ) (cemi : List ℕ) (y : ℕ × List ℕ) → notes ≡ y ∷ [] → Downs mades acks notes alives lefts (before ++ Note n cemi ∷ []) → Downs mades acks [] alives lefts before
  note_gone n cemi y e h =
      record {
        mades_are = same_last made_of before (Note n cemi) refl ∙ h.mades_are;
        acks_are = same_last ack_of before (Note n cemi) refl ∙ h.acks_are;
        notes_are = (only_last note_of before (Note n cemi) (n, cemi) y refl (h.notes_are ∙ e)).0;
        alives_are = same_last alive_of before (Note n cemi) refl ∙ h.alives_are;
        lefts_are = same_last left_of before (Note n cemi) refl ∙ h.lefts_are;
      }

  alive_gone : alives ≡ 0 ∷ [] → Downs mades acks notes alives lefts (before ++ Alive ∷ []) → Downs mades acks notes [] lefts before
  alive_gone e h =
      record {
        mades_are = same_last made_of before Alive refl ∙ h.mades_are;
        acks_are = same_last ack_of before Alive refl ∙ h.acks_are;
        notes_are = same_last note_of before Alive refl ∙ h.notes_are;
        alives_are = (only_last alive_of before Alive 0 0 refl (h.alives_are ∙ e)).0;
        lefts_are = same_last left_of before Alive refl ∙ h.lefts_are;
      }

-- the last of a list is one
pub last_same : (l k : List Fall) (x y : Fall) → l ++ x ∷ [] ≡ k ++ y ∷ [] → x ≡ y
last_same [] [] x y e = cc
last_same [] (b ∷ []) x y e = absurd (let g : [] ≡ y ∷ [] = cc in cc)
last_same [] (b ∷ c ∷ k) x y e = absurd (let g : [] ≡ c ∷ (k ++ y ∷ []) = cc in cc)
last_same (a ∷ []) [] x y e = absurd (let g : x ∷ [] ≡ [] = cc in cc)
last_same (a ∷ c ∷ l) [] x y e = absurd (let g : c ∷ (l ++ x ∷ []) ≡ [] = cc in cc)
last_same (a ∷ l) (b ∷ k) x y e = last_same l k x y (let g : l ++ x ∷ [] ≡ k ++ y ∷ [] = cc in g)

-- ---- no wait has passed since now

pub not_passed : (wait now : ℕ) → has_passed (suc wait) now now ≡ false
not_passed wait now = by_test (nat_le (suc wait) (now - now)) refl where
  by_test : (b : Bool) → nat_le (suc wait) (now - now) ≡ b → nat_le (suc wait) (now - now) ≡ false
  by_test true e = absurd (not_yet wait now e)
  by_test false e = e

not_given_up : (stage : Stage) (now : ℕ) → is_given_up (sent_at stage now) now ≡ false
not_given_up (Rising cemi f) now = refl
not_given_up (Riding f true) now = refl
not_given_up (Riding f false) now = refl
not_given_up (Past true) now = refl
not_given_up (Past false) now = refl

not_unconfirmed : (acked : Option ℕ) (confirmed : Bool) (now : ℕ) → (confirmed ≡ true) ⊎ ((acked ≡ None) ⊎ (acked ≡ Some now)) → is_unconfirmed acked confirmed now ≡ false
not_unconfirmed None confirmed now h = refl
not_unconfirmed (Some since) true now h = refl
not_unconfirmed (Some since) false now (inl e) = absurd (cc)
not_unconfirmed (Some since) false now (inr (inl e)) = absurd (cc)
not_unconfirmed (Some since) false now (inr (inr e)) = let at : since ≡ now = cc in ap (λ z. has_passed 3000 z now) at ∙ not_passed 2999 now

not_dead : (pulse : Pulse) (now : ℕ) → is_dead (beating_at pulse now) now ≡ false
not_dead Calm now = refl
not_dead Beating now = refl
not_dead Echo now = refl

pub not_lapsed : (stage : Stage) (under : Under) (pulse : Pulse) (m : Nums) (now : ℕ) → (m.confirmed ≡ true) ⊎ ((m.acked ≡ None) ⊎ (m.acked ≡ Some now)) → lapsed (seen_at stage under pulse m now) now ≡ false
not_lapsed stage under pulse m now h =
    neither (is_given_up (sent_at stage now) now || is_unconfirmed m.acked m.confirmed now) (is_dead (beating_at pulse now) now)
    (neither (is_given_up (sent_at stage now) now) (is_unconfirmed m.acked m.confirmed now) (not_given_up stage now) (not_unconfirmed m.acked m.confirmed now h)) (not_dead pulse now)

-- ---- the record after it

pub paced_got : (r : List Entry) (octets : List ℕ) (now : ℕ) → Paced r now → Paced (entry (Got octets) now ∷ r) now
paced_got r octets now p = record { newest = refl; last = refl; before = (let h = p.last in omega (arith, h)) }

-- what the channel was and is
owed_is : (r : List Entry) (x : Entry) (l m : List Entry) → channel r ≡ Open 1 l → channel (x ∷ r) ≡ Open 1 m → owed (x ∷ r) ≡ calls_for 1 l (request_in (got_in x.what))
owed_is r x l m a b = ap (λ z. owed_in z x (channel (x ∷ r))) a ∙ ap (λ z. owed_in (Open 1 l) x z) b

nothing_owed : (r : List Entry) (s s' : Seen) (octets : List ℕ) (now : ℕ) (f : IpFrame) → IsOpen r s → IsOpen (entry (Got (take 512 octets)) now ∷ r) s' → read_down octets ≡ Some f → request_in (Some f) ≡ None → owed (entry (Got (take 512 octets)) now ∷ r) ≡ None
nothing_owed r s s' octets now f a b d none =
    owed_is r (entry (Got (take 512 octets)) now) (a.first ∷ a.rest) (b.first ∷ b.rest) a.is b.is ∙ ap (λ p. calls_for 1 (a.first ∷ a.rest) (request_in p)) d ∙ ap (λ p. calls_for 1 (a.first ∷ a.rest) p) none

-- ---- each frame

module _ (r : List Entry) (octets : List ℕ) (present : ℕ) (up down down' : List Sent) (waiting : List Ldata) (me : IndAddr) (acted puts : List (ℕ × List ℕ)) (now : ℕ) (may : MayDo r (entry (Got (take 512 octets)) now)) (E F : Option Ldata → List Ldata → Type 0) (to : Steps E F (deed (channel r) (entry (Got (take 512 octets)) now))) where
  abbrev x : Entry
  x = entry (Got (take 512 octets)) now

  abbrev Here : Door → Stage → Under → Pulse → Nums → List Rise → List Fall → Type 0
  Here door stage under pulse m ups downs = Goes E door stage under pulse m ups downs r present up down waiting now

  abbrev After : Door → Stage → Under → Nums → Type 0
  After door stage under m = Going F (x ∷ r) (tunnel_at door stage under m present up down' me waiting acted puts now)

  abbrev LeftWay : List Fall → Type 0
  LeftWay before = Way Fall read_down fallen before down'

  -- an acknowledgement that is owed comes before anything is got
  not_owing : (o : ℕ) (under : Under) → owed r ≡ owed_at o under → owed_at o under ≡ None
  not_owing o Free e = refl
  not_owing o (Coming y) e = refl
  not_owing o (Owed y) e = absurd (let a : IsOwed (Some (TunnellingAck 1 o 0)) x = subst (λ w. IsOwed w x) e may.acknowledges in cc)
  not_owing o (Back y) e = refl

  -- before the channel is up its response comes first
  replied_first : (downs before : List Fall) (f : Fall) → downs ≡ before ++ f ∷ [] → Opens downs → (t : Option IndAddr) × (f ≡ Made t)
  replied_first downs before f e o = (o.tunnel, last_same before o.younger f (Made o.tunnel) (sym e ∙ o.is))

  -- ---- what the entry is to the channel

  calmly : deed (channel r) x ≡ Nothing → (fly : Option Ldata) (q : List Ldata) → E fly q → F fly q
  calmly e fly q h = let s : Steps E F Nothing = subst (λ z. Steps E F z) e to in s fly q h

  sought_deed : (since : ℕ) → deed (Sought since) x ≡ Nothing
  unfolding deed
  sought_deed since = refl

  kept_deed : (b : Bool) (what : Deed) → b ≡ false → cond b Loses what ≡ what
  kept_deed b what h = rw h refl

  plain_got : (l : List Entry) (f : IpFrame) → is_lost 1 l x ≡ false → read_down octets ≡ Some f → request_in (Some f) ≡ None → deed (Open 1 l) x ≡ Nothing
  unfolding deed
  plain_got l f lost d e = kept_deed (is_lost 1 l x) (as_counted (own_address l) (last_frame 1 l) (deed_in 1 l x)) lost ∙ (let g : deed_in 1 l x ≡ Nothing = rw d (rw e refl) in ap (as_counted (own_address l) (last_frame 1 l)) g)

  takes_got : (l : List Entry) (o : ℕ) (cemi : List ℕ) → is_lost 1 l x ≡ false → read_down octets ≡ Some (TunnellingRequest 1 o cemi) → expected 1 l ≡ o → counts (own_address l) (last_frame 1 l) (ldata_in cemi) ≡ true → deed (Open 1 l) x ≡ Takes cemi
  unfolding deed
  takes_got l o cemi lost d e counted =
      kept_deed (is_lost 1 l x) (as_counted (own_address l) (last_frame 1 l) (deed_in 1 l x)) lost
      ∙ (let g : deed_in 1 l x ≡ Takes cemi = rw d (rw (e, eq-eqb o o refl) refl) in ap (as_counted (own_address l) (last_frame 1 l)) g) ∙ ap (λ b. cond {A = Deed} b (Takes cemi) Nothing) counted

  lost_not : (leaves : Bool) (stage : Stage) (under : Under) (pulse : Pulse) (m : Nums) (ups : List Rise) (downs : List Fall) (f : IpFrame) → (h : Here (Ajar leaves) stage under pulse m ups downs) → read_down octets ≡ Some f
      → ((left : Bool) → ended (seen_at stage under pulse m now) left now (Some f) ≡ false) → is_lost 1 (h.door_is.open_.first ∷ h.door_is.open_.rest) x ≡ false
  lost_not leaves stage under pulse m ups downs f h d no_end = not_lost r (seen_at stage under pulse m now) octets now f d (not_lapsed stage under pulse m now h.acked) no_end h.door_is.open_

  nothing_got : (leaves : Bool) (stage : Stage) (under : Under) (pulse : Pulse) (m : Nums) (ups : List Rise) (downs : List Fall) (f : IpFrame) → Here (Ajar leaves) stage under pulse m ups downs → read_down octets ≡ Some f → request_in (Some f) ≡ None
      → ((left : Bool) → ended (seen_at stage under pulse m now) left now (Some f) ≡ false) → deed (channel r) x ≡ Nothing
  nothing_got leaves stage under pulse m ups downs f h d e no_end =
      ap (λ c. deed c x) h.door_is.open_.is ∙ plain_got (h.door_is.open_.first ∷ h.door_is.open_.rest) f (lost_not leaves stage under pulse m ups downs f h d no_end) d e

  -- the connect response
  sought_then : (c : ClientChannel) (t : Option IndAddr) → c ≡ Sought now → read_down octets ≡ Some (ConnectResponse 1 0 t) → after_entry c x ≡ Open 1 (x ∷ [])
  unfolding after_entry
  sought_then c t e d = rw (e, not_passed 9999 now, d) refl

  abbrev seen_one : Option IpFrame → Seen
  seen_one g = seen_after (record { own = record { number = 0; sent = [] }; acked = None; confirmed = true; last = None; expected = 0; beats = []; beat = now }) now None g

  seen_first : (t : Option IndAddr) → read_down octets ≡ Some (ConnectResponse 1 0 t) → seen (x ∷ []) ≡ record { own = record { number = 0; sent = [] }; acked = None; confirmed = true; last = None; expected = 0; beats = []; beat = now }
  seen_first t d = ap seen_one d

  unseen_taken : (o : ℕ) (under : Under) → IsUnseen under → taken_at o under ≡ o
  unseen_taken o Free h = refl
  unseen_taken o (Coming y) h = refl
  unseen_taken o (Owed y) h = absurd h
  unseen_taken o (Back y) h = absurd h

  made_got : (door : Door) (stage : Stage) (under : Under) (pulse : Pulse) (m : Nums) (ups : List Rise) (t : Option IndAddr) (before : List Fall) → Here door stage under pulse m ups (before ++ Made t ∷ []) → LeftWay before
      → read_down octets ≡ Some (ConnectResponse 1 0 t) → After door stage under m
  made_got Shut stage under pulse m ups t before h way d = absurd (not_last made_of before (Made t) 0 refl h.downs_are.mades_are)
  made_got Knocked stage under pulse m ups t before h way d = absurd (not_last made_of before (Made t) 0 refl h.downs_are.mades_are)
  made_got (Ajar leaves) stage under pulse m ups t before h way d = absurd (not_last made_of before (Made t) 0 refl h.downs_are.mades_are)
  made_got Replied (Rising cemi f) under pulse m ups t before h way d = absurd (let e : Rising cemi f ≡ Past false = h.door_is.1.stage_is in cc)
  made_got Replied (Riding f b) under pulse m ups t before h way d = absurd (let e : Riding f b ≡ Past false = h.door_is.1.stage_is in cc)
  made_got Replied (Past true) under pulse m ups t before h way d = absurd (let e : ack_if 0 true ≡ ack_if 0 false = ap (acks_at 0) h.door_is.1.stage_is in cc)
  made_got Replied (Past false) under Beating m ups t before h way d = absurd (let e : Beating ≡ Calm = h.door_is.1.pulse_is in cc)
  made_got Replied (Past false) under Echo m ups t before h way d = absurd (let e : Echo ≡ Calm = h.door_is.1.pulse_is in cc)
  made_got Replied (Past false) under Calm m ups t before h way d =
      let e : Early (Past false) Calm m now = h.door_is.1 in
      let is : channel (x ∷ r) ≡ Open 1 (x ∷ []) = sought_then (channel r) t h.door_is.0.is d in
      let taken_is : taken_at m.put under ≡ 0 = unseen_taken m.put under h.door_is.2 ∙ e.put_is in
      let says : seen (x ∷ []) ≡ seen_at (Past false) under Calm (record m { beat = now }) now = seen_first t d ∙ sym (normal m.own (taken_at m.put under) m.acked m.confirmed m.last e.own_is taken_is e.acked_is e.confirmed_is e.last_is) in
      let u : Up false (x ∷ r) present (seen_at (Past false) under Calm (record m { beat = now }) now) = record { open_ = record { first = x; rest = []; is = is; says = says }; asks = tt; renewed = h.door_is.0.renewed; at = h.door_is.0.at } in
      let n : m.heard ≡ now = e.heard_is in
      going F (Ajar false) (Past false) under Calm (record m { beat = now }) ups before (x ∷ r) present up down' me waiting acted puts now
      (record {
        rising = h.rising;
        falling = way;
        ups_are = h.ups_are;
        downs_are = made_gone before t refl h.downs_are;
        door_is = u;
        owed_is = ap (λ z. owed_in z x (channel (x ∷ r))) h.door_is.0.is ∙ sym (not_owing m.put under h.owed_is);
        end_is = ap disconnect_request_in d;
        reads = tt;
        counts = h.counts;
        own = h.own;
        acked = h.acked;
        fits = h.fits;
        heard = h.heard;
        since = h.since;
        beat = le_of_eq (sym n);
        pace = paced_got r (take 512 octets) now h.pace;
        rides = calmly (ap (λ c. deed c x) h.door_is.0.is ∙ sought_deed now) None (queue_of under waiting) h.rides;
      })
    where
      normal : (own taken : ℕ) (acked : Option ℕ) (confirmed : Bool) (last : Option Ldata) → own ≡ 0 → taken ≡ 0 → acked ≡ None → confirmed ≡ true → last ≡ None
          → ◌≡◌ {A = Seen} (record { own = record { number = own; sent = [] }; acked = acked; confirmed = confirmed; last = last; expected = taken; beats = []; beat = now })
          (record { own = record { number = 0; sent = [] }; acked = None; confirmed = true; last = None; expected = 0; beats = []; beat = now })
      normal own taken acked confirmed last a b c e f = rw (a, b, c, e, f) refl

  -- ---- in the open channel

  -- it stays open
  pub still_up : (leaves : Bool) (stage : Stage) (under : Under) (pulse : Pulse) (m : Nums) (ups : List Rise) (downs : List Fall) (f : IpFrame) (s : Seen) → Here (Ajar leaves) stage under pulse m ups downs → read_down octets ≡ Some f
      → ((left : Bool) → ended (seen_at stage under pulse m now) left now (Some f) ≡ false) → seen_after (seen_at stage under pulse m now) now None (Some f) ≡ s → Up leaves (x ∷ r) present s
  still_up leaves stage under pulse m ups downs f s h d no_end e =
      let P : Seen → Type 0 = λ z. Up leaves (x ∷ r) present z in
      subst P e (up_got leaves r present (seen_at stage under pulse m now) octets now f d (not_lapsed stage under pulse m now h.acked) no_end h.door_is)

  -- an acknowledgement
  ack_got : (door : Door) (stage : Stage) (under : Under) (pulse : Pulse) (m : Nums) (ups : List Rise) (n : ℕ) (before : List Fall) → Here door stage under pulse m ups (before ++ Ack n ∷ []) → LeftWay before
      → read_down octets ≡ Some (TunnellingAck 1 n 0) → After door stage under m
  ack_got door (Rising cemi f) under pulse m ups n before h way d = absurd (not_last ack_of before (Ack n) n refl h.downs_are.acks_are)
  ack_got door (Riding f false) under pulse m ups n before h way d = absurd (not_last ack_of before (Ack n) n refl h.downs_are.acks_are)
  ack_got door (Past false) under pulse m ups n before h way d = absurd (not_last ack_of before (Ack n) n refl h.downs_are.acks_are)
  ack_got Shut (Riding f true) under pulse m ups n before h way d = absurd (let e : Riding f true ≡ Past false = h.door_is.2.stage_is in cc)
  ack_got Knocked (Riding f true) under pulse m ups n before h way d = absurd (let e : Riding f true ≡ Past false = h.door_is.1.stage_is in cc)
  ack_got Replied (Riding f true) under pulse m ups n before h way d = absurd (let e : Riding f true ≡ Past false = h.door_is.1.stage_is in cc)
  ack_got Shut (Past true) under pulse m ups n before h way d = absurd (let e : ack_if 0 true ≡ ack_if 0 false = ap (acks_at 0) h.door_is.2.stage_is in cc)
  ack_got Knocked (Past true) under pulse m ups n before h way d = absurd (let e : ack_if 0 true ≡ ack_if 0 false = ap (acks_at 0) h.door_is.1.stage_is in cc)
  ack_got Replied (Past true) under pulse m ups n before h way d = absurd (let e : ack_if 0 true ≡ ack_if 0 false = ap (acks_at 0) h.door_is.1.stage_is in cc)
  ack_got (Ajar leaves) (Riding f true) under pulse m ups n before h way d =
      let n_is : n ≡ m.own = (only_last ack_of before (Ack n) n m.own refl h.downs_are.acks_are).1 in
      let next : Nums = record m { own = next_number m.own; acked = Some now } in
      let u : Up leaves (x ∷ r) present (seen_at (Riding f false) under pulse next now)
      = still_up leaves (Riding f true) under pulse m ups (before ++ Ack n ∷ []) (TunnellingAck 1 n 0) (seen_at (Riding f false) under pulse next now) h d (λ left. and_no left) (rw (n_is, eq-eqb m.own m.own refl) refl) in
      going F (Ajar leaves) (Riding f false) under pulse next ups before (x ∷ r) present up down' me waiting acted puts now
      (record {
        rising = h.rising;
        falling = way;
        ups_are = h.ups_are;
        downs_are = ack_gone before n m.own refl h.downs_are;
        door_is = u;
        owed_is = nothing_owed r (seen_at (Riding f true) under pulse m now) (seen_at (Riding f false) under pulse next now) octets now (TunnellingAck 1 n 0) h.door_is.open_ u.open_ d refl ∙ sym (not_owing m.put under h.owed_is);
        end_is = ap disconnect_request_in d;
        reads = h.reads;
        counts = h.counts;
        own = h.own;
        acked = inr (inr refl);
        fits = h.fits;
        heard = h.heard;
        since = h.since;
        beat = h.beat;
        pace = paced_got r (take 512 octets) now h.pace;
        rides = calmly (nothing_got leaves (Riding f true) under pulse m ups (before ++ Ack n ∷ []) (TunnellingAck 1 n 0) h d refl (λ left. and_no left)) (Some f) (queue_of under waiting) h.rides;
      })
  ack_got (Ajar leaves) (Past true) under pulse m ups n before h way d =
      let n_is : n ≡ m.own = (only_last ack_of before (Ack n) n m.own refl h.downs_are.acks_are).1 in
      let next : Nums = record m { own = next_number m.own; acked = Some now } in
      let u : Up leaves (x ∷ r) present (seen_at (Past false) under pulse next now)
      = still_up leaves (Past true) under pulse m ups (before ++ Ack n ∷ []) (TunnellingAck 1 n 0) (seen_at (Past false) under pulse next now) h d (λ left. and_no left) (rw (n_is, eq-eqb m.own m.own refl) refl) in
      going F (Ajar leaves) (Past false) under pulse next ups before (x ∷ r) present up down' me waiting acted puts now
      (record {
        rising = h.rising;
        falling = way;
        ups_are = h.ups_are;
        downs_are = ack_gone before n m.own refl h.downs_are;
        door_is = u;
        owed_is = nothing_owed r (seen_at (Past true) under pulse m now) (seen_at (Past false) under pulse next now) octets now (TunnellingAck 1 n 0) h.door_is.open_ u.open_ d refl ∙ sym (not_owing m.put under h.owed_is);
        end_is = ap disconnect_request_in d;
        reads = h.reads;
        counts = h.counts;
        own = h.own;
        acked = inr (inr refl);
        fits = h.fits;
        heard = h.heard;
        since = h.since;
        beat = h.beat;
        pace = paced_got r (take 512 octets) now h.pace;
        rides = calmly (nothing_got leaves (Past true) under pulse m ups (before ++ Ack n ∷ []) (TunnellingAck 1 n 0) h d refl (λ left. and_no left)) None (queue_of under waiting) h.rides;
      })

  -- the answer to a heartbeat
  alive_got : (door : Door) (stage : Stage) (under : Under) (pulse : Pulse) (m : Nums) (ups : List Rise) (before : List Fall) → Here door stage under pulse m ups (before ++ Alive ∷ []) → LeftWay before
      → read_down octets ≡ Some (StateResponse 1 0) → After door stage under m
  alive_got door stage under Calm m ups before h way d = absurd (not_last alive_of before Alive 0 refl h.downs_are.alives_are)
  alive_got door stage under Beating m ups before h way d = absurd (not_last alive_of before Alive 0 refl h.downs_are.alives_are)
  alive_got Shut stage under Echo m ups before h way d = absurd (let e : Echo ≡ Calm = h.door_is.2.pulse_is in cc)
  alive_got Knocked stage under Echo m ups before h way d = absurd (let e : Echo ≡ Calm = h.door_is.1.pulse_is in cc)
  alive_got Replied stage under Echo m ups before h way d = absurd (let e : Echo ≡ Calm = h.door_is.1.pulse_is in cc)
  alive_got (Ajar leaves) stage under Echo m ups before h way d =
      let u : Up leaves (x ∷ r) present (seen_at stage under Calm m now)
      = still_up leaves stage under Echo m ups (before ++ Alive ∷ []) (StateResponse 1 0) (seen_at stage under Calm m now) h d (λ left. no_end left (not (has_passed 10000 now now))) (rw (not_passed 9999 now) refl) in
      going F (Ajar leaves) stage under Calm m ups before (x ∷ r) present up down' me waiting acted puts now
      (record {
        rising = h.rising;
        falling = way;
        ups_are = h.ups_are;
        downs_are = alive_gone before refl h.downs_are;
        door_is = u;
        owed_is = nothing_owed r (seen_at stage under Echo m now) (seen_at stage under Calm m now) octets now (StateResponse 1 0) h.door_is.open_ u.open_ d refl ∙ sym (not_owing m.put under h.owed_is);
        end_is = ap disconnect_request_in d;
        reads = h.reads;
        counts = h.counts;
        own = h.own;
        acked = h.acked;
        fits = h.fits;
        heard = h.heard;
        since = h.since;
        beat = h.beat.1;
        pace = paced_got r (take 512 octets) now h.pace;
        rides = calmly (nothing_got leaves stage under Echo m ups (before ++ Alive ∷ []) (StateResponse 1 0) h d refl (λ left. no_end left (not (has_passed 10000 now now)))) (flies_of stage) (queue_of under waiting) h.rides;
      })
    where
      no_end : (left b : Bool) → ((b && false) || (left && false)) ≡ false
      no_end left true = and_no left
      no_end left false = and_no left

  -- a request
  abbrev or_con : Bool → Bool → Bool
  or_con con confirmed = cond con true confirmed

  con_counts : (con confirmed : Bool) (f w : ℕ) → awaited confirmed ≡ f + (one_if con + w) → awaited (or_con con confirmed) ≡ f + (0 + w)
  con_counts true true f w e = let c : 0 ≡ f + (1 + w) = e in omega (arith, c)
  con_counts true false f w e = let c : 1 ≡ f + (1 + w) = e in omega (arith, c)
  con_counts false confirmed f w e = let c : awaited confirmed ≡ f + (0 + w) = e in c

  con_acked : (con confirmed : Bool) (acked : Option ℕ) → (confirmed ≡ true) ⊎ ((acked ≡ None) ⊎ (acked ≡ Some now)) → (or_con con confirmed ≡ true) ⊎ ((acked ≡ None) ⊎ (acked ≡ Some now))
  con_acked true confirmed acked h = inl refl
  con_acked false confirmed acked h = h

  note_got : (door : Door) (stage : Stage) (under : Under) (pulse : Pulse) (m : Nums) (ups : List Rise) (n : ℕ) (cemi : List ℕ) (before : List Fall) → Here door stage under pulse m ups (before ++ Note n cemi ∷ []) → LeftWay before
      → read_down octets ≡ Some (TunnellingRequest 1 n cemi) → Strays E F (channel r) (channel_at door (the_channel stage under m now)) → After door stage under m
  note_got door stage Free pulse m ups n cemi before h way d strays = absurd (not_last note_of before (Note n cemi) (n, cemi) refl h.downs_are.notes_are)
  note_got door stage (Owed y) pulse m ups n cemi before h way d strays = absurd (not_last note_of before (Note n cemi) (n, cemi) refl h.downs_are.notes_are)
  note_got door stage (Back y) pulse m ups n cemi before h way d strays = absurd (not_last note_of before (Note n cemi) (n, cemi) refl h.downs_are.notes_are)
  note_got Shut stage (Coming y) pulse m ups n cemi before h way d strays = absurd h.door_is.3
  note_got Knocked stage (Coming y) pulse m ups n cemi before h way d strays = absurd h.door_is.2
  note_got Replied stage (Coming y) pulse m ups n cemi before h way d strays =
      let first = replied_first (before ++ Note n cemi ∷ []) before (Note n cemi) refl h.door_is.3 in
      absurd (let e : made_of (Note n cemi) ≡ made_of (Made first.0) = ap made_of first.1 in cc)
  note_got (Ajar leaves) stage (Coming y) pulse m ups n cemi before h way d strays =
      let same : ◌≡◌ {A = ℕ × List ℕ} (n, cemi) (m.put, cemi_octets y) = (only_last note_of before (Note n cemi) (n, cemi) (m.put, cemi_octets y) refl h.downs_are.notes_are).1 in
      let n_is : n ≡ m.put = ap (λ z. z.0) same in
      let cemi_is : cemi ≡ cemi_octets y = ap (λ z. z.1) same in
      let d2 : read_down octets ≡ Some (TunnellingRequest 1 m.put (cemi_octets y)) = d ∙ ap (λ z. Some (TunnellingRequest 1 z cemi)) n_is ∙ ap (λ z. Some (TunnellingRequest 1 m.put z)) cemi_is in
      let next : Nums = record m { confirmed = or_con (is_con_frame y) m.confirmed } in
      let u : Up leaves (x ∷ r) present (seen_at stage (Owed y) pulse next now)
      = still_up leaves stage (Coming y) pulse m ups (before ++ Note n cemi ∷ []) (TunnellingRequest 1 m.put (cemi_octets y)) (seen_at stage (Owed y) pulse next now) h d2 (λ left. and_no left) (rw (eq-eqb m.put m.put refl, same_con m.last y h.own.1.0) refl) in
      let l : List Entry = h.door_is.open_.first ∷ h.door_is.open_.rest in
      let exp : expected 1 l ≡ m.put = ap (λ (s : Seen). s.expected) h.door_is.open_.says in
      going F (Ajar leaves) stage (Owed y) pulse next ups before (x ∷ r) present up down' me waiting acted puts now
      (record {
        rising = h.rising;
        falling = way;
        ups_are = h.ups_are;
        downs_are = note_gone before n cemi (m.put, cemi_octets y) refl h.downs_are;
        door_is = u;
        owed_is = owed_is r x l (u.open_.first ∷ u.open_.rest) h.door_is.open_.is u.open_.is ∙ ap (λ p. calls_for 1 l (request_in p)) d2 ∙ called l exp;
        end_is = ap disconnect_request_in d2;
        reads = h.reads;
        counts = con_counts (is_con_frame y) m.confirmed (flies stage) (cons_in waiting) h.counts;
        own = (h.own.0, h.own.1.1);
        acked = con_acked (is_con_frame y) m.confirmed m.acked h.acked;
        fits = h.fits;
        heard = h.heard;
        since = h.since;
        beat = h.beat;
        pace = paced_got r (take 512 octets) now h.pace;
        rides = by_stray l (is_stray (own_address l) (ldata_in (cemi_octets y))) refl h.door_is.open_.is (lost_not leaves stage (Coming y) pulse m ups (before ++ Note n cemi ∷ []) (TunnellingRequest 1 m.put (cemi_octets y)) h d2 (λ left. and_no left)) d2 exp
            (ap (λ (z : Seen). not (is_con_frame y) || is_confirmation_of z.last (ldata_in (cemi_octets y))) h.door_is.open_.says ∙ own_counts m.last y h.own.1.0);
      })
    where
      by_stray : (l : List Entry) (b : Bool) → is_stray (own_address l) (ldata_in (cemi_octets y)) ≡ b → channel r ≡ Open 1 l → is_lost 1 l x ≡ false → read_down octets ≡ Some (TunnellingRequest 1 m.put (cemi_octets y)) → expected 1 l ≡ m.put
          → (not (is_con_frame y) || is_confirmation_of (last_frame 1 l) (ldata_in (cemi_octets y))) ≡ true → F (flies_of stage) waiting
      by_stray l true stray at lost d2 exp own = strays l y at refl stray (flies_of stage) waiting h.rides
      by_stray l false stray at lost d2 exp own =
          let counted : counts (own_address l) (last_frame 1 l) (ldata_in (cemi_octets y)) ≡ true = ap (λ b. not b && (not (is_con_frame y) || is_confirmation_of (last_frame 1 l) (ldata_in (cemi_octets y)))) stray ∙ own in
          let s : Steps E F (Takes (cemi_octets y)) = subst (λ z. Steps E F z) (ap (λ c. deed c x) at ∙ takes_got l m.put (cemi_octets y) lost d2 exp counted) to in
          s (flies_of stage) y waiting refl h.rides

      called : (l : List Entry) → expected 1 l ≡ m.put → calls_for 1 l (request_in (Some (TunnellingRequest 1 m.put (cemi_octets y)))) ≡ Some (TunnellingAck 1 m.put 0)
      called l e = rw (e, eq-eqb m.put m.put refl) refl

  pub got_kept : (door : Door) (stage : Stage) (under : Under) (pulse : Pulse) (m : Nums) (ups : List Rise) (before : List Fall) (last : Fall) → Here door stage under pulse m ups (before ++ last ∷ []) → LeftWay before
      → read_down octets ≡ Some (fallen last) → Strays E F (channel r) (channel_at door (the_channel stage under m now)) → After door stage under m
  got_kept door stage under pulse m ups before (Made t) h way d strays = made_got door stage under pulse m ups t before h way d
  got_kept door stage under pulse m ups before (Ack n) h way d strays = ack_got door stage under pulse m ups n before h way d
  got_kept door stage under pulse m ups before (Note n cemi) h way d strays = note_got door stage under pulse m ups n cemi before h way d strays
  got_kept door stage under pulse m ups before Alive h way d strays = alive_got door stage under pulse m ups before h way d
  got_kept door stage under pulse m ups before (Left status) h way d strays = absurd (not_last left_of before (Left status) status refl h.downs_are.lefts_are)

-- ---- the oldest one comes

pub record GotSo (F : Option Ldata → List Ldata → Type 0) (r : List Entry) (t : Tunnel) (age : ℕ) : Type 0 where
  pub item : Item
  pub is : got (slice_get t.network.down age) ≡ Some item
  pub going_on : Going F (entry item t.now ∷ r) (after t (Arrives age))

module _ (E F : Option Ldata → List Ldata → Type 0) (r : List Entry) (present : ℕ) (up down : List Sent) (waiting : List Ldata) (me : IndAddr) (acted puts : List (ℕ × List ℕ)) (now : ℕ) where
  abbrev before_it : Door → Stage → Under → Nums → Tunnel
  before_it door stage under m = tunnel_at door stage under m present up down me waiting acted puts now

  abbrev Now : Door → Stage → Under → Pulse → Nums → List Rise → List Fall → Type 0
  Now door stage under pulse m ups downs = Goes E door stage under pulse m ups downs r present up down waiting now

  -- nothing is under way before the channel is sought
  pub none_yet : (stage : Stage) (under : Under) (pulse : Pulse) (m : Nums) (ups : List Rise) (downs : List Fall) → Now Shut stage under pulse m ups downs → downs ≡ []
  none_yet stage under pulse m ups downs h =
      downs_none downs (record {
        mades_are = h.downs_are.mades_are;
        acks_are = h.downs_are.acks_are ∙ ap (acks_at m.own) h.door_is.2.stage_is;
        notes_are = h.downs_are.notes_are ∙ free under h.door_is.3;
        alives_are = h.downs_are.alives_are ∙ ap alives_at h.door_is.2.pulse_is;
        lefts_are = h.downs_are.lefts_are;
      })
    where
      free : (u : Under) → IsFree u → notes_at m.put u ≡ []
      free Free f = refl
      free (Coming y) f = absurd f
      free (Owed y) f = absurd f
      free (Back y) f = absurd f

  down_open : (door : Door) (stage : Stage) (under : Under) (pulse : Pulse) (m : Nums) (ups : List Rise) (downs : List Fall) → present ≡ 1 → Now door stage under pulse m ups downs → (age : ℕ) → next_down Commissions (before_it door stage under m) ≡ Some age
      → ((item : Item) → got (slice_get down age) ≡ Some item → MayDo r (entry item now)) → ((item : Item) → got (slice_get down age) ≡ Some item → Steps E F (deed (channel r) (entry item now))) → Strays E F (channel r) (channel_at door (the_channel stage under m now)) → GotSo F r (before_it door stage under m) age
  down_open door stage under pulse m ups downs at1 h age next may to strays =
      let few = downs_short E r present up up down waiting me acted puts now door stage under pulse m ups downs h in
      let t : Took Fall read_down fallen downs down 0 age
      = taken Fall read_down fallen (λ a s. is_under_way (length (makers_at door)) a s && (s.endpoint == present))
      (λ a f s young new. passes (is_under_way (length (makers_at door)) a s) s.endpoint (comes read_down (fallen f) (length (makers_at door)) a s (one_maker E r present up up down waiting me acted puts now door) young new) (new.from ∙ sym at1)) downs down 0 age
      (omega (arith, few)) h.falling next in
      let at : age ≡ t.i = (let e : age ≡ 0 + t.i = t.is in omega (arith, e)) in
      let there : slice_get down age ≡ Some t.s = ap (λ a. slice_get down a) at ∙ t.there in
      let is : got (slice_get down age) ≡ Some (Got (take 512 t.s.octets)) = ap got there in
      let h2 : Now door stage under pulse m ups (t.before ++ t.last ∷ []) = subst (λ l. Now door stage under pulse m ups l) t.split h in
      let way : Way Fall read_down fallen t.before (changed_at age once_more down) = subst (λ a. Way Fall read_down fallen t.before (changed_at a once_more down)) (sym at) t.rest in
      record {
        item = Got (take 512 t.s.octets);
        is = is;
        going_on = got_kept r t.s.octets present up down (changed_at age once_more down) waiting me acted puts now (may (Got (take 512 t.s.octets)) is) E F (to (Got (take 512 t.s.octets)) is) door stage under pulse m ups t.before t.last h2 way t.new.reads strays;
      }
    where
      passes : (b : Bool) (e : ℕ) → b ≡ true → e ≡ present → (b && (e == present)) ≡ true
      passes b e p q = rw (p, eq-eqb e present q) refl

  pub down_kept : (door : Door) (stage : Stage) (under : Under) (pulse : Pulse) (m : Nums) (ups : List Rise) (downs : List Fall) → Now door stage under pulse m ups downs → (age : ℕ) → next_down Commissions (before_it door stage under m) ≡ Some age
      → ((item : Item) → got (slice_get down age) ≡ Some item → MayDo r (entry item now)) → ((item : Item) → got (slice_get down age) ≡ Some item → Steps E F (deed (channel r) (entry item now))) → Strays E F (channel r) (channel_at door (the_channel stage under m now)) → GotSo F r (before_it door stage under m) age
  down_kept Shut stage under pulse m ups downs h age next may to strays =
      let none : downs ≡ [] = none_yet stage under pulse m ups downs h in
      let way : Way Fall read_down fallen [] down = subst (λ l. Way Fall read_down fallen l down) none h.falling in
      absurd (let e : None ≡ Some age = sym (none_left Fall read_down fallen (λ a s. is_under_way 0 a s && (s.endpoint == present)) down 0 way) ∙ next in cc)
  down_kept Knocked stage under pulse m ups downs h age next may to strays = down_open Knocked stage under pulse m ups downs h.door_is.0.at h age next may to strays
  down_kept Replied stage under pulse m ups downs h age next may to strays = down_open Replied stage under pulse m ups downs h.door_is.0.at h age next may to strays
  down_kept (Ajar leaves) stage under pulse m ups downs h age next may to strays = down_open (Ajar leaves) stage under pulse m ups downs h.door_is.at h age next may to strays
