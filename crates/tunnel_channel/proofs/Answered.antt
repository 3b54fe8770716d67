-- What this end answers to a frame, in each of its states.
use Rattle.std.proofs.Common.{◌≡◌, ℕ, ◌≤◌, ◌⊎◌, inl, inr, List, [], ◌∷◌, Bool, true, false, cond, Some, None, refl, sym, ◌∙◌, subst, ap}
use Rattle.std.specs.Prelude.{◌==◌}
use Rattle.knx_model.specs.declared.address.IndAddr.{IndAddr}
use Rattle.knx_model.specs.declared.frames.ip.IpFrame.{IpFrame}
use Rattle.knx_model.specs.declared.frames.ip.IpFrame.TheVariants.{ConnectRequest, ConnectResponse, StateRequest, StateResponse, DisconnectRequest, DisconnectResponse, TunnellingRequest, TunnellingAck}
use Rattle.knx_model.specs.Connection.{has_passed}
use Rattle.line_model.specs.declared.client_end.ChannelTook.{ChannelTook}
use Rattle.line_model.specs.declared.client_end.ChannelTook.TheVariants as took
use Rattle.line_model.specs.Reading.{datagram_in}
use Rattle.line_model.specs.Record.{Got, Entry, entry}
use Rattle.line_model.specs.LinkStory.{newest_time}
use Rattle.line_model.specs.ChannelLost.{answer_wait, acknowledged, confirmed, is_unconfirmed}
use Rattle.line_model.specs.ClientView as seen
use Rattle.line_model.specs.ClientView.{ClientChannel, channel, after_entry, traffic}
use Rattle.line_model.specs.Dropped.{drops_sought}
use Rattle.line_model.specs.ClientEnd.{OpenEnd, ClientEnd, Idle, Seeking, Open, Leaving, JustLost, is_over}
use Rattle.line_model.specs.ClientFrames.{seeking_took, channel_took, after_took, HasTunnelIfUp}
use Rattle.tunnel_channel.specs.Fits.{end_of, Knows, KnowsOpen, IsBehind, IsUnanswered, HasNone, FitsChannel, Fits, acknowledged_in, confirmed_in}
use Rattle.tunnel_channel.specs.Follows.{TakesFrame, TakeFollows, is_confirmation_late, Stays, change}
use Rattle.tunnel_channel.proofs.Times.{over_later, passed_later}
use Rattle.tunnel_channel.proofs.Opened.{open_got}
use Rattle.tunnel_channel.proofs.Rows.{up, fits_up, told_up, took_up, row}
use Rattle.tunnel_channel.proofs.Flights.{flies}
use Rattle.tunnel_channel.proofs.Take.{lapsed_alike, by_row, NothingGot, Still, unheard, lapsed_got, none_got_by}

abbrev pub Answers : ClientEnd → IpFrame → ℕ → List ℕ → List Entry → ChannelTook → Type 0
Answers end frame now octets r told = TakesFrame (after_took end frame now told) told (is_over end now) octets now r

-- what is known stays as it is, and so does what is in flight
still : (r : List Entry) (octets : List ℕ) (now : ℕ) (ch : ClientChannel) → channel r ≡ ch → channel (entry (Got octets) now ∷ r) ≡ ch → change ch ch ≡ Stays → Still r octets now
still r octets now ch at is same = record {
  changes = ap (λ (d : ClientChannel). change d (channel (entry (Got octets) now ∷ r))) at ∙ ap (λ (d : ClientChannel). change ch d) is ∙ same;
  acked = ap acknowledged_in is ∙ sym (ap acknowledged_in at);
  confirms = ap confirmed_in is ∙ sym (ap confirmed_in at);
}

none_changes : (ch : ClientChannel) → HasNone ch → change ch ch ≡ Stays
none_changes seen.Fresh n = refl
none_changes (seen.Sought since) n = absurd n
none_changes (seen.RefusedBy status) n = refl
none_changes seen.Unanswered n = refl
none_changes (seen.Open c l) n = absurd n
none_changes (seen.Lost c) n = refl

-- ---- an end with a channel

over_up : (left : Bool) (e : OpenEnd) (now : ℕ) → is_over (up left e) now ≡ is_over (Open e) now
over_up true e now = refl
over_up false e now = refl

told_is : (left : Bool) (e : OpenEnd) (frame : IpFrame) (now : ℕ) (t : Bool) → is_over (Open e) now ≡ t → channel_took (up left e) frame now ≡ cond t took.Dropped (told_up left e now frame)
unfolding channel_took
told_is left e frame now true q = rw (over_up left e now, q) refl
told_is left e frame now false q = rw (over_up left e now, q) (took_up left e now frame)

dropped_up : (left : Bool) (e : OpenEnd) (frame : IpFrame) (now : ℕ) (octets : List ℕ) (r : List Entry) → NothingGot r octets now → channel (entry (Got octets) now ∷ r) ≡ seen.Lost e.channel → is_over (Open e) now ≡ true
    → Answers (up left e) frame now octets r took.Dropped
unfolding after_took
dropped_up left e frame now octets r n lost over =
    unheard (up left e) r octets now (is_over (up left e) now) (λ o. absurd (let passed : (is_over (up left e) now ≡ true) = over_up left e now ∙ over in cc)) n (subst (λ (ch : ClientChannel). FitsChannel (up left e) now ch) (sym lost) (fits_up left e now (seen.Lost e.channel) (inr (record { lost = refl; over = over }))))

module _ (r : List Entry) (octets : List ℕ) (frame : IpFrame) (now : ℕ) (is : datagram_in octets ≡ Some frame) where
  known_takes : (left : Bool) (c : ℕ) (l : List Entry) → channel r ≡ seen.Open c l → Knows (end_of c l) left c l → is_unconfirmed (acknowledged c l) (confirmed c l) now ≡ false → (t : Bool) → is_over (Open (end_of c l)) now ≡ t
      → Answers (up left (end_of c l)) frame now octets r (cond t took.Dropped (told_up left (end_of c l) now frame))
  known_takes left c l at k u true q =
      let g = lapsed_got r octets frame now c l at (lapsed_alike c l left now k u ∙ q) is in
      dropped_up left (end_of c l) frame now octets r g.0 g.1 q
  known_takes left c l at k u false q =
      by_row (after_took (up left (end_of c l)) frame now (told_up left (end_of c l) now frame)) (told_up left (end_of c l) now frame) r octets frame now c l (is_over (up left (end_of c l)) now) _ at (open_got r octets frame now c l at (lapsed_alike c l left now k u ∙ q) is) is (row left c l octets now k frame is) (flies left c l octets now k frame is)

  open_takes : (left : Bool) (e : OpenEnd) (k : KnowsOpen e left (channel r)) → is_confirmation_late (channel r) now ≡ false → Answers (up left e) frame now octets r (channel_took (up left e) frame now)
  open_takes left e k u =
      let same : (e ≡ end_of k.c k.l) = k.knows.is in
      let knows : Knows (end_of k.c k.l) left k.c k.l = subst (λ (d : OpenEnd). Knows d left k.c k.l) same k.knows in
      let timely : (is_unconfirmed (acknowledged k.c k.l) (confirmed k.c k.l) now ≡ false) = subst (λ (ch : ClientChannel). is_confirmation_late ch now ≡ false) k.is u in
      let over : Bool = is_over (Open (end_of k.c k.l)) now in
      subst (λ (d : OpenEnd). Answers (up left d) frame now octets r (channel_took (up left d) frame now)) (sym same)
      (subst (λ (told : ChannelTook). Answers (up left (end_of k.c k.l)) frame now octets r told) (sym (told_is left (end_of k.c k.l) frame now over refl))
      (known_takes left k.c k.l k.is knows timely over refl))

  behind_takes : (left : Bool) (e : OpenEnd) → IsBehind e (newest_time r) (channel r) → newest_time r ≤ now → Answers (up left e) frame now octets r (channel_took (up left e) frame now)
  behind_takes left e b le =
      let over : (is_over (Open e) now ≡ true) = over_later e (newest_time r) now le b.over in
      let g = none_got_by (seen.Lost e.channel) r octets frame now tt b.lost is in
      subst (λ (told : ChannelTook). Answers (up left e) frame now octets r told) (sym (told_is left e frame now true over)) (dropped_up left e frame now octets r g.0 g.1 over)

  up_takes : (left : Bool) (e : OpenEnd) → KnowsOpen e left (channel r) ⊎ IsBehind e (newest_time r) (channel r) → newest_time r ≤ now → is_confirmation_late (channel r) now ≡ false
      → Answers (up left e) frame now octets r (channel_took (up left e) frame now)
  up_takes left e (inl k) le u = open_takes left e k u
  up_takes left e (inr b) le u = behind_takes left e b le

  -- ---- an end without one

  none_takes : (end : ClientEnd) → ((frame : IpFrame) → channel_took end frame now ≡ took.Dropped) → ((ch : ClientChannel) → FitsChannel end (newest_time r) ch → HasNone ch) → Fits end r
      → ((ch : ClientChannel) → FitsChannel end (newest_time r) ch → FitsChannel end now ch) → Answers end frame now octets r (channel_took end frame now)
  unfolding after_took
  none_takes end drops none fits later =
      let g = none_got_by (channel r) r octets frame now (none (channel r) fits) refl is in
      subst (λ (told : ChannelTook). Answers end frame now octets r told) (sym (drops frame))
      (unheard end r octets now (is_over end now) (λ o. still r octets now (channel r) refl g.1 (none_changes (channel r) (none (channel r) fits))) g.0 (subst (λ (ch : ClientChannel). FitsChannel end now ch) (sym g.1) (later (channel r) fits)))

-- ---- an end that seeks one

abbrev pub IsOther : IpFrame → Type 0
IsOther ConnectRequest = Unit {0}
IsOther (ConnectResponse ch status tunnel) = ⊥
IsOther (StateRequest ch) = Unit {0}
IsOther (StateResponse ch status) = Unit {0}
IsOther (DisconnectRequest ch) = Unit {0}
IsOther (DisconnectResponse ch status) = Unit {0}
IsOther (TunnellingRequest ch number cemi) = Unit {0}
IsOther (TunnellingAck ch number status) = Unit {0}

late_drops : (since now : ℕ) (frame : IpFrame) → has_passed answer_wait since now ≡ true → drops_sought since now frame ≡ true
late_drops since now ConnectRequest q = refl
late_drops since now (ConnectResponse ch status tunnel) q = q
late_drops since now (StateRequest ch) q = refl
late_drops since now (StateResponse ch status) q = refl
late_drops since now (DisconnectRequest ch) q = refl
late_drops since now (DisconnectResponse ch status) q = refl
late_drops since now (TunnellingRequest ch number cemi) q = refl
late_drops since now (TunnellingAck ch number status) q = refl

other_drops : (since now : ℕ) (frame : IpFrame) → IsOther frame → drops_sought since now frame ≡ true
other_drops since now ConnectRequest o = refl
other_drops since now (ConnectResponse ch status tunnel) o = absurd o
other_drops since now (StateRequest ch) o = refl
other_drops since now (StateResponse ch status) o = refl
other_drops since now (DisconnectRequest ch) o = refl
other_drops since now (DisconnectResponse ch status) o = refl
other_drops since now (TunnellingRequest ch number cemi) o = refl
other_drops since now (TunnellingAck ch number status) o = refl

other_told : (frame : IpFrame) → IsOther frame → seeking_took frame ≡ took.Dropped
other_told ConnectRequest o = refl
other_told (ConnectResponse ch status tunnel) o = absurd o
other_told (StateRequest ch) o = refl
other_told (StateResponse ch status) o = refl
other_told (DisconnectRequest ch) o = refl
other_told (DisconnectResponse ch status) o = refl
other_told (TunnellingRequest ch number cemi) o = refl
other_told (TunnellingAck ch number status) o = refl

other_seen : (since : ℕ) (x : Entry) (frame : IpFrame) → IsOther frame → seen.sought_got since x (Some frame) ≡ seen.Sought since
other_seen since x ConnectRequest o = refl
other_seen since x (ConnectResponse ch status tunnel) o = absurd o
other_seen since x (StateRequest ch) o = refl
other_seen since x (StateResponse ch status) o = refl
other_seen since x (DisconnectRequest ch) o = refl
other_seen since x (DisconnectResponse ch status) o = refl
other_seen since x (TunnellingRequest ch number cemi) o = refl
other_seen since x (TunnellingAck ch number status) o = refl

late_got : (r : List Entry) (octets : List ℕ) (frame : IpFrame) (now since : ℕ) → channel r ≡ seen.Sought since → has_passed answer_wait since now ≡ true → datagram_in octets ≡ Some frame
    → NothingGot r octets now × (channel (entry (Got octets) now ∷ r) ≡ seen.Unanswered)
unfolding after_entry traffic
late_got r octets frame now since at q is = (record { did = rw at refl; owes = rw at refl; drops = rw (at, is) (late_drops since now frame q) }, rw (at, q) refl)

other_got : (r : List Entry) (octets : List ℕ) (frame : IpFrame) (now since : ℕ) → channel r ≡ seen.Sought since → has_passed answer_wait since now ≡ false → datagram_in octets ≡ Some frame → IsOther frame
    → NothingGot r octets now × (channel (entry (Got octets) now ∷ r) ≡ seen.Sought since)
unfolding after_entry traffic
other_got r octets frame now since at q is o =
    (record { did = rw at refl; owes = rw at refl; drops = rw (at, is) (other_drops since now frame o) }, rw (at, q, is) (other_seen since (entry (Got octets) now) frame o))

module _ (r : List Entry) (octets : List ℕ) (now since : ℕ) (at : channel r ≡ seen.Sought since) where
  late_takes : (frame : IpFrame) → datagram_in octets ≡ Some frame → has_passed answer_wait since now ≡ true → Answers (Seeking since) frame now octets r (channel_took (Seeking since) frame now)
  unfolding channel_took after_took
  late_takes frame is q =
      let g = late_got r octets frame now since at q is in
      rw q (unheard (Seeking since) r octets now true (λ o. absurd (cc)) g.0 (rw g.1 (inr (record { unanswered = refl; over = q }))))

  other_takes : (frame : IpFrame) → IsOther frame → datagram_in octets ≡ Some frame → has_passed answer_wait since now ≡ false → Answers (Seeking since) frame now octets r (channel_took (Seeking since) frame now)
  unfolding channel_took after_took
  other_takes frame o is q =
      let g = other_got r octets frame now since at q is o in
      rw (q, other_told frame o) (unheard (Seeking since) r octets now false (λ p. still r octets now (seen.Sought since) at g.1 refl) g.0 (rw g.1 (inl refl)))

  opened : (ch status : ℕ) (tunnel : IndAddr) → datagram_in octets ≡ Some (ConnectResponse ch status (Some tunnel)) → has_passed answer_wait since now ≡ false → (status == 0) ≡ true
      → Answers (Seeking since) (ConnectResponse ch status (Some tunnel)) now octets r (channel_took (Seeking since) (ConnectResponse ch status (Some tunnel)) now)
  unfolding channel_took after_took after_entry traffic
  opened ch status tunnel is q z = rw q (record {
    fits = rw (at, q, is, z) (inl (record { c = ch; l = entry (Got octets) now ∷ []; is = refl; knows = record { begun = tt; is = rw is refl; sendings = rw is tt; heartbeats = rw is tt; asked = refl } }));
    changes = λ o. rw (at, q, is, z) refl;
    drops = rw (at, is, q) refl;
    gives = rw at refl;
    acknowledges = rw at refl;
    answers = λ answer h. absurd (cc);
    owes = λ answer h. absurd (cc);
    right = λ answer h. absurd (cc);
    no_deed = λ answer h. absurd (cc);
    asks_not = λ answer h. absurd (cc);
    acked = λ o. rw (at, q, is, z) (rw is refl);
    confirms = λ o. rw (at, q, is, z) (rw is refl);
  })

  refused : (ch status : ℕ) → datagram_in octets ≡ Some (ConnectResponse ch status None) → has_passed answer_wait since now ≡ false → (status == 0) ≡ false
      → Answers (Seeking since) (ConnectResponse ch status None) now octets r (channel_took (Seeking since) (ConnectResponse ch status None) now)
  unfolding channel_took after_took after_entry traffic
  refused ch status is q z = rw q (record {
    fits = rw (at, q, is, z) tt;
    changes = λ o. rw (at, q, is, z) refl;
    drops = rw (at, is, q) refl;
    gives = rw at refl;
    acknowledges = rw at refl;
    answers = λ answer h. absurd (cc);
    owes = λ answer h. absurd (cc);
    right = λ answer h. absurd (cc);
    no_deed = λ answer h. absurd (cc);
    asks_not = λ answer h. absurd (cc);
    acked = λ o. rw (at, q, is, z) refl;
    confirms = λ o. rw (at, q, is, z) refl;
  })

  timely_takes : (frame : IpFrame) → HasTunnelIfUp frame → datagram_in octets ≡ Some frame → has_passed answer_wait since now ≡ false → Answers (Seeking since) frame now octets r (channel_took (Seeking since) frame now)
  timely_takes ConnectRequest h is q = other_takes ConnectRequest tt is q
  timely_takes (ConnectResponse ch status (Some tunnel)) h is q = opened ch status tunnel is q (sym h)
  timely_takes (ConnectResponse ch status None) h is q = refused ch status is q (sym h)
  timely_takes (StateRequest ch) h is q = other_takes (StateRequest ch) tt is q
  timely_takes (StateResponse ch status) h is q = other_takes (StateResponse ch status) tt is q
  timely_takes (DisconnectRequest ch) h is q = other_takes (DisconnectRequest ch) tt is q
  timely_takes (DisconnectResponse ch status) h is q = other_takes (DisconnectResponse ch status) tt is q
  timely_takes (TunnellingRequest ch number cemi) h is q = other_takes (TunnellingRequest ch number cemi) tt is q
  timely_takes (TunnellingAck ch number status) h is q = other_takes (TunnellingAck ch number status) tt is q

  sought_takes : (frame : IpFrame) → HasTunnelIfUp frame → datagram_in octets ≡ Some frame → (t : Bool) → has_passed answer_wait since now ≡ t → Answers (Seeking since) frame now octets r (channel_took (Seeking since) frame now)
  sought_takes frame h is true q = late_takes frame is q
  sought_takes frame h is false q = timely_takes frame h is q

unanswered_takes : (r : List Entry) (octets : List ℕ) (frame : IpFrame) (now since : ℕ) → IsUnanswered since (newest_time r) (channel r) → newest_time r ≤ now → datagram_in octets ≡ Some frame
    → Answers (Seeking since) frame now octets r (channel_took (Seeking since) frame now)
unfolding channel_took after_took
unanswered_takes r octets frame now since u le is =
    let over : (has_passed answer_wait since now ≡ true) = passed_later answer_wait since (newest_time r) now le u.over in
    let g = none_got_by seen.Unanswered r octets frame now tt u.unanswered is in
    rw over (unheard (Seeking since) r octets now true (λ o. absurd (cc)) g.0 (rw g.1 (inr (record { unanswered = refl; over = over }))))

seeking_takes : (r : List Entry) (octets : List ℕ) (frame : IpFrame) (now since : ℕ) → (channel r ≡ seen.Sought since) ⊎ IsUnanswered since (newest_time r) (channel r) → newest_time r ≤ now → HasTunnelIfUp frame → datagram_in octets ≡ Some frame
    → Answers (Seeking since) frame now octets r (channel_took (Seeking since) frame now)
seeking_takes r octets frame now since (inl at) le h is = sought_takes r octets now since at frame h is (has_passed answer_wait since now) refl
seeking_takes r octets frame now since (inr u) le h is = unanswered_takes r octets frame now since u le is

-- ---- each state

idle_drops : (frame : IpFrame) (now : ℕ) → channel_took Idle frame now ≡ took.Dropped
unfolding channel_took
idle_drops frame now = refl

lost_drops : (c : ℕ) (frame : IpFrame) (now : ℕ) → channel_took (JustLost c) frame now ≡ took.Dropped
unfolding channel_took
lost_drops c frame now = refl

pub take_follows : (end : ClientEnd) (frame : IpFrame) (now : ℕ) → HasTunnelIfUp frame → TakeFollows end frame now
take_follows Idle frame now h r octets fits le u is = none_takes r octets frame now is Idle (λ f. idle_drops f now) (λ ch n. n) fits (λ ch n. n)
take_follows (Seeking since) frame now h r octets fits le u is = seeking_takes r octets frame now since fits le h is
take_follows (Open e) frame now h r octets fits le u is = up_takes r octets frame now is false e fits le u
take_follows (Leaving e) frame now h r octets fits le u is = up_takes r octets frame now is true e fits le u
take_follows (JustLost c) frame now h r octets fits le u is =
    none_takes r octets frame now is (JustLost c) (λ f. lost_drops c f now) (λ ch n. subst (λ (d : ClientChannel). HasNone d) (sym n) tt) fits (λ ch n. n)
