-- A frame that is taken follows the record.
use Rattle.std.proofs.Common.{◌≡◌, ℕ, ◌⊎◌, inl, inr, List, ◌∷◌, Bool, true, false, Option, Some, None, refl, sym, ◌∙◌, ap, subst, cond}
use Rattle.std.specs.Prelude.{◌||◌, option_map}
use Rattle.knx_model.specs.declared.frames.ip.IpFrame.{IpFrame}
use Rattle.knx_model.specs.declared.frames.ip.IpFrame.TheVariants.{DisconnectRequest, DisconnectResponse, TunnellingAck}
use Rattle.knx_model.specs.KnxNetIp.{Written}
use Rattle.line_model.specs.declared.client_end.ChannelTook.{ChannelTook}
use Rattle.line_model.specs.declared.client_end.ChannelTook.TheVariants as took
use Rattle.line_model.specs.Reading.{datagram_in, disconnect_request_in}
use Rattle.line_model.specs.Record.{Put, Got, Entry, entry}
use Rattle.line_model.specs.ChannelLost.{own, acknowledged, confirmed, beats, is_unconfirmed, has_lapsed}
use Rattle.line_model.specs.ClientView as seen
use Rattle.line_model.specs.ClientView.{ClientChannel, channel, Deed, Nothing, Loses, after_entry, traffic, deed}
use Rattle.line_model.specs.Dropped.{is_dropped}
use Rattle.line_model.specs.Renews.{RenewsSo, IsOwed, owed}
use Rattle.line_model.specs.Sendings.{last_request}
use Rattle.line_model.specs.ClientEnd.{OpenEnd, ClientEnd, Open, is_over, is_given_up, is_dead}
use Rattle.tunnel_channel.specs.Fits.{end_of, outstanding_of, Knows, HasNone, FitsChannel, Fits, acknowledged_in, confirmed_in, last_in}
use Rattle.tunnel_channel.specs.Follows.{Sends, TakesFrame, answer_in, taken_in, acknowledged_by, confirmed_by, Ends, Stays, change}
use Rattle.tunnel_channel.proofs.Frames.{ack_read, left_read}
use Rattle.tunnel_channel.proofs.Times.{same_given_up, same_dead}
use Rattle.tunnel_channel.proofs.Opened.{OpenGot}
use Rattle.tunnel_channel.proofs.Rows.{up, IsAck, IsEnd, Row}
use Rattle.tunnel_channel.proofs.Flights.{Flies}
use Rattle.tunnel_channel.proofs.Puts.{same_knows, opened_put, lost_put, still_fits, renews_other, put_none}

-- ---- the time has lapsed by the record exactly where it has for this end

or_false_or : (a b : Bool) → (a || false || b) ≡ (a || b)
or_false_or true b = refl
or_false_or false b = refl

pub lapsed_alike : (c : ℕ) (l : List Entry) (left : Bool) (now : ℕ) → Knows (end_of c l) left c l → is_unconfirmed (acknowledged c l) (confirmed c l) now ≡ false → has_lapsed c l now ≡ is_over (Open (end_of c l)) now
lapsed_alike c l left now k u =
    rw (u, ← same_given_up c (own c l).number (own c l).sent (last_request c l) now k.sendings, ← same_dead (beats c l) (end_of c l).beat now k.heartbeats) (or_false_or (is_given_up (outstanding_of (own c l).sent (last_request c l)) now) (is_dead (end_of c l) now))

-- ---- the answer that is sent

pub record Replies (after : ClientEnd) (answer : List ℕ) (now : ℕ) (r : List Entry) : Type 0 where
  pub sends : Sends after answer now r
  pub owes : IsOwed (owed r) (entry (Put answer) now)
  pub right : RenewsSo r (entry (Put answer) now)
  pub none : deed (channel r) (entry (Put answer) now) ≡ Nothing
  pub asks : disconnect_request_in (datagram_in answer) ≡ None

module _ (after : ClientEnd) (told : ChannelTook) (r : List Entry) (octets : List ℕ) (frame : IpFrame) (now c : ℕ) (l : List Entry) where
  ack_sent : (g : OpenGot r octets frame now c l false) → FitsChannel after now (seen.Open c (entry (Got octets) now ∷ l)) → IsAck told false c l frame → (answer : List ℕ) → answer_in told ≡ Some answer → Replies after answer now (entry (Got octets) now ∷ r)
  ack_sent g fits a answer h =
      let same : (Written (TunnellingAck a.ch a.number 0) ≡ answer) = (let e = a.gives in cc) in
      let read : (datagram_in answer ≡ Some (TunnellingAck a.ch a.number 0)) = subst (λ (o : List ℕ). datagram_in o ≡ Some (TunnellingAck a.ch a.number 0)) same (ack_read a.ch a.number) in
      let owes : (owed (entry (Got octets) now ∷ r) ≡ Some (TunnellingAck a.ch a.number 0)) = g.owes ∙ a.called in record {
        sends = record {
          may = rw read owes;
          fits = subst (λ (ch : ClientChannel). FitsChannel after now ch) (sym (opened_put (entry (Got octets) now ∷ r) answer now c (entry (Got octets) now ∷ l) g.after))
              (still_fits after now now c (entry (Got octets) now ∷ l) (entry (Put answer) now ∷ entry (Got octets) now ∷ l)
              (λ (e : OpenEnd) (left : Bool). same_knows e left c (entry (Got octets) now ∷ l) answer (TunnellingAck a.ch a.number 0) now read refl) fits);
        };
        owes = subst (λ (o : Option IpFrame). IsOwed o (entry (Put answer) now)) (sym owes) read;
        right = renews_other (entry (Got octets) now ∷ r) answer (TunnellingAck a.ch a.number 0) now read refl;
        none = put_none (channel (entry (Got octets) now ∷ r)) answer (TunnellingAck a.ch a.number 0) now read refl;
        asks = rw read refl;
      }

  end_sent : (g : OpenGot r octets frame now c l true) → datagram_in octets ≡ Some frame → IsEnd told after true c frame → (answer : List ℕ) → answer_in told ≡ Some answer → Replies after answer now (entry (Got octets) now ∷ r)
  end_sent g is a answer h =
      let same : (Written (DisconnectResponse a.ch 0) ≡ answer) = (let e = a.gives in cc) in
      let read : (datagram_in answer ≡ Some (DisconnectResponse a.ch 0)) = subst (λ (o : List ℕ). datagram_in o ≡ Some (DisconnectResponse a.ch 0)) same (left_read a.ch) in
      let got : (datagram_in octets ≡ Some (DisconnectRequest a.ch)) = is ∙ ap (λ (f : IpFrame). Some f) a.asked in record {
        sends = record {
          may = rw read (record { its_own = rw g.after a.its_own; got_just_now = rw got refl; agreed = refl });
          fits = rw a.idle (rw (lost_put (entry (Got octets) now ∷ r) answer now c g.after) tt);
        };
        owes = rw g.owes tt;
        right = renews_other (entry (Got octets) now ∷ r) answer (DisconnectResponse a.ch 0) now read refl;
        none = put_none (channel (entry (Got octets) now ∷ r)) answer (DisconnectResponse a.ch 0) now read refl;
        asks = rw read refl;
      }

  none_sent : answer_in told ≡ None → (answer : List ℕ) → answer_in told ≡ Some answer → Replies after answer now (entry (Got octets) now ∷ r)
  none_sent n answer h = absurd (cc)

  replied : (ends : Bool) → OpenGot r octets frame now c l ends → datagram_in octets ≡ Some frame → Row after told ends c l octets frame now → (answer : List ℕ) → answer_in told ≡ Some answer → Replies after answer now (entry (Got octets) now ∷ r)
  replied true g is w answer h = reply_ended w.reply
    where
      reply_ended : (answer_in told ≡ None) ⊎ (IsAck told true c l frame ⊎ IsEnd told after true c frame) → Replies after answer now (entry (Got octets) now ∷ r)
      reply_ended (inl n) = none_sent n answer h
      reply_ended (inr (inl a)) = absurd (let e = a.stays in cc)
      reply_ended (inr (inr a)) = end_sent g is a answer h
  replied false g is w answer h = reply_open w.reply
    where
      reply_open : (answer_in told ≡ None) ⊎ (IsAck told false c l frame ⊎ IsEnd told after false c frame) → Replies after answer now (entry (Got octets) now ∷ r)
      reply_open (inl n) = none_sent n answer h
      reply_open (inr (inl a)) = ack_sent g w.fits a answer h
      reply_open (inr (inr a)) = absurd (let e = a.closed in cc)

  changed : (ends : Bool) → change (seen.Open c l) (cond ends (seen.Lost c) (seen.Open c (entry (Got octets) now ∷ l))) ≡ cond ends Ends Stays
  changed true = refl
  changed false = refl

  pub by_row : (over ends : Bool) → channel r ≡ seen.Open c l → OpenGot r octets frame now c l ends → datagram_in octets ≡ Some frame → Row after told ends c l octets frame now
      → Flies (cond ends (seen.Lost c) (seen.Open c (entry (Got octets) now ∷ l))) told now (seen.Open c l) → TakesFrame after told over octets now r
  by_row over ends at g is w f = record {
    fits = subst (λ (ch : ClientChannel). FitsChannel after now ch) (sym g.after) w.fits;
    changes = λ o.
        ap (λ (ch : ClientChannel). change ch (channel (entry (Got octets) now ∷ r))) at ∙ ap (λ (ch : ClientChannel). change (seen.Open c l) ch) g.after ∙ changed ends ∙ sym w.tells;
    drops = g.drops ∙ w.drops;
    gives = ap taken_in g.did ∙ w.gives;
    acknowledges = ap (option_map Written) g.owes ∙ w.acknowledges;
    answers = λ answer h. (replied ends g is w answer h).sends;
    owes = λ answer h. (replied ends g is w answer h).owes;
    right = λ answer h. (replied ends g is w answer h).right;
    no_deed = λ answer h. (replied ends g is w answer h).none;
    asks_not = λ answer h. (replied ends g is w answer h).asks;
    acked = λ o. ap acknowledged_in g.after ∙ f.acked ∙ sym (ap (λ (ch : ClientChannel). acknowledged_by told now (acknowledged_in ch)) at);
    confirms = λ o. ap confirmed_in g.after ∙ f.confirms ∙ sym (ap (λ (ch : ClientChannel). confirmed_by told (last_in ch) (confirmed_in ch)) at);
  }

-- ---- a frame that is dropped since the time has ended the channel, or since there is none

pub record NothingGot (r : List Entry) (octets : List ℕ) (now : ℕ) : Type 0 where
  pub did : taken_in (traffic (channel r) (entry (Got octets) now)) ≡ None
  pub owes : owed (entry (Got octets) now ∷ r) ≡ None
  pub drops : is_dropped r (entry (Got octets) now) ≡ true

-- it changes nothing
pub record Still (r : List Entry) (octets : List ℕ) (now : ℕ) : Type 0 where
  pub changes : change (channel r) (channel (entry (Got octets) now ∷ r)) ≡ Stays
  pub acked : acknowledged_in (channel (entry (Got octets) now ∷ r)) ≡ acknowledged_in (channel r)
  pub confirms : confirmed_in (channel (entry (Got octets) now ∷ r)) ≡ confirmed_in (channel r)

pub unheard : (end : ClientEnd) (r : List Entry) (octets : List ℕ) (now : ℕ) (over : Bool) → (over ≡ false → Still r octets now) → NothingGot r octets now → Fits end (entry (Got octets) now ∷ r) → TakesFrame end took.Dropped over octets now r
unheard end r octets now over same n fits = record {
  fits = fits;
  changes = λ o. (same o).changes;
  drops = n.drops;
  gives = n.did;
  acknowledges = ap (option_map Written) n.owes;
  answers = λ answer h. absurd (cc);
  owes = λ answer h. absurd (cc);
  right = λ answer h. absurd (cc);
  no_deed = λ answer h. absurd (cc);
  asks_not = λ answer h. absurd (cc);
  acked = λ o. (same o).acked;
  confirms = λ o. (same o).confirms;
}

-- in an open channel that has lapsed
pub lapsed_got : (r : List Entry) (octets : List ℕ) (frame : IpFrame) (now c : ℕ) (l : List Entry) → channel r ≡ seen.Open c l → has_lapsed c l now ≡ true → datagram_in octets ≡ Some frame
    → NothingGot r octets now × (channel (entry (Got octets) now ∷ r) ≡ seen.Lost c)
unfolding after_entry traffic
lapsed_got r octets frame now c l up lapsed is =
    (record { did = rw (up, lapsed) refl; owes = rw (up, lapsed) refl; drops = rw (up, is, lapsed) refl }, rw (up, lapsed) refl)

-- where there is no channel and none is sought
pub none_got_by : (ch : ClientChannel) (r : List Entry) (octets : List ℕ) (frame : IpFrame) (now : ℕ) → HasNone ch → channel r ≡ ch → datagram_in octets ≡ Some frame
    → NothingGot r octets now × (channel (entry (Got octets) now ∷ r) ≡ ch)
unfolding after_entry traffic
none_got_by seen.Fresh r octets frame now n q is = (record { did = rw q refl; owes = rw q refl; drops = rw (q, is) refl }, rw q refl)
none_got_by (seen.Sought since) r octets frame now n q is = absurd n
none_got_by (seen.RefusedBy status) r octets frame now n q is = (record { did = rw q refl; owes = rw q refl; drops = rw (q, is) refl }, rw q refl)
none_got_by seen.Unanswered r octets frame now n q is = (record { did = rw q refl; owes = rw q refl; drops = rw (q, is) refl }, rw q refl)
none_got_by (seen.Open c l) r octets frame now n q is = absurd n
none_got_by (seen.Lost c) r octets frame now n q is = (record { did = rw q refl; owes = rw q refl; drops = rw (q, is) refl }, rw q refl)
