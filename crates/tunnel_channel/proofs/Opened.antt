-- What a frame that was got does to an open channel, by the readings of the channel's entries.
use Rattle.std.proofs.Common.{◌≡◌, ℕ, List, ◌∷◌, Bool, true, false, cond, Some, None, refl}
use Rattle.std.specs.Prelude.{not, ◌&&◌, ◌||◌, ◌==◌}
use Rattle.knx_model.specs.declared.frames.ip.IpFrame.{IpFrame}
use Rattle.knx_model.specs.declared.frames.ip.IpFrame.TheVariants.{ConnectRequest, ConnectResponse, StateRequest, StateResponse, DisconnectRequest, DisconnectResponse, TunnellingRequest, TunnellingAck}
use Rattle.line_model.specs.Reading.{datagram_in, request_in}
use Rattle.line_model.specs.Record.{Got, Entry, entry}
use Rattle.line_model.specs.ChannelLost.{expected, has_left, delivers, answers_beat, has_lapsed, is_ended_by, is_lost}
use Rattle.line_model.specs.ClientView as seen
use Rattle.line_model.specs.ClientView.{channel, Deed, Takes, Loses, deed_of, after_entry, traffic}
use Rattle.line_model.specs.Dropped.{is_dropped, drops_in}
use Rattle.line_model.specs.Renews.{calls_for, owed}
use Rattle.tunnel_channel.proofs.Readings.{Readings, readings}

-- whether it ends the channel
abbrev pub ended_by : ℕ → Readings → ℕ → IpFrame → Bool
ended_by c r now ConnectRequest = false
ended_by c r now (ConnectResponse ch status tunnel) = false
ended_by c r now (StateRequest ch) = false
ended_by c r now (StateResponse ch status) = answers_beat c r.unanswered now (Some (record { channel = ch; status = status })) && not (status == 0)
ended_by c r now (DisconnectRequest ch) = ch == c
ended_by c r now (DisconnectResponse ch status) = r.left && (ch == c)
ended_by c r now (TunnellingRequest ch number cemi) = false
ended_by c r now (TunnellingAck ch number status) = false

and_false : (a : Bool) → (a && false) ≡ false
and_false true = refl
and_false false = refl

or_and_false : (a b : Bool) → (a || (b && false)) ≡ a
or_and_false true b = refl
or_and_false false b = and_false b

or_false_and_false : (a b : Bool) → ((a || false) || (b && false)) ≡ a
or_false_and_false true b = refl
or_false_and_false false b = and_false b

same_ended : (c : ℕ) (l : List Entry) (now : ℕ) (frame : IpFrame) → is_ended_by c l now (Some frame) ≡ ended_by c (readings c l) now frame
same_ended c l now ConnectRequest = and_false (has_left c l)
same_ended c l now (ConnectResponse ch status tunnel) = and_false (has_left c l)
same_ended c l now (StateRequest ch) = and_false (has_left c l)
same_ended c l now (StateResponse ch status) = or_and_false _ (has_left c l)
same_ended c l now (DisconnectRequest ch) = or_false_and_false (ch == c) (has_left c l)
same_ended c l now (DisconnectResponse ch status) = refl
same_ended c l now (TunnellingRequest ch number cemi) = and_false (has_left c l)
same_ended c l now (TunnellingAck ch number status) = and_false (has_left c l)

pub lost_got : (c : ℕ) (l : List Entry) (octets : List ℕ) (frame : IpFrame) (now : ℕ) → has_lapsed c l now ≡ false → datagram_in octets ≡ Some frame
    → is_lost c l (entry (Got octets) now) ≡ ended_by c (readings c l) now frame
lost_got c l octets frame now lapsed is = rw (lapsed, is) (same_ended c l now frame)

pub record OpenGot (r : List Entry) (octets : List ℕ) (frame : IpFrame) (now c : ℕ) (l : List Entry) (ends : Bool) : Type 0 where
  pub after : channel (entry (Got octets) now ∷ r) ≡ cond ends (seen.Lost c) (seen.Open c (entry (Got octets) now ∷ l))
  pub did : traffic (channel r) (entry (Got octets) now) ≡ cond ends Loses (deed_of Takes (delivers c (expected c l) (request_in (Some frame))) (request_in (Some frame)))
  pub owes : owed (entry (Got octets) now ∷ r) ≡ cond ends None (calls_for c l (request_in (Some frame)))
  pub drops : is_dropped r (entry (Got octets) now) ≡ drops_in c l now frame

open_got_by : (r : List Entry) (octets : List ℕ) (frame : IpFrame) (now c : ℕ) (l : List Entry) → channel r ≡ seen.Open c l → has_lapsed c l now ≡ false → datagram_in octets ≡ Some frame
    → (ends : Bool) → is_lost c l (entry (Got octets) now) ≡ ends → OpenGot r octets frame now c l ends
unfolding after_entry traffic
open_got_by r octets frame now c l up lapsed is true q = record {
  after = rw (up, q) refl;
  did = rw (up, q) refl;
  owes = rw (up, q) refl;
  drops = rw (up, is, lapsed) refl;
}
open_got_by r octets frame now c l up lapsed is false q = record {
  after = rw (up, q) refl;
  did = rw (up, q, is) refl;
  owes = rw (up, q, is) refl;
  drops = rw (up, is, lapsed) refl;
}

pub open_got : (r : List Entry) (octets : List ℕ) (frame : IpFrame) (now c : ℕ) (l : List Entry) → channel r ≡ seen.Open c l → has_lapsed c l now ≡ false → datagram_in octets ≡ Some frame
    → OpenGot r octets frame now c l (ended_by c (readings c l) now frame)
open_got r octets frame now c l up lapsed is = open_got_by r octets frame now c l up lapsed is (ended_by c (readings c l) now frame) (lost_got c l octets frame now lapsed is)
