-- What came of the request put last, as this end tells it of a frame, is what the record says.
use Rattle.std.proofs.Common.{◌≡◌, ℕ, List, ◌∷◌, Bool, true, false, cond, Some, refl, sym}
use Rattle.std.specs.Prelude.{not, ◌&&◌, ◌==◌}
use Rattle.knx_model.specs.declared.frames.ip.IpFrame.{IpFrame}
use Rattle.knx_model.specs.declared.frames.ip.IpFrame.TheVariants.{ConnectRequest, ConnectResponse, StateRequest, StateResponse, DisconnectRequest, DisconnectResponse, TunnellingRequest, TunnellingAck}
use Rattle.line_model.specs.declared.client_end.ChannelTook.{ChannelTook}
use Rattle.line_model.specs.Gateway.{next_number}
use Rattle.line_model.specs.Reading.{datagram_in}
use Rattle.line_model.specs.Record.{Got, Entry, entry}
use Rattle.line_model.specs.ChannelLost as lapse
use Rattle.line_model.specs.ChannelLost.{expected, own, acknowledged, confirmed, is_confirmation, beats, has_left, is_none}
use Rattle.line_model.specs.ClientView as seen
use Rattle.line_model.specs.ClientView.{ClientChannel}
use Rattle.line_model.specs.Sendings.{last_request}
use Rattle.tunnel_channel.specs.Fits.{end_of, Knows, acknowledged_in, confirmed_in, last_in}
use Rattle.tunnel_channel.specs.Follows.{acknowledged_by, confirmed_by}
use Rattle.tunnel_channel.proofs.Times.{same_awaited, same_free}
use Rattle.tunnel_channel.proofs.Readings.{readings}
use Rattle.tunnel_channel.proofs.Opened.{ended_by}
use Rattle.tunnel_channel.proofs.Rows.{told_up}

-- of an open channel's request, before a frame and after it
pub record Flies (after : ClientChannel) (told : ChannelTook) (now : ℕ) (before : ClientChannel) : Type 0 where
  pub acked : acknowledged_in after ≡ acknowledged_by told now (acknowledged_in before)
  pub confirms : confirmed_in after ≡ confirmed_by told (last_in before) (confirmed_in before)

module _ (left : Bool) (c : ℕ) (l : List Entry) (octets : List ℕ) (now : ℕ) (k : Knows (end_of c l) left c l) where
  abbrev FliesAt : IpFrame → Type 0
  FliesAt frame = Flies (cond (ended_by c (readings c l) now frame) (seen.Lost c) (seen.Open c (entry (Got octets) now ∷ l))) (told_up left (end_of c l) now frame) now (seen.Open c l)

  flies_state : (ch status : ℕ) → datagram_in octets ≡ Some (StateResponse ch status) → (t z : Bool) → ((ch == c) && lapse.is_awaited (beats c l) now) ≡ t → (status == 0) ≡ z → FliesAt (StateResponse ch status)
  flies_state ch status is true true q z = rw (same_awaited (beats c l) (end_of c l).beat now k.heartbeats, q, z) (record { acked = rw is refl; confirms = rw is refl })
  flies_state ch status is true false q z = rw (same_awaited (beats c l) (end_of c l).beat now k.heartbeats, q, z) (record { acked = refl; confirms = refl })
  flies_state ch status is false z q y = rw (same_awaited (beats c l) (end_of c l).beat now k.heartbeats, q) (record { acked = rw is refl; confirms = rw is refl })

  flies_end : (ch : ℕ) → datagram_in octets ≡ Some (DisconnectRequest ch) → (t : Bool) → (ch == c) ≡ t → FliesAt (DisconnectRequest ch)
  flies_end ch is true q = rw q (record { acked = refl; confirms = refl })
  flies_end ch is false q = rw q (record { acked = rw is refl; confirms = rw is refl })

  flies_left : (ch status : ℕ) → datagram_in octets ≡ Some (DisconnectResponse ch status) → (t z : Bool) → (ch == c) ≡ t → has_left c l ≡ z → left ≡ z → FliesAt (DisconnectResponse ch status)
  flies_left ch status is true true q h y = rw (q, h, y) (record { acked = refl; confirms = refl })
  flies_left ch status is true false q h y = rw (q, h, y) (record { acked = rw is refl; confirms = rw is refl })
  flies_left ch status is false true q h y = rw (q, h, y) (record { acked = rw is refl; confirms = rw is refl })
  flies_left ch status is false false q h y = rw (q, h, y) (record { acked = rw is refl; confirms = rw is refl })

  flies_request : (ch number : ℕ) (cemi : List ℕ) → datagram_in octets ≡ Some (TunnellingRequest ch number cemi) → (t n b : Bool) → (ch == c) ≡ t → (number == expected c l) ≡ n → (next_number number == expected c l) ≡ b
      → FliesAt (TunnellingRequest ch number cemi)
  flies_request ch number cemi is true true b q n p = rw (q, n) (record { acked = rw is refl; confirms = rw (is, q, n) refl })
  flies_request ch number cemi is true false true q n p = rw (q, n, p) (record { acked = rw is refl; confirms = rw (is, q, n) refl })
  flies_request ch number cemi is true false false q n p = rw (q, n, p) (record { acked = rw is refl; confirms = rw (is, q, n) refl })
  flies_request ch number cemi is false n b q m p = rw q (record { acked = rw is refl; confirms = rw (is, q) refl })

  flies_ack : (ch number status : ℕ) → datagram_in octets ≡ Some (TunnellingAck ch number status) → (t : Bool) → (((ch == c) && (number == (own c l).number)) && ((status == 0) && not (is_none (own c l).sent))) ≡ t
      → FliesAt (TunnellingAck ch number status)
  flies_ack ch number status is true q = rw (same_free (own c l).sent (last_request c l), q) (record { acked = rw (is, q) refl; confirms = rw is refl })
  flies_ack ch number status is false q = rw (same_free (own c l).sent (last_request c l), q) (record { acked = rw (is, q) refl; confirms = rw is refl })

  pub flies : (frame : IpFrame) → datagram_in octets ≡ Some frame → FliesAt frame
  flies ConnectRequest is = record { acked = rw is refl; confirms = rw is refl }
  flies (ConnectResponse ch status tunnel) is = record { acked = rw is refl; confirms = rw is refl }
  flies (StateRequest ch) is = record { acked = rw is refl; confirms = rw is refl }
  flies (StateResponse ch status) is = flies_state ch status is _ _ refl refl
  flies (DisconnectRequest ch) is = flies_end ch is _ refl
  flies (DisconnectResponse ch status) is = flies_left ch status is _ _ refl refl (sym k.asked)
  flies (TunnellingRequest ch number cemi) is = flies_request ch number cemi is _ _ _ refl refl refl
  flies (TunnellingAck ch number status) is = flies_ack ch number status is _ refl
