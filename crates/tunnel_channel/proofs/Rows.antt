-- What this end answers in an open channel is what the record says of the frame.
use Rattle.std.proofs.Common.{◌≡◌, ℕ, ◌⊎◌, inl, inr, List, [], ◌∷◌, Bool, true, false, cond, Option, Some, None, refl, sym, ◌∙◌, subst, arith}
use Rattle.std.proofs.lemmas.Bool.Decides.{nat_tests}
use Rattle.std.specs.Prelude.{not, ◌&&◌, ◌==◌, option_map}
use Rattle.knx_model.specs.declared.address.IndAddr.{IndAddr}
use Rattle.knx_model.specs.declared.frames.ip.IpFrame.{IpFrame}
use Rattle.knx_model.specs.declared.frames.ip.IpFrame.TheVariants.{ConnectRequest, ConnectResponse, StateRequest, StateResponse, DisconnectRequest, DisconnectResponse, TunnellingRequest, TunnellingAck}
use Rattle.knx_model.specs.KnxNetIp.{Written}
use Rattle.line_model.specs.declared.client_end.ChannelTook.{ChannelTook}
use Rattle.line_model.specs.declared.client_end.ChannelTook.TheVariants as took
use Rattle.line_model.specs.Gateway.{next_number}
use Rattle.line_model.specs.Reading.{datagram_in, request_in}
use Rattle.line_model.specs.Record.{Got, Entry, entry}
use Rattle.line_model.specs.ChannelLost as lapse
use Rattle.line_model.specs.ChannelLost.{expected, own, beats, has_left, delivers, is_none}
use Rattle.line_model.specs.ClientView as seen
use Rattle.line_model.specs.ClientView.{ClientChannel, Takes, Loses, deed_of}
use Rattle.line_model.specs.Dropped.{drops_in}
use Rattle.line_model.specs.Renews.{calls_for}
use Rattle.line_model.specs.Sendings.{last_request}
use Rattle.line_model.specs.ClientEnd.{OpenEnd, ClientEnd, Idle, Open, Leaving, JustLost, with_channel, lost}
use Rattle.line_model.specs.ClientFrames.{open_took, took_in_time, after_took, acknowledged, delivered, answered}
use Rattle.tunnel_channel.specs.Fits.{end_of, HasBegun, Knows, KnowsOpen, IsBehind, FitsChannel}
use Rattle.tunnel_channel.specs.Follows.{is_told_dropped, cemi_in, taken_in, acknowledgement_in, answer_in, Ends, Stays, change_told}
use Rattle.tunnel_channel.proofs.Times.{same_awaited, same_free}
use Rattle.tunnel_channel.proofs.Readings.{Readings, readings, KnowsBy, knows_by, knows, after_got, got_readings}
use Rattle.tunnel_channel.proofs.Opened.{ended_by}

-- ---- an end with a channel, whose end was asked for or not

abbrev pub up : Bool → OpenEnd → ClientEnd
up false e = Open e
up true e = Leaving e

pub fits_up : (left : Bool) (e : OpenEnd) (now : ℕ) (ch : ClientChannel) → KnowsOpen e left ch ⊎ IsBehind e now ch → FitsChannel (up left e) now ch
fits_up true e now ch k = k
fits_up false e now ch k = k

pub with_up : (f : OpenEnd → OpenEnd) (left : Bool) (e : OpenEnd) → with_channel f (up left e) ≡ up left (f e)
with_up f true e = refl
with_up f false e = refl

pub lost_up : (left : Bool) (e : OpenEnd) → lost (up left e) ≡ JustLost e.channel
lost_up true e = refl
lost_up false e = refl

abbrev pub told_up : Bool → OpenEnd → ℕ → IpFrame → ChannelTook
told_up left e now ConnectRequest = took.Dropped
told_up left e now (ConnectResponse ch status tunnel) = took.Dropped
told_up left e now (StateRequest ch) = took.Dropped
told_up left e now (StateResponse ch status) = open_took e now (StateResponse ch status)
told_up left e now (DisconnectRequest ch) = open_took e now (DisconnectRequest ch)
told_up left e now (DisconnectResponse ch status) = cond (left && (ch == e.channel)) (took.Gone None) took.Dropped
told_up left e now (TunnellingRequest ch number cemi) = open_took e now (TunnellingRequest ch number cemi)
told_up left e now (TunnellingAck ch number status) = open_took e now (TunnellingAck ch number status)

pub took_up : (left : Bool) (e : OpenEnd) (now : ℕ) (frame : IpFrame) → took_in_time (up left e) frame now ≡ told_up left e now frame
took_up true e now ConnectRequest = refl
took_up true e now (ConnectResponse ch status tunnel) = refl
took_up true e now (StateRequest ch) = refl
took_up true e now (StateResponse ch status) = refl
took_up true e now (DisconnectRequest ch) = refl
took_up true e now (DisconnectResponse ch status) = refl
took_up true e now (TunnellingRequest ch number cemi) = refl
took_up true e now (TunnellingAck ch number status) = refl
took_up false e now ConnectRequest = refl
took_up false e now (ConnectResponse ch status tunnel) = refl
took_up false e now (StateRequest ch) = refl
took_up false e now (StateResponse ch status) = refl
took_up false e now (DisconnectRequest ch) = refl
took_up false e now (DisconnectResponse ch status) = refl
took_up false e now (TunnellingRequest ch number cemi) = refl
took_up false e now (TunnellingAck ch number status) = refl

-- ---- a row: the answer is what the record says

-- an acknowledgement is called for and given
pub record IsAck (told : ChannelTook) (ends : Bool) (c : ℕ) (l : List Entry) (frame : IpFrame) : Type 0 where
  pub ch : ℕ
  pub number : ℕ
  pub gives : answer_in told ≡ Some (Written (TunnellingAck ch number 0))
  pub called : calls_for c l (request_in (Some frame)) ≡ Some (TunnellingAck ch number 0)
  pub stays : ends ≡ false

-- a disconnect request is answered
pub record IsEnd (told : ChannelTook) (after : ClientEnd) (ends : Bool) (c : ℕ) (frame : IpFrame) : Type 0 where
  pub ch : ℕ
  pub gives : answer_in told ≡ Some (Written (DisconnectResponse ch 0))
  pub its_own : ch ≡ c
  pub asked : frame ≡ DisconnectRequest ch
  pub closed : ends ≡ true
  pub idle : after ≡ Idle

pub record Row (after : ClientEnd) (told : ChannelTook) (ends : Bool) (c : ℕ) (l : List Entry) (octets : List ℕ) (frame : IpFrame) (now : ℕ) : Type 0 where
  pub fits : FitsChannel after now (cond ends (seen.Lost c) (seen.Open c (entry (Got octets) now ∷ l)))
  pub tells : change_told told ≡ cond ends Ends Stays
  pub drops : drops_in c l now frame ≡ is_told_dropped told
  pub gives : taken_in (cond ends Loses (deed_of Takes (delivers c (expected c l) (request_in (Some frame))) (request_in (Some frame)))) ≡ cemi_in told
  pub acknowledges : option_map Written (cond ends None (calls_for c l (request_in (Some frame)))) ≡ acknowledgement_in told
  pub reply : (answer_in told ≡ None) ⊎ (IsAck told ends c l frame ⊎ IsEnd told after ends c frame)

abbrev pub RowAt : Bool → ℕ → List Entry → List ℕ → IpFrame → ℕ → Type 0
RowAt left c l octets frame now =
    Row (after_took (up left (end_of c l)) frame now (told_up left (end_of c l) now frame)) (told_up left (end_of c l) now frame) (ended_by c (readings c l) now frame) c l octets frame now

-- the channel stays open, and this end knows so much
stays : (e : OpenEnd) (left : Bool) (c : ℕ) (l : List Entry) (octets : List ℕ) (frame : IpFrame) (now : ℕ) (r : Readings) → HasBegun l → datagram_in octets ≡ Some frame
    → after_got c frame now (readings c l) ≡ r → KnowsBy e left c r → FitsChannel (up left e) now (seen.Open c (entry (Got octets) now ∷ l))
stays e left c l octets frame now r b is same k =
    fits_up left e now (seen.Open c (entry (Got octets) now ∷ l)) (inl (record { c = c; l = entry (Got octets) now ∷ l; is = refl; knows = knows e left c (entry (Got octets) now) l r (got_readings c l octets frame now b is ∙ same) k }))

unmoved : (left : Bool) (c : ℕ) (l : List Entry) (octets : List ℕ) (frame : IpFrame) (now : ℕ) → Knows (end_of c l) left c l → datagram_in octets ≡ Some frame
    → after_got c frame now (readings c l) ≡ readings c l → FitsChannel (up left (end_of c l)) now (seen.Open c (entry (Got octets) now ∷ l))
unmoved left c l octets frame now k is same = stays (end_of c l) left c l octets frame now (readings c l) k.begun is same (knows_by (end_of c l) left c l k)

module _ (left : Bool) (c : ℕ) (l : List Entry) (octets : List ℕ) (now : ℕ) (k : Knows (end_of c l) left c l) where
  row_connect : datagram_in octets ≡ Some ConnectRequest → RowAt left c l octets ConnectRequest now
  unfolding after_took
  row_connect is = record { fits = unmoved left c l octets ConnectRequest now k is refl; tells = refl; drops = refl; gives = refl; acknowledges = refl; reply = inl refl }

  row_response : (ch status : ℕ) (tunnel : Option IndAddr) → datagram_in octets ≡ Some (ConnectResponse ch status tunnel) → RowAt left c l octets (ConnectResponse ch status tunnel) now
  unfolding after_took
  row_response ch status tunnel is = record { fits = unmoved left c l octets (ConnectResponse ch status tunnel) now k is refl; tells = refl; drops = refl; gives = refl; acknowledges = refl; reply = inl refl }

  row_beat : (ch : ℕ) → datagram_in octets ≡ Some (StateRequest ch) → RowAt left c l octets (StateRequest ch) now
  unfolding after_took
  row_beat ch is = record { fits = unmoved left c l octets (StateRequest ch) now k is refl; tells = refl; drops = refl; gives = refl; acknowledges = refl; reply = inl refl }

  row_state : (ch status : ℕ) → datagram_in octets ≡ Some (StateResponse ch status) → (t z : Bool) → ((ch == c) && lapse.is_awaited (beats c l) now) ≡ t → (status == 0) ≡ z
      → RowAt left c l octets (StateResponse ch status) now
  unfolding after_took
  row_state ch status is true true q z = rw (same_awaited (beats c l) (end_of c l).beat now k.heartbeats, q, z) (record {
    fits = rw (with_up answered left (end_of c l)) (stays (answered (end_of c l)) left c l octets (StateResponse ch status) now (record (readings c l) { unanswered = [] }) k.begun is (rw q refl)
        (record { is = refl; sendings = k.sendings; heartbeats = tt; asked = k.asked }));
    tells = refl;
    drops = rw q refl;
    gives = refl;
    acknowledges = refl;
    reply = inl refl;
  })
  row_state ch status is true false q z = rw (same_awaited (beats c l) (end_of c l).beat now k.heartbeats, q, z) (record {
    fits = rw (lost_up left (end_of c l)) refl;
    tells = refl;
    drops = rw q refl;
    gives = refl;
    acknowledges = refl;
    reply = inl refl;
  })
  row_state ch status is false z q y = rw (same_awaited (beats c l) (end_of c l).beat now k.heartbeats, q) (record {
    fits = unmoved left c l octets (StateResponse ch status) now k is (rw q refl);
    tells = refl;
    drops = rw q refl;
    gives = refl;
    acknowledges = refl;
    reply = inl refl;
  })

  row_end : (ch : ℕ) → datagram_in octets ≡ Some (DisconnectRequest ch) → (t : Bool) → (ch == c) ≡ t → RowAt left c l octets (DisconnectRequest ch) now
  unfolding after_took
  row_end ch is true q = rw q (record {
    fits = tt;
    tells = refl;
    drops = rw q refl;
    gives = refl;
    acknowledges = refl;
    reply = inr (inr (record { ch = ch; gives = refl; its_own = grind (arith, nat_tests); asked = refl; closed = refl; idle = refl }));
  })
  row_end ch is false q = rw q (record { fits = unmoved left c l octets (DisconnectRequest ch) now k is refl; tells = refl; drops = rw q refl; gives = refl; acknowledges = refl; reply = inl refl })

  left_open : (ch status : ℕ) → datagram_in octets ≡ Some (DisconnectResponse ch status) → (z : Bool) → left ≡ z → FitsChannel (up z (end_of c l)) now (seen.Open c (entry (Got octets) now ∷ l))
  left_open ch status is z y = subst (λ (b : Bool). FitsChannel (up b (end_of c l)) now (seen.Open c (entry (Got octets) now ∷ l))) y (unmoved left c l octets (DisconnectResponse ch status) now k is refl)

  row_left : (ch status : ℕ) → datagram_in octets ≡ Some (DisconnectResponse ch status) → (t z : Bool) → (ch == c) ≡ t → has_left c l ≡ z → left ≡ z → RowAt left c l octets (DisconnectResponse ch status) now
  unfolding after_took
  row_left ch status is true true q h y = rw (q, h, y) (record { fits = tt; tells = refl; drops = rw (q, h) refl; gives = refl; acknowledges = refl; reply = inl refl })
  row_left ch status is true false q h y = rw (q, h, y) (record { fits = left_open ch status is _ y; tells = refl; drops = rw (q, h) refl; gives = refl; acknowledges = refl; reply = inl refl })
  row_left ch status is false true q h y = rw (q, h, y) (record { fits = left_open ch status is _ y; tells = refl; drops = rw q refl; gives = refl; acknowledges = refl; reply = inl refl })
  row_left ch status is false false q h y = rw (q, h, y) (record { fits = left_open ch status is _ y; tells = refl; drops = rw q refl; gives = refl; acknowledges = refl; reply = inl refl })

  row_request : (ch number : ℕ) (cemi : List ℕ) → datagram_in octets ≡ Some (TunnellingRequest ch number cemi) → (t n b : Bool) → (ch == c) ≡ t → (number == expected c l) ≡ n → (next_number number == expected c l) ≡ b
      → RowAt left c l octets (TunnellingRequest ch number cemi) now
  unfolding after_took
  row_request ch number cemi is true true b q n p = rw (q, n) (record {
    fits = rw (with_up delivered left (end_of c l)) (stays (delivered (end_of c l)) left c l octets (TunnellingRequest ch number cemi) now (record (readings c l) { expects = next_number (expected c l) }) k.begun is (rw (q, n) refl)
        (record { is = refl; sendings = k.sendings; heartbeats = k.heartbeats; asked = k.asked }));
    tells = refl;
    drops = rw (q, n) refl;
    gives = rw (q, n) refl;
    acknowledges = rw (q, n) refl;
    reply = inr (inl (record { ch = ch; number = number; gives = refl; called = rw (q, n) refl; stays = refl }));
  })
  row_request ch number cemi is true false true q n p = rw (q, n, p) (record {
    fits = unmoved left c l octets (TunnellingRequest ch number cemi) now k is (rw (q, n) refl);
    tells = refl;
    drops = rw (q, n, p) refl;
    gives = rw (q, n) refl;
    acknowledges = rw (q, n, p) refl;
    reply = inr (inl (record { ch = ch; number = number; gives = refl; called = rw (q, n, p) refl; stays = refl }));
  })
  row_request ch number cemi is true false false q n p = rw (q, n, p) (record {
    fits = unmoved left c l octets (TunnellingRequest ch number cemi) now k is (rw (q, n) refl);
    tells = refl;
    drops = rw (q, n, p) refl;
    gives = rw (q, n) refl;
    acknowledges = rw (q, n, p) refl;
    reply = inl refl;
  })
  row_request ch number cemi is false n b q m p = rw q (record {
    fits = unmoved left c l octets (TunnellingRequest ch number cemi) now k is (rw q refl);
    tells = refl;
    drops = rw q refl;
    gives = rw q refl;
    acknowledges = rw q refl;
    reply = inl refl;
  })

  row_ack : (ch number status : ℕ) → datagram_in octets ≡ Some (TunnellingAck ch number status) → (t : Bool) → (((ch == c) && (number == (own c l).number)) && ((status == 0) && not (is_none (own c l).sent))) ≡ t
      → RowAt left c l octets (TunnellingAck ch number status) now
  unfolding after_took
  row_ack ch number status is true q = rw (same_free (own c l).sent (last_request c l), q) (record {
    fits = rw (with_up acknowledged left (end_of c l)) (stays (acknowledged (end_of c l)) left c l octets (TunnellingAck ch number status) now (record (readings c l) { owns = record { number = next_number (own c l).number; sent = [] } }) k.begun is (rw q refl)
        (record { is = refl; sendings = tt; heartbeats = k.heartbeats; asked = k.asked }));
    tells = refl;
    drops = rw q refl;
    gives = refl;
    acknowledges = refl;
    reply = inl refl;
  })
  row_ack ch number status is false q = rw (same_free (own c l).sent (last_request c l), q) (record {
    fits = unmoved left c l octets (TunnellingAck ch number status) now k is (rw q refl);
    tells = refl;
    drops = rw q refl;
    gives = refl;
    acknowledges = refl;
    reply = inl refl;
  })

  pub row : (frame : IpFrame) → datagram_in octets ≡ Some frame → RowAt left c l octets frame now
  row ConnectRequest is = row_connect is
  row (ConnectResponse ch status tunnel) is = row_response ch status tunnel is
  row (StateRequest ch) is = row_beat ch is
  row (StateResponse ch status) is = row_state ch status is _ _ refl refl
  row (DisconnectRequest ch) is = row_end ch is _ refl
  row (DisconnectResponse ch status) is = row_left ch status is _ _ refl refl (sym k.asked)
  row (TunnellingRequest ch number cemi) is = row_request ch number cemi is _ _ _ refl refl refl
  row (TunnellingAck ch number status) is = row_ack ch number status is _ refl
