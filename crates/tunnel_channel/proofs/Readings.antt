-- The readings of an open channel's entries, as one value, and what an entry makes of them.
use Rattle.std.proofs.Common.{◌≡◌, ℕ, List, [], ◌∷◌, length, Bool, true, false, Option, Some, None, refl}
use Rattle.std.specs.Prelude.{if◌then◌else◌}
use Rattle.knx_model.specs.declared.frames.ip.IpFrame.{IpFrame}
use Rattle.knx_model.specs.declared.frames.ip.IpFrame.TheVariants.{ConnectRequest, ConnectResponse, StateRequest, StateResponse, DisconnectRequest, DisconnectResponse, TunnellingRequest, TunnellingAck}
use Rattle.line_model.specs.Gateway.{next_number}
use Rattle.line_model.specs.Reading.{datagram_in}
use Rattle.line_model.specs.Record.{Item, Put, Renewed, Got, Quiet, Entry, entry, got_in, is_poll}
use Rattle.line_model.specs.ChannelLost.{Own, expected, own, beats, has_left, delivers, acknowledges, answers_beat}
use Rattle.line_model.specs.Renews.{last_beat}
use Rattle.line_model.specs.Sendings.{last_request}
use Rattle.line_model.specs.ClientEnd.{OpenEnd}
use Rattle.tunnel_channel.specs.Fits.{outstanding_of, IsSentRightly, IsBeatenRightly, HasBegun, Knows}

pub record Readings : Type 0 where
  pub expects : ℕ
  pub owns : Own
  pub last : Option (List ℕ)
  pub unanswered : List ℕ
  pub beat : ℕ
  pub left : Bool

abbrev pub readings : ℕ → List Entry → Readings
readings c l = record { expects = expected c l; owns = own c l; last = last_request c l; unanswered = beats c l; beat = last_beat c l; left = has_left c l }

abbrev pub end_by : ℕ → Readings → OpenEnd
end_by c r = record { channel = c; expected = r.expects; number = r.owns.number; request = outstanding_of r.owns.sent r.last; unanswered = length r.unanswered; beat = r.beat }

pub record KnowsBy (e : OpenEnd) (left : Bool) (c : ℕ) (r : Readings) : Type 0 where
  pub is : e ≡ end_by c r
  pub sendings : IsSentRightly c r.owns.number r.owns.sent r.last
  pub heartbeats : IsBeatenRightly r.unanswered r.beat
  pub asked : r.left ≡ left

pub knows_by : (e : OpenEnd) (left : Bool) (c : ℕ) (l : List Entry) → Knows e left c l → KnowsBy e left c (readings c l)
knows_by e left c l k = record { is = k.is; sendings = k.sendings; heartbeats = k.heartbeats; asked = k.asked }

known : (e : OpenEnd) (left : Bool) (c : ℕ) (l : List Entry) → HasBegun l → KnowsBy e left c (readings c l) → Knows e left c l
known e left c l b k = record { begun = b; is = k.is; sendings = k.sendings; heartbeats = k.heartbeats; asked = k.asked }

pub knows : (e : OpenEnd) (left : Bool) (c : ℕ) (x : Entry) (l : List Entry) (r : Readings) → readings c (x ∷ l) ≡ r → KnowsBy e left c r → Knows e left c (x ∷ l)
knows e left c x l r is k = known e left c (x ∷ l) tt (rw is k)

-- ---- what was got

abbrev pub after_got : ℕ → IpFrame → ℕ → Readings → Readings
after_got c ConnectRequest now r = r
after_got c (ConnectResponse ch status tunnel) now r = r
after_got c (StateRequest ch) now r = r
after_got c (StateResponse ch status) now r =
    if answers_beat c r.unanswered now (Some (record { channel = ch; status = status })) then record r { unanswered = [] } else r
after_got c (DisconnectRequest ch) now r = r
after_got c (DisconnectResponse ch status) now r = r
after_got c (TunnellingRequest ch number cemi) now r =
    if delivers c r.expects (Some (record { channel = ch; number = number; cemi = cemi })) then record r { expects = next_number r.expects } else r
after_got c (TunnellingAck ch number status) now r =
    if acknowledges c r.owns (Some (record { channel = ch; number = number; status = status })) then record r { owns = record { number = next_number r.owns.number; sent = [] } } else r

abbrev pub GotReadings : ℕ → List Entry → List ℕ → IpFrame → ℕ → Type 0
GotReadings c l octets frame now = readings c (entry (Got octets) now ∷ l) ≡ after_got c frame now (readings c l)

got_state : (c : ℕ) (y : Entry) (l : List Entry) (octets : List ℕ) (ch status now : ℕ) → datagram_in octets ≡ Some (StateResponse ch status)
    → (t : Bool) → answers_beat c (beats c (y ∷ l)) now (Some (record { channel = ch; status = status })) ≡ t → GotReadings c (y ∷ l) octets (StateResponse ch status) now
got_state c y l octets ch status now is true q = rw (is, q) refl
got_state c y l octets ch status now is false q = rw (is, q) refl

got_request : (c : ℕ) (y : Entry) (l : List Entry) (octets : List ℕ) (ch number : ℕ) (cemi : List ℕ) (now : ℕ) → datagram_in octets ≡ Some (TunnellingRequest ch number cemi)
    → (t : Bool) → delivers c (expected c (y ∷ l)) (Some (record { channel = ch; number = number; cemi = cemi })) ≡ t → GotReadings c (y ∷ l) octets (TunnellingRequest ch number cemi) now
got_request c y l octets ch number cemi now is true q = rw (is, q) refl
got_request c y l octets ch number cemi now is false q = rw (is, q) refl

got_ack : (c : ℕ) (y : Entry) (l : List Entry) (octets : List ℕ) (ch number status now : ℕ) → datagram_in octets ≡ Some (TunnellingAck ch number status)
    → (t : Bool) → acknowledges c (own c (y ∷ l)) (Some (record { channel = ch; number = number; status = status })) ≡ t → GotReadings c (y ∷ l) octets (TunnellingAck ch number status) now
got_ack c y l octets ch number status now is true q = rw (is, q) refl
got_ack c y l octets ch number status now is false q = rw (is, q) refl

pub got_readings : (c : ℕ) (l : List Entry) (octets : List ℕ) (frame : IpFrame) (now : ℕ) → HasBegun l → datagram_in octets ≡ Some frame → GotReadings c l octets frame now
got_readings c [] octets frame now b is = absurd b
got_readings c (y ∷ l) octets ConnectRequest now b is = rw is refl
got_readings c (y ∷ l) octets (ConnectResponse ch status tunnel) now b is = rw is refl
got_readings c (y ∷ l) octets (StateRequest ch) now b is = rw is refl
got_readings c (y ∷ l) octets (StateResponse ch status) now b is = got_state c y l octets ch status now is _ refl
got_readings c (y ∷ l) octets (DisconnectRequest ch) now b is = rw is refl
got_readings c (y ∷ l) octets (DisconnectResponse ch status) now b is = rw is refl
got_readings c (y ∷ l) octets (TunnellingRequest ch number cemi) now b is = got_request c y l octets ch number cemi now is _ refl
got_readings c (y ∷ l) octets (TunnellingAck ch number status) now b is = got_ack c y l octets ch number status now is _ refl

-- a quiet wait, or a datagram that doesn't read
pub quiet_readings : (c : ℕ) (l : List Entry) (what : Item) (now : ℕ) → HasBegun l → is_poll what ≡ true → got_in what ≡ None → readings c (entry what now ∷ l) ≡ readings c l
quiet_readings c [] what now b p n = absurd b
quiet_readings c (y ∷ l) (Put octets) now b p n = absurd (cc)
quiet_readings c (y ∷ l) Renewed now b p n = absurd (cc)
quiet_readings c (y ∷ l) (Got octets) now b p n = rw n refl
quiet_readings c (y ∷ l) Quiet now b p n = refl
