-- What the client's datagrams make of an open channel's readings.
use Rattle.std.proofs.Common.{◌≡◌, ℕ, inl, inr, List, [], ◌∷◌, Bool, true, false, Some, None, refl, sym, ◌∙◌, subst}
use Rattle.std.specs.Prelude.{◌||◌, ◌==◌, if◌then◌else◌}
use Rattle.knx_model.specs.declared.frames.ip.IpFrame.{IpFrame}
use Rattle.knx_model.specs.declared.frames.ip.IpFrame.TheVariants.{ConnectRequest, ConnectResponse, StateRequest, StateResponse, DisconnectRequest, DisconnectResponse, TunnellingRequest, TunnellingAck}
use Rattle.line_model.specs.Reading.{datagram_in, is_connect_request, request_in}
use Rattle.line_model.specs.Record.{Put, Entry, entry}
use Rattle.line_model.specs.ChannelLost.{is_none}
use Rattle.line_model.specs.ClientView as seen
use Rattle.line_model.specs.ClientView.{ClientChannel, channel, after_entry, Nothing, deed}
use Rattle.line_model.specs.Renews.{RenewsSo}
use Rattle.line_model.specs.ClientEnd.{OpenEnd, ClientEnd, Idle, Seeking, Open, Leaving, JustLost}
use Rattle.tunnel_channel.specs.Fits.{HasBegun, Knows, KnowsOpen, FitsChannel}
use Rattle.tunnel_channel.proofs.Readings.{Readings, readings, knows_by, knows}

abbrev pub after_put : ℕ → List ℕ → IpFrame → ℕ → Readings → Readings
after_put c octets ConnectRequest now r = r
after_put c octets (ConnectResponse ch status tunnel) now r = r
after_put c octets (StateRequest ch) now r = if ch == c then record r { unanswered = now ∷ r.unanswered; beat = now } else r
after_put c octets (StateResponse ch status) now r = r
after_put c octets (DisconnectRequest ch) now r = record r { left = (ch == c) || r.left }
after_put c octets (DisconnectResponse ch status) now r = r
after_put c octets (TunnellingRequest ch number cemi) now r =
    if ch == c then record r { owns = record { number = r.owns.number; sent = now ∷ r.owns.sent }; last = if is_none r.owns.sent then Some octets else r.last } else r
after_put c octets (TunnellingAck ch number status) now r = r

abbrev pub PutReadings : ℕ → List Entry → List ℕ → IpFrame → ℕ → Type 0
PutReadings c l octets frame now = readings c (entry (Put octets) now ∷ l) ≡ after_put c octets frame now (readings c l)

put_beat : (c : ℕ) (y : Entry) (l : List Entry) (octets : List ℕ) (ch now : ℕ) → datagram_in octets ≡ Some (StateRequest ch) → (t : Bool) → (ch == c) ≡ t → PutReadings c (y ∷ l) octets (StateRequest ch) now
put_beat c y l octets ch now is true q = rw (is, q) refl
put_beat c y l octets ch now is false q = rw (is, q) refl

put_request : (c : ℕ) (y : Entry) (l : List Entry) (octets : List ℕ) (ch number : ℕ) (cemi : List ℕ) (now : ℕ) → datagram_in octets ≡ Some (TunnellingRequest ch number cemi) → (t : Bool) → (ch == c) ≡ t
    → PutReadings c (y ∷ l) octets (TunnellingRequest ch number cemi) now
put_request c y l octets ch number cemi now is true q = rw (is, q) refl
put_request c y l octets ch number cemi now is false q = rw (is, q) refl

pub put_readings : (c : ℕ) (l : List Entry) (octets : List ℕ) (frame : IpFrame) (now : ℕ) → HasBegun l → datagram_in octets ≡ Some frame → PutReadings c l octets frame now
put_readings c [] octets frame now b is = absurd b
put_readings c (y ∷ l) octets ConnectRequest now b is = rw is refl
put_readings c (y ∷ l) octets (ConnectResponse ch status tunnel) now b is = rw is refl
put_readings c (y ∷ l) octets (StateRequest ch) now b is = put_beat c y l octets ch now is _ refl
put_readings c (y ∷ l) octets (StateResponse ch status) now b is = rw is refl
put_readings c (y ∷ l) octets (DisconnectRequest ch) now b is = rw is refl
put_readings c (y ∷ l) octets (DisconnectResponse ch status) now b is = rw is refl
put_readings c (y ∷ l) octets (TunnellingRequest ch number cemi) now b is = put_request c y l octets ch number cemi now is _ refl
put_readings c (y ∷ l) octets (TunnellingAck ch number status) now b is = rw is refl

-- an open channel stays open
pub opened_put : (r : List Entry) (octets : List ℕ) (now c : ℕ) (l : List Entry) → channel r ≡ seen.Open c l → channel (entry (Put octets) now ∷ r) ≡ seen.Open c (entry (Put octets) now ∷ l)
unfolding after_entry
opened_put r octets now c l is = rw is refl

-- a lost one stays lost
pub lost_put : (r : List Entry) (octets : List ℕ) (now c : ℕ) → channel r ≡ seen.Lost c → channel (entry (Put octets) now ∷ r) ≡ seen.Lost c
unfolding after_entry
lost_put r octets now c is = rw is refl

-- a datagram that changes no reading leaves what this end knows
pub same_knows : (e : OpenEnd) (left : Bool) (c : ℕ) (l : List Entry) (octets : List ℕ) (frame : IpFrame) (now : ℕ) → datagram_in octets ≡ Some frame → after_put c octets frame now (readings c l) ≡ readings c l
    → Knows e left c l → Knows e left c (entry (Put octets) now ∷ l)
same_knows e left c l octets frame now is same k = knows e left c (entry (Put octets) now) l (readings c l) (put_readings c l octets frame now k.begun is ∙ same) (knows_by e left c l k)

open_moved : (e : OpenEnd) (left : Bool) (c : ℕ) (l more : List Entry) → ((e : OpenEnd) (left : Bool) → Knows e left c l → Knows e left c more) → KnowsOpen e left (seen.Open c l) → KnowsOpen e left (seen.Open c more)
open_moved e left c l more f k =
    let same : (c ≡ k.c) = (let h = k.is in cc) in
    let alike : (l ≡ k.l) = (let h = k.is in cc) in
    record { c = c; l = more; is = refl; knows = f e left (subst (λ (d : ℕ). Knows e left d l) (sym same) (subst (λ (m : List Entry). Knows e left k.c m) (sym alike) k.knows)) }

-- the same of the whole end, in an open channel
pub still_fits : (end : ClientEnd) (t now c : ℕ) (l more : List Entry) → ((e : OpenEnd) (left : Bool) → Knows e left c l → Knows e left c more) → FitsChannel end t (seen.Open c l) → FitsChannel end now (seen.Open c more)
still_fits Idle t now c l more f k = absurd k
still_fits (Seeking since) t now c l more f (inl k) = absurd (cc)
still_fits (Seeking since) t now c l more f (inr k) = absurd (let h = k.unanswered in cc)
still_fits (Open e) t now c l more f (inl k) = inl (open_moved e false c l more f k)
still_fits (Open e) t now c l more f (inr k) = absurd (let h = k.lost in cc)
still_fits (Leaving e) t now c l more f (inl k) = inl (open_moved e true c l more f k)
still_fits (Leaving e) t now c l more f (inr k) = absurd (let h = k.lost in cc)
still_fits (JustLost d) t now c l more f k = absurd (cc)

-- ---- a datagram that is no connect request, and one that is no request

pub renews_other : (r : List Entry) (octets : List ℕ) (frame : IpFrame) (now : ℕ) → datagram_in octets ≡ Some frame → is_connect_request (Some frame) ≡ false → RenewsSo r (entry (Put octets) now)
renews_other r octets frame now is n = record {
  connects = λ h. absurd (let e : (is_connect_request (datagram_in octets) ≡ false) = rw is n in cc);
  leaves = λ h m. absurd (cc);
  tries_left = λ h. absurd (cc);
}

pub put_none : (ch : ClientChannel) (octets : List ℕ) (frame : IpFrame) (now : ℕ) → datagram_in octets ≡ Some frame → request_in (Some frame) ≡ None → deed ch (entry (Put octets) now) ≡ Nothing
unfolding deed
put_none seen.Fresh octets frame now is n = refl
put_none (seen.Sought since) octets frame now is n = refl
put_none (seen.RefusedBy status) octets frame now is n = refl
put_none seen.Unanswered octets frame now is n = refl
put_none (seen.Open c l) octets frame now is n = rw (is, n) refl
put_none (seen.Lost c) octets frame now is n = refl
