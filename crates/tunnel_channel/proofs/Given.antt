-- What this end gives to be sent is what the client may send, and leaves it knowing what the record says.
use Rattle.std.proofs.Common.{◌≡◌, ℕ, inl, inr, List, [], ◌∷◌, length, Bool, true, false, Some, refl, sym, ◌∙◌, subst, arith}
use Rattle.std.specs.Prelude.{◌&&◌, ◌==◌, nat_le}
use Rattle.std.proofs.lemmas.Bool.Decides.{nat_tests}
use Rattle.knx_model.specs.declared.frames.ip.IpFrame.TheVariants.{StateRequest, TunnellingRequest}
use Rattle.knx_model.specs.KnxNetIp.{Written}
use Rattle.knx_model.specs.Connection.{has_passed}
use Rattle.line_model.specs.Gateway.{acknowledgement_wait}
use Rattle.line_model.specs.Reading.{datagram_in}
use Rattle.line_model.specs.Record.{Put, Entry, entry}
use Rattle.line_model.specs.ChannelLost.{answer_wait, heartbeat_pause, own, beats}
use Rattle.line_model.specs.ClientView as seen
use Rattle.line_model.specs.ClientView.{ClientChannel, channel, Puts, Nothing, after_entry, deed}
use Rattle.line_model.specs.Renews.{last_beat}
use Rattle.line_model.specs.Sendings.{last_request}
use Rattle.line_model.specs.ClientEnd.{OpenEnd, with_request, repeated, beaten, most_unanswered}
use Rattle.tunnel_channel.specs.Fits.{end_of, IsOutstanding, IsBeatenRightly, Knows, FitsChannel, Fits}
use Rattle.tunnel_channel.specs.Follows.{Sends}
use Rattle.tunnel_channel.proofs.Frames.{beat_read}
use Rattle.tunnel_channel.proofs.Readings.{Readings, readings, KnowsBy, knows}
use Rattle.tunnel_channel.proofs.Rows.{up, fits_up}
use Rattle.tunnel_channel.proofs.Puts.{put_readings, opened_put}

pub same_number : (c : ℕ) → (c == c) ≡ true
same_number c = grind (arith, nat_tests)

-- the channel stays open, and this end knows so much
pub put_fits : (e : OpenEnd) (left : Bool) (c : ℕ) (l r : List Entry) (octets : List ℕ) (now : ℕ) (m : Readings) → channel r ≡ seen.Open c l → readings c (entry (Put octets) now ∷ l) ≡ m → KnowsBy e left c m
    → Fits (up left e) (entry (Put octets) now ∷ r)
put_fits e left c l r octets now m at is k =
    subst (λ (ch : ClientChannel). FitsChannel (up left e) now ch) (sym (opened_put r octets now c l at))
    (fits_up left e now (seen.Open c (entry (Put octets) now ∷ l)) (inl (record { c = c; l = entry (Put octets) now ∷ l; is = refl; knows = knows e left c (entry (Put octets) now) l m is k })))

module _ (left : Bool) (c : ℕ) (l r : List Entry) (now : ℕ) (at : channel r ≡ seen.Open c l) (k : Knows (end_of c l) left c l) where
  -- ---- a request

  pub put_sends : (cemi octets : List ℕ) → datagram_in octets ≡ Some (TunnellingRequest c (own c l).number cemi) → (own c l).sent ≡ [] → octets ≡ Written (TunnellingRequest c (own c l).number cemi)
      → Sends (up left (with_request cemi now (end_of c l))) octets now r
  put_sends cemi octets read free is = record {
    may = rw (read, at) (record { in_it = refl; numbered = refl; one_at_a_time = inl free });
    fits = put_fits (with_request cemi now (end_of c l)) left c l r octets now
        (record (readings c l) { owns = record { number = (own c l).number; sent = now ∷ [] }; last = Some octets }) at
        (put_readings c l octets (TunnellingRequest c (own c l).number cemi) now k.begun read ∙ rw (same_number c, free) refl)
        (record { is = rw (free, ← is) refl; sendings = record { octets = octets; cemi = cemi; is = refl; reads = read }; heartbeats = k.heartbeats; asked = k.asked });
  }

  pub put_deed : (cemi octets : List ℕ) → datagram_in octets ≡ Some (TunnellingRequest c (own c l).number cemi) → (own c l).sent ≡ [] → deed (channel r) (entry (Put octets) now) ≡ Puts cemi
  unfolding deed
  put_deed cemi octets read free = rw (at, read, same_number c, free) refl

  -- ---- the outstanding request once more

  pub repeat_sends : (t : ℕ) (o : IsOutstanding c (own c l).number (last_request c l)) → (own c l).sent ≡ t ∷ [] → has_passed acknowledgement_wait t now ≡ true
      → Sends (up left (repeated now (end_of c l))) o.octets now r
  repeat_sends t o once passed = record {
    may = rw (o.reads, at) (record { in_it = refl; numbered = refl; one_at_a_time = inr (record { due = rw once passed; same = o.is }) });
    fits = put_fits (repeated now (end_of c l)) left c l r o.octets now
        (record (readings c l) { owns = record { number = (own c l).number; sent = now ∷ t ∷ [] } }) at
        (put_readings c l o.octets (TunnellingRequest c (own c l).number o.cemi) now k.begun o.reads ∙ rw (same_number c, once) refl)
        (record { is = refl; sendings = passed; heartbeats = k.heartbeats; asked = k.asked });
  }

  pub repeat_deed : (t : ℕ) (o : IsOutstanding c (own c l).number (last_request c l)) → (own c l).sent ≡ t ∷ [] → deed (channel r) (entry (Put o.octets) now) ≡ Nothing
  unfolding deed
  repeat_deed t o once = rw (at, o.reads, same_number c, once) refl

  -- ---- a heartbeat

  more_beats : (b : List ℕ) (last : ℕ) → IsBeatenRightly b last → has_passed answer_wait last now ≡ true → (nat_le most_unanswered (length b) && has_passed answer_wait last now) ≡ false → IsBeatenRightly (now ∷ b) now
  more_beats [] last h p d = refl
  more_beats (t ∷ []) last h p d = (refl, rw h at p)
  more_beats (s ∷ t ∷ []) last h p d = (refl, rw h.0 at p, h.1)
  more_beats (s ∷ t ∷ u ∷ []) last h p d = absurd (let e : (true ≡ false) = sym p ∙ d in cc)
  more_beats (s ∷ t ∷ u ∷ v ∷ ts) last h p d = absurd h

  pub beat_sends : has_passed heartbeat_pause (last_beat c l) now ≡ true → has_passed answer_wait (last_beat c l) now ≡ true → (nat_le most_unanswered (length (beats c l)) && has_passed answer_wait (last_beat c l) now) ≡ false
      → Sends (up left (beaten now (end_of c l))) (Written (StateRequest c)) now r
  beat_sends due passed alive = record {
    may = rw (beat_read c, at) (record { in_it = refl; due = due });
    fits = put_fits (beaten now (end_of c l)) left c l r (Written (StateRequest c)) now
        (record (readings c l) { unanswered = now ∷ beats c l; beat = now }) at
        (put_readings c l (Written (StateRequest c)) (StateRequest c) now k.begun (beat_read c) ∙ rw (same_number c) refl)
        (record { is = refl; sendings = k.sendings; heartbeats = more_beats (beats c l) (last_beat c l) k.heartbeats passed alive; asked = k.asked });
  }

  pub beat_deed : deed (channel r) (entry (Put (Written (StateRequest c))) now) ≡ Nothing
  unfolding deed
  beat_deed = rw (at, beat_read c) refl
