-- After a poll the record has come to its time, and a sending at that time leaves it so.
use Rattle.std.proofs.Common.{◌≡◌, ℕ, List, [], ◌∷◌, Bool, true, false, cond, Option, Some, None, refl, sym, ◌∙◌, arith}
use Rattle.std.specs.Prelude.{◌&&◌, ◌||◌, ◌==◌}
use Rattle.std.proofs.lemmas.Bool.Decides.{nat_tests}
use Rattle.knx_model.specs.declared.address.IndAddr.{IndAddr}
use Rattle.knx_model.specs.declared.frames.ip.IpFrame.{IpFrame}
use Rattle.knx_model.specs.declared.frames.ip.IpFrame.TheVariants.{ConnectRequest, ConnectResponse, StateRequest, StateResponse, DisconnectRequest, DisconnectResponse, TunnellingRequest, TunnellingAck}
use Rattle.knx_model.specs.Connection.{has_passed}
use Rattle.line_model.specs.Gateway.{acknowledgement_wait}
use Rattle.line_model.specs.Reading.{datagram_in, is_connect_request, request_in, ack_in, state_response_in}
use Rattle.line_model.specs.Record.{Item, Put, Renewed, Got, Quiet, Entry, entry, is_poll}
use Rattle.line_model.specs.ChannelLost.{answer_wait, confirmation_wait, expected, own, acknowledged, confirmed, last_frame, beats, acknowledges, confirms, answers_beat, is_request, is_new_request, is_beat, is_given_up, is_unconfirmed, is_dead, has_lapsed, is_lost}
use Rattle.line_model.specs.ClientView as seen
use Rattle.line_model.specs.ClientView.{ClientChannel, channel, after_entry, answered, sought_got}
use Rattle.tunnel_channel.specs.Follows.{IsCurrent, PollsAreCurrent, SendingsStayCurrent}

-- ---- no cause has passed

passed_not : (wait now : ℕ) → (0 == wait) ≡ false → has_passed wait now now ≡ false
passed_not wait now h = grind (arith, nat_tests)

none_of : (a u b : Bool) → a ≡ false → u ≡ false → b ≡ false → (a || u || b) ≡ false
none_of a u b p q s = rw (p, q, s) refl

first_not : (a u b : Bool) → (a || u || b) ≡ false → a ≡ false
first_not true u b h = h
first_not false u b h = refl

second_not : (a u b : Bool) → (a || u || b) ≡ false → u ≡ false
second_not true u b h = absurd (cc)
second_not false true b h = h
second_not false false b h = refl

third_not : (a u b : Bool) → (a || u || b) ≡ false → b ≡ false
third_not true u b h = absurd (cc)
third_not false true b h = absurd (cc)
third_not false false b h = h

and_not : (a : Bool) → (a && false) ≡ false
and_not true = refl
and_not false = refl

-- ---- after a poll

module _ (c : ℕ) (l : List Entry) (octets : List ℕ) (now : ℕ) where
  got_given_up : (t : Bool) → acknowledges c (own c l) (ack_in (datagram_in octets)) ≡ t → is_given_up (own c l).sent now ≡ false → is_given_up (own c (entry (Got octets) now ∷ l)).sent now ≡ false
  got_given_up true q h = rw q refl
  got_given_up false q h = rw q h

  confirmed_not : (o : Option ℕ) → is_unconfirmed o true now ≡ false
  confirmed_not None = refl
  confirmed_not (Some since) = refl

  got_confirmed : (t f : Bool) (b : Bool) → acknowledges c (own c l) (ack_in (datagram_in octets)) ≡ t → confirms c (expected c l) (last_frame c l) (request_in (datagram_in octets)) ≡ f → confirmed c l ≡ b
      → is_unconfirmed (acknowledged c l) (confirmed c l) now ≡ false → is_unconfirmed (acknowledged c (entry (Got octets) now ∷ l)) (confirmed c (entry (Got octets) now ∷ l)) now ≡ false
  got_confirmed true true b q f s h = rw (q, f) refl
  got_confirmed true false true q f s h = rw (q, f, s) refl
  got_confirmed true false false q f s h = rw (q, f, s) (passed_not confirmation_wait now refl)
  got_confirmed false true b q f s h = rw (q, f) (confirmed_not (acknowledged c l))
  got_confirmed false false b q f s h = rw (q, f) h

  got_dead : (t : Bool) → answers_beat c (beats c l) now (state_response_in (datagram_in octets)) ≡ t → is_dead (beats c l) now ≡ false → is_dead (beats c (entry (Got octets) now ∷ l)) now ≡ false
  got_dead true q h = rw q refl
  got_dead false q h = rw q h

  got_unlapsed : has_lapsed c l now ≡ false → has_lapsed c (entry (Got octets) now ∷ l) now ≡ false
  got_unlapsed h =
      let g : Bool = is_given_up (own c l).sent now in
      let u : Bool = is_unconfirmed (acknowledged c l) (confirmed c l) now in
      let d : Bool = is_dead (beats c l) now in
      let m : List Entry = entry (Got octets) now ∷ l in
      none_of (is_given_up (own c m).sent now) (is_unconfirmed (acknowledged c m) (confirmed c m) now) (is_dead (beats c m) now)
      (got_given_up _ refl (first_not g u d h)) (got_confirmed _ _ _ refl refl refl (second_not g u d h)) (got_dead _ refl (third_not g u d h))

-- a channel that just came up
new_unlapsed : (c : ℕ) (octets : List ℕ) (status now : ℕ) (tunnel : Option IndAddr) → datagram_in octets ≡ Some (ConnectResponse c status tunnel) → has_lapsed c (entry (Got octets) now ∷ []) now ≡ false
new_unlapsed c octets status now tunnel is = rw is refl

open_polled : (c : ℕ) (l : List Entry) (what : Item) (now : ℕ) → is_poll what ≡ true → (t : Bool) → has_lapsed c l now ≡ t → (b : Bool) → is_lost c l (entry what now) ≡ b → IsCurrent (cond b (seen.Lost c) (seen.Open c (entry what now ∷ l))) now
open_polled c l what now p t q true b = tt
open_polled c l (Put octets) now p t q false b = absurd (cc)
open_polled c l Renewed now p t q false b = absurd (cc)
open_polled c l (Got octets) now p true q false b = absurd (let h : (true ≡ false) = sym (rw q refl) ∙ b in cc)
open_polled c l (Got octets) now p false q false b = got_unlapsed c l octets now q
open_polled c l Quiet now p true q false b = absurd (let h : (true ≡ false) = sym (rw q refl) ∙ b in cc)
open_polled c l Quiet now p false q false b = q

response_polled : (ch status : ℕ) (octets : List ℕ) (now : ℕ) (tunnel : Option IndAddr) → datagram_in octets ≡ Some (ConnectResponse ch status tunnel) → (t : Bool) → (status == 0) ≡ t → IsCurrent (answered ch status (entry (Got octets) now)) now
response_polled ch status octets now tunnel is true q = rw q (new_unlapsed ch octets status now tunnel is)
response_polled ch status octets now tunnel is false q = rw q tt

sought_frame : (since now : ℕ) (octets : List ℕ) (frame : Option IpFrame) → datagram_in octets ≡ frame → has_passed answer_wait since now ≡ false → IsCurrent (sought_got since (entry (Got octets) now) frame) now
sought_frame since now octets None is h = h
sought_frame since now octets (Some ConnectRequest) is h = h
sought_frame since now octets (Some (ConnectResponse ch status tunnel)) is h = response_polled ch status octets now tunnel is (status == 0) refl
sought_frame since now octets (Some (StateRequest ch)) is h = h
sought_frame since now octets (Some (StateResponse ch status)) is h = h
sought_frame since now octets (Some (DisconnectRequest ch)) is h = h
sought_frame since now octets (Some (DisconnectResponse ch status)) is h = h
sought_frame since now octets (Some (TunnellingRequest ch number cemi)) is h = h
sought_frame since now octets (Some (TunnellingAck ch number status)) is h = h

sought_polled : (since : ℕ) (what : Item) (now : ℕ) → is_poll what ≡ true → (t : Bool) → has_passed answer_wait since now ≡ t → IsCurrent (after_entry (seen.Sought since) (entry what now)) now
unfolding after_entry
sought_polled since (Put octets) now p t q = absurd (cc)
sought_polled since Renewed now p t q = absurd (cc)
sought_polled since (Got octets) now p true q = rw q tt
sought_polled since (Got octets) now p false q = rw q (sought_frame since now octets (datagram_in octets) refl q)
sought_polled since Quiet now p true q = rw q tt
sought_polled since Quiet now p false q = rw q q

open_current : (c : ℕ) (l : List Entry) (what : Item) (now : ℕ) → is_poll what ≡ true → IsCurrent (after_entry (seen.Open c l) (entry what now)) now
unfolding after_entry
open_current c l (Put octets) now p = absurd (cc)
open_current c l Renewed now p = absurd (cc)
open_current c l (Got octets) now p = open_polled c l (Got octets) now p (has_lapsed c l now) refl (is_lost c l (entry (Got octets) now)) refl
open_current c l Quiet now p = open_polled c l Quiet now p (has_lapsed c l now) refl (is_lost c l (entry Quiet now)) refl

polled : (ch : ClientChannel) (what : Item) (now : ℕ) → is_poll what ≡ true → IsCurrent (after_entry ch (entry what now)) now
unfolding after_entry
polled (seen.Sought since) what now p = sought_polled since what now p (has_passed answer_wait since now) refl
polled (seen.Open c l) what now p = open_current c l what now p
polled ch (Put octets) now p = absurd (cc)
polled ch Renewed now p = absurd (cc)
polled seen.Fresh (Got octets) now p = tt
polled seen.Fresh Quiet now p = tt
polled (seen.RefusedBy status) (Got octets) now p = tt
polled (seen.RefusedBy status) Quiet now p = tt
polled seen.Unanswered (Got octets) now p = tt
polled seen.Unanswered Quiet now p = tt
polled (seen.Lost c) (Got octets) now p = tt
polled (seen.Lost c) Quiet now p = tt

pub polls_are_current : PollsAreCurrent
polls_are_current r what now p = polled (channel r) what now p

-- ---- after a sending

given_up_not : (s : List ℕ) (now : ℕ) → is_given_up (now ∷ s) now ≡ false
given_up_not [] now = refl
given_up_not (t ∷ ts) now = rw (passed_not acknowledgement_wait now refl) (and_not (has_passed acknowledgement_wait t now))

dead_not : (b : List ℕ) (now : ℕ) → is_dead (now ∷ b) now ≡ false
dead_not [] now = refl
dead_not (t ∷ []) now = refl
dead_not (s ∷ t ∷ ts) now = rw (passed_not answer_wait now refl) (and_not (has_passed answer_wait t s && has_passed answer_wait s now))

module _ (c : ℕ) (l : List Entry) (octets : List ℕ) (now : ℕ) where
  put_given_up : (t : Bool) → is_request c (request_in (datagram_in octets)) ≡ t → is_given_up (own c l).sent now ≡ false → is_given_up (own c (entry (Put octets) now ∷ l)).sent now ≡ false
  put_given_up true q h = rw q (given_up_not (own c l).sent now)
  put_given_up false q h = rw q h

  put_confirmed : (t : Bool) → is_new_request c l (entry (Put octets) now) ≡ t → is_unconfirmed (acknowledged c l) (confirmed c l) now ≡ false
      → is_unconfirmed (acknowledged c (entry (Put octets) now ∷ l)) (confirmed c (entry (Put octets) now ∷ l)) now ≡ false
  put_confirmed true q h = rw q refl
  put_confirmed false q h = rw q h

  put_dead : (t : Bool) → is_beat c (entry (Put octets) now) ≡ t → is_dead (beats c l) now ≡ false → is_dead (beats c (entry (Put octets) now ∷ l)) now ≡ false
  put_dead true q h = rw q (dead_not (beats c l) now)
  put_dead false q h = rw q h

  put_unlapsed : has_lapsed c l now ≡ false → has_lapsed c (entry (Put octets) now ∷ l) now ≡ false
  put_unlapsed h =
      let g : Bool = is_given_up (own c l).sent now in
      let u : Bool = is_unconfirmed (acknowledged c l) (confirmed c l) now in
      let d : Bool = is_dead (beats c l) now in
      let m : List Entry = entry (Put octets) now ∷ l in
      none_of (is_given_up (own c m).sent now) (is_unconfirmed (acknowledged c m) (confirmed c m) now) (is_dead (beats c m) now)
      (put_given_up _ refl (first_not g u d h)) (put_confirmed _ refl (second_not g u d h)) (put_dead _ refl (third_not g u d h))

fresh_sent : (octets : List ℕ) (now : ℕ) (t : Bool) → is_connect_request (datagram_in octets) ≡ t → IsCurrent (after_entry seen.Fresh (entry (Put octets) now)) now
unfolding after_entry
fresh_sent octets now true q = rw q (passed_not answer_wait now refl)
fresh_sent octets now false q = rw q tt

sent : (ch : ClientChannel) (octets : List ℕ) (now : ℕ) → IsCurrent ch now → IsCurrent (after_entry ch (entry (Put octets) now)) now
unfolding after_entry
sent seen.Fresh octets now h = fresh_sent octets now (is_connect_request (datagram_in octets)) refl
sent (seen.Sought since) octets now h = h
sent (seen.RefusedBy status) octets now h = tt
sent seen.Unanswered octets now h = tt
sent (seen.Open c l) octets now h = put_unlapsed c l octets now h
sent (seen.Lost c) octets now h = tt

pub sendings_stay_current : SendingsStayCurrent
sendings_stay_current r octets now h = sent (channel r) octets now h
