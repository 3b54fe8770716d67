-- What a datagram that was got in time makes of the channel: what it did, what it opened, how the tries go on, and that it counts.
use Rattle.std.proofs.Common.{◌≡◌, ◌≢◌, ◌⊎◌, inl, inr, ℕ, List, [], ◌∷◌, Bool, true, false, Option, Some, None, refl, sym, subst, ap, ◌∙◌, arith}
use Rattle.std.specs.Prelude.{◌==◌, suc}
use Rattle.knx_model.specs.declared.address.IndAddr.{IndAddr}
use Rattle.knx_model.specs.declared.frames.ip.IpFrame.{IpFrame}
use Rattle.knx_model.specs.declared.frames.ip.IpFrame.TheVariants.{ConnectRequest, ConnectResponse, StateRequest, StateResponse, DisconnectRequest, DisconnectResponse, TunnellingRequest, TunnellingAck}
use Rattle.knx_model.specs.Connection.{has_passed}
use Rattle.line_model.specs.declared.client_end.ChannelTook.TheVariants as took
use Rattle.line_model.specs.declared.fault.Try.{Try}
use Rattle.line_model.specs.declared.fault.Try.TheVariants as try
use Rattle.line_model.specs.Reading.{datagram_in, RequestFrame, request_in, tunnel_told}
use Rattle.line_model.specs.Record.{Got, Entry, entry}
use Rattle.line_model.specs.ClientView as seen
use Rattle.line_model.specs.ClientView.{ClientChannel, channel, after_entry, answered, sought_got, Takes, Loses, Nothing, traffic, deed}
use Rattle.line_model.specs.ChannelLost.{answer_wait, expected, delivers, is_lost}
use Rattle.line_model.specs.Dropped.{is_dropped, dropped}
use Rattle.line_model.specs.Faults.{tries_after, opens, is_counted, datagrams_taken}
use Rattle.line_model.specs.ClientEnd.{ClientEnd, Idle, Seeking, Open, Leaving, JustLost, is_over}
use Rattle.line_model.specs.ClientFrames.{seeking_took, channel_took}
use Rattle.tunnel_channel.specs.Follows.{Opens, Refuses, Ends, Stays, change}
use Rattle.tunnel_link.specs.Kept.{counted_up}
use Rattle.tunnel_link.specs.Rights.{FitsNow, at_most_64_bits}

-- ---- what it did

pub data GotDeed (ch : ClientChannel) (x : Entry) (after : ClientChannel) : Type 0 where
  IsLost : traffic ch x ≡ Loses → change ch after ≡ Ends → GotDeed ch x after
  IsTaken : (octets : List ℕ) → traffic ch x ≡ Takes octets → change ch after ≡ Stays → GotDeed ch x after
  IsNone : traffic ch x ≡ Nothing → change ch after ≢ Ends → GotDeed ch x after

open_deed_by : (c : ℕ) (l : List Entry) (octets : List ℕ) (now : ℕ) (q : Option RequestFrame) → request_in (datagram_in octets) ≡ q → (t : Bool) → delivers c (expected c l) q ≡ t → is_lost c l (entry (Got octets) now) ≡ false
    → GotDeed (seen.Open c l) (entry (Got octets) now) (after_entry (seen.Open c l) (entry (Got octets) now))
unfolding after_entry traffic
open_deed_by c l octets now None q t n lost = IsNone (rw lost (rw q refl)) (λ h. absurd (let e : (change (seen.Open c l) (after_entry (seen.Open c l) (entry (Got octets) now)) ≡ Stays) = rw lost refl in cc))
open_deed_by c l octets now (Some request) q true n lost = IsTaken request.cemi (rw lost (rw q (rw n refl))) (rw lost refl)
open_deed_by c l octets now (Some request) q false n lost = IsNone (rw lost (rw q (rw n refl))) (λ h. absurd (let e : (change (seen.Open c l) (after_entry (seen.Open c l) (entry (Got octets) now)) ≡ Stays) = rw lost refl in cc))

open_deed : (c : ℕ) (l : List Entry) (octets : List ℕ) (now : ℕ) (t : Bool) → is_lost c l (entry (Got octets) now) ≡ t → GotDeed (seen.Open c l) (entry (Got octets) now) (after_entry (seen.Open c l) (entry (Got octets) now))
unfolding after_entry traffic
open_deed c l octets now true lost = IsLost (rw lost refl) (rw lost refl)
open_deed c l octets now false lost = open_deed_by c l octets now (request_in (datagram_in octets)) refl _ refl lost

sought_change : (since : ℕ) (after : ClientChannel) → change (seen.Sought since) after ≢ Ends
sought_change since seen.Fresh h = absurd (cc)
sought_change since (seen.Sought t) h = absurd (cc)
sought_change since (seen.RefusedBy status) h = absurd (cc)
sought_change since seen.Unanswered h = absurd (cc)
sought_change since (seen.Open c l) h = absurd (cc)
sought_change since (seen.Lost c) h = absurd (cc)

pub got_deed : (ch : ClientChannel) (octets : List ℕ) (now : ℕ) → GotDeed ch (entry (Got octets) now) (after_entry ch (entry (Got octets) now))
unfolding traffic
got_deed seen.Fresh octets now = IsNone refl (λ h. absurd (cc))
got_deed (seen.Sought since) octets now = IsNone refl (sought_change since _)
got_deed (seen.RefusedBy status) octets now = IsNone refl (λ h. absurd (cc))
got_deed seen.Unanswered octets now = IsNone refl (λ h. absurd (cc))
got_deed (seen.Open c l) octets now = open_deed c l octets now (is_lost c l (entry (Got octets) now)) refl
got_deed (seen.Lost c) octets now = IsNone refl (λ h. absurd (cc))

-- ---- what it opened

pub opens_none : (ch after : ClientChannel) (x : Entry) → change ch after ≢ Opens → opens ch after x ≡ None
opens_none seen.Fresh after x n = refl
opens_none (seen.Sought since) seen.Fresh x n = refl
opens_none (seen.Sought since) (seen.Sought t) x n = refl
opens_none (seen.Sought since) (seen.RefusedBy status) x n = refl
opens_none (seen.Sought since) seen.Unanswered x n = refl
opens_none (seen.Sought since) (seen.Open c l) x n = absurd (n refl)
opens_none (seen.Sought since) (seen.Lost c) x n = refl
opens_none (seen.RefusedBy status) after x n = refl
opens_none seen.Unanswered after x n = refl
opens_none (seen.Open c l) after x n = refl
opens_none (seen.Lost c) after x n = refl

-- it was sought, and is open
pub record Opened (ch after : ClientChannel) : Type 0 where
  pub since : ℕ
  pub c : ℕ
  pub l : List Entry
  pub sought : ch ≡ seen.Sought since
  pub is_open : after ≡ seen.Open c l

open_changes : (c : ℕ) (l : List Entry) (after : ClientChannel) → change (seen.Open c l) after ≢ Opens
open_changes c l seen.Fresh h = absurd (cc)
open_changes c l (seen.Sought t) h = absurd (cc)
open_changes c l (seen.RefusedBy status) h = absurd (cc)
open_changes c l seen.Unanswered h = absurd (cc)
open_changes c l (seen.Open d m) h = absurd (cc)
open_changes c l (seen.Lost d) h = absurd (cc)

pub opened_by : (ch after : ClientChannel) → change ch after ≡ Opens → Opened ch after
opened_by seen.Fresh after h = absurd (cc)
opened_by (seen.Sought since) seen.Fresh h = absurd (cc)
opened_by (seen.Sought since) (seen.Sought t) h = absurd (cc)
opened_by (seen.Sought since) (seen.RefusedBy status) h = absurd (cc)
opened_by (seen.Sought since) seen.Unanswered h = absurd (cc)
opened_by (seen.Sought since) (seen.Open c l) h = record { since = since; c = c; l = l; sought = refl; is_open = refl }
opened_by (seen.Sought since) (seen.Lost c) h = absurd (cc)
opened_by (seen.RefusedBy status) after h = absurd (cc)
opened_by seen.Unanswered after h = absurd (cc)
opened_by (seen.Open c l) after h = absurd (open_changes c l after h)
opened_by (seen.Lost c) after h = absurd (cc)

tells_tunnel : (frame : IpFrame) (tunnel : IndAddr) → seeking_took frame ≡ took.Up tunnel → tunnel_told (Some frame) ≡ Some tunnel
tells_tunnel ConnectRequest tunnel h = absurd (cc)
tells_tunnel (ConnectResponse ch status (Some t)) tunnel h = cc
tells_tunnel (ConnectResponse ch status None) tunnel h = absurd (cc)
tells_tunnel (StateRequest ch) tunnel h = absurd (cc)
tells_tunnel (StateResponse ch status) tunnel h = absurd (cc)
tells_tunnel (DisconnectRequest ch) tunnel h = absurd (cc)
tells_tunnel (DisconnectResponse ch status) tunnel h = absurd (cc)
tells_tunnel (TunnellingRequest ch number cemi) tunnel h = absurd (cc)
tells_tunnel (TunnellingAck ch number status) tunnel h = absurd (cc)

pub seeking_end : (end : ClientEnd) (since : ℕ) → FitsNow end (seen.Sought since) → end ≡ Seeking since
seeking_end Idle since f = absurd f
seeking_end (Seeking t) since f = cc
seeking_end (Open e) since f = absurd (let h = f.is in cc)
seeking_end (Leaving e) since f = absurd (let h = f.is in cc)
seeking_end (JustLost c) since f = absurd f

opens_at : (ch after : ClientChannel) (frame : IpFrame) (octets : List ℕ) (now : ℕ) (tunnel : IndAddr) (since c : ℕ) (l : List Entry) → ch ≡ seen.Sought since → after ≡ seen.Open c l → datagram_in octets ≡ Some frame
    → tunnel_told (Some frame) ≡ Some tunnel → opens ch after (entry (Got octets) now) ≡ Some tunnel
opens_at ch after frame octets now tunnel since c l p q is h = rw (p, q, is) h

pub opens_so : (end : ClientEnd) (frame : IpFrame) (octets : List ℕ) (now : ℕ) (tunnel : IndAddr) (ch after : ClientChannel) → FitsNow end ch → is_over end now ≡ false → datagram_in octets ≡ Some frame
    → channel_took end frame now ≡ took.Up tunnel → change ch after ≡ Opens → opens ch after (entry (Got octets) now) ≡ Some tunnel
unfolding channel_took
opens_so end frame octets now tunnel ch after f over is h same =
    let o = opened_by ch after same in
    let at : (end ≡ Seeking o.since) = seeking_end end o.since (subst (λ (d : ClientChannel). FitsNow end d) o.sought f) in
    let timely : (is_over (Seeking o.since) now ≡ false) = subst (λ (e : ClientEnd). is_over e now ≡ false) at over in
    let told : (channel_took (Seeking o.since) frame now ≡ took.Up tunnel) = subst (λ (e : ClientEnd). channel_took e frame now ≡ took.Up tunnel) at h in
    let up : (seeking_took frame ≡ took.Up tunnel) = sym (let g : (channel_took (Seeking o.since) frame now ≡ seeking_took frame) = rw timely refl in g) ∙ told in
    opens_at ch after frame octets now tunnel o.since o.c o.l o.sought o.is_open is (tells_tunnel frame tunnel up)

-- ---- the tries

pub opened_tries : (ch after : ClientChannel) (t : List Try) → change ch after ≡ Opens → tries_after ch after t ≡ []
opened_tries ch after t h = let o = opened_by ch after h in rw (o.sought, o.is_open) refl

refuses_by : (since status : ℕ) (after : ClientChannel) (t : List Try) → change (seen.Sought since) after ≡ Refuses status → tries_after (seen.Sought since) after t ≡ try.Status status ∷ t
refuses_by since status seen.Fresh t h = absurd (cc)
refuses_by since status (seen.Sought s) t h = absurd (cc)
refuses_by since status (seen.RefusedBy other) t h = let same : (other ≡ status) = cc in ap (λ (n : ℕ). try.Status n ∷ t) same
refuses_by since status seen.Unanswered t h = absurd (cc)
refuses_by since status (seen.Open c l) t h = absurd (cc)
refuses_by since status (seen.Lost c) t h = absurd (cc)

open_refuses : (c : ℕ) (l : List Entry) (status : ℕ) (after : ClientChannel) → change (seen.Open c l) after ≢ Refuses status
open_refuses c l status seen.Fresh h = absurd (cc)
open_refuses c l status (seen.Sought t) h = absurd (cc)
open_refuses c l status (seen.RefusedBy other) h = absurd (cc)
open_refuses c l status seen.Unanswered h = absurd (cc)
open_refuses c l status (seen.Open d m) h = absurd (cc)
open_refuses c l status (seen.Lost d) h = absurd (cc)

pub refused_tries : (ch after : ClientChannel) (status : ℕ) (t : List Try) → change ch after ≡ Refuses status → tries_after ch after t ≡ try.Status status ∷ t
refused_tries seen.Fresh after status t h = absurd (cc)
refused_tries (seen.Sought since) after status t h = refuses_by since status after t h
refused_tries (seen.RefusedBy s) after status t h = absurd (cc)
refused_tries seen.Unanswered after status t h = absurd (cc)
refused_tries (seen.Open c l) after status t h = absurd (open_refuses c l status after h)
refused_tries (seen.Lost c) after status t h = absurd (cc)

-- a datagram that came in time, where a channel is sought
abbrev pub IsHeard : ClientChannel → Type 0
IsHeard seen.Fresh = ⊥
IsHeard (seen.Sought since) = Unit {0}
IsHeard (seen.RefusedBy status) = Unit {0}
IsHeard seen.Unanswered = ⊥
IsHeard (seen.Open c l) = Unit {0}
IsHeard (seen.Lost c) = ⊥

heard_response : (ch status : ℕ) (x : Entry) (t : Bool) → (status == 0) ≡ t → IsHeard (answered ch status x)
heard_response ch status x true q = rw q tt
heard_response ch status x false q = rw q tt

heard_frame : (since : ℕ) (x : Entry) (frame : Option IpFrame) → IsHeard (sought_got since x frame)
heard_frame since x None = tt
heard_frame since x (Some ConnectRequest) = tt
heard_frame since x (Some (ConnectResponse ch status tunnel)) = heard_response ch status x (status == 0) refl
heard_frame since x (Some (StateRequest ch)) = tt
heard_frame since x (Some (StateResponse ch status)) = tt
heard_frame since x (Some (DisconnectRequest ch)) = tt
heard_frame since x (Some (DisconnectResponse ch status)) = tt
heard_frame since x (Some (TunnellingRequest ch number cemi)) = tt
heard_frame since x (Some (TunnellingAck ch number status)) = tt

pub sought_heard : (since : ℕ) (octets : List ℕ) (now : ℕ) → has_passed answer_wait since now ≡ false → IsHeard (after_entry (seen.Sought since) (entry (Got octets) now))
unfolding after_entry
sought_heard since octets now q = rw q (heard_frame since (entry (Got octets) now) (datagram_in octets))

same_by : (since : ℕ) (after : ClientChannel) (t : List Try) → IsHeard after → (change (seen.Sought since) after ≡ Stays) ⊎ (change (seen.Sought since) after ≡ Ends) → tries_after (seen.Sought since) after t ≡ t
same_by since seen.Fresh t h s = refl
same_by since (seen.Sought u) t h s = refl
same_by since (seen.RefusedBy status) t h (inl s) = absurd (cc)
same_by since (seen.RefusedBy status) t h (inr s) = absurd (cc)
same_by since seen.Unanswered t h s = absurd h
same_by since (seen.Open c l) t h (inl s) = absurd (cc)
same_by since (seen.Open c l) t h (inr s) = absurd (cc)
same_by since (seen.Lost c) t h s = refl

pub same_tries : (end : ClientEnd) (ch : ClientChannel) (octets : List ℕ) (now : ℕ) (t : List Try) → FitsNow end ch → is_over end now ≡ false
    → (change ch (after_entry ch (entry (Got octets) now)) ≡ Stays) ⊎ (change ch (after_entry ch (entry (Got octets) now)) ≡ Ends) → tries_after ch (after_entry ch (entry (Got octets) now)) t ≡ t
same_tries end seen.Fresh octets now t f over s = refl
same_tries end (seen.Sought since) octets now t f over s =
    let timely : (is_over (Seeking since) now ≡ false) = subst (λ (e : ClientEnd). is_over e now ≡ false) (seeking_end end since f) over in
    same_by since (after_entry (seen.Sought since) (entry (Got octets) now)) t (sought_heard since octets now timely) s
same_tries end (seen.RefusedBy status) octets now t f over s = refl
same_tries end seen.Unanswered octets now t f over s = refl
same_tries end (seen.Open c l) octets now t f over s = refl
same_tries end (seen.Lost c) octets now t f over s = refl

-- ---- an endpoint without connect request stays one

heard_fresh : (ch : ClientChannel) → IsHeard ch → ch ≢ seen.Fresh
heard_fresh seen.Fresh h e = h
heard_fresh (seen.Sought since) h e = absurd (cc)
heard_fresh (seen.RefusedBy status) h e = absurd (cc)
heard_fresh seen.Unanswered h e = absurd (cc)
heard_fresh (seen.Open c l) h e = absurd (cc)
heard_fresh (seen.Lost c) h e = absurd (cc)

open_fresh : (c : ℕ) (l : List Entry) (octets : List ℕ) (now : ℕ) (t : Bool) → is_lost c l (entry (Got octets) now) ≡ t → after_entry (seen.Open c l) (entry (Got octets) now) ≢ seen.Fresh
unfolding after_entry
open_fresh c l octets now true q h = absurd (let e : (after_entry (seen.Open c l) (entry (Got octets) now) ≡ seen.Lost c) = rw q refl in cc)
open_fresh c l octets now false q h = absurd (let e : (after_entry (seen.Open c l) (entry (Got octets) now) ≡ seen.Open c (entry (Got octets) now ∷ l)) = rw q refl in cc)

pub fresh_before : (end : ClientEnd) (ch : ClientChannel) (octets : List ℕ) (now : ℕ) → FitsNow end ch → is_over end now ≡ false → after_entry ch (entry (Got octets) now) ≡ seen.Fresh → ch ≡ seen.Fresh
unfolding after_entry
fresh_before end seen.Fresh octets now f over h = refl
fresh_before end (seen.Sought since) octets now f over h =
    absurd (heard_fresh _ (sought_heard since octets now (subst (λ (e : ClientEnd). is_over e now ≡ false) (seeking_end end since f) over)) h)
fresh_before end (seen.RefusedBy status) octets now f over h = h
fresh_before end seen.Unanswered octets now f over h = h
fresh_before end (seen.Open c l) octets now f over h = absurd (open_fresh c l octets now (is_lost c l (entry (Got octets) now)) refl h)
fresh_before end (seen.Lost c) octets now f over h = h

-- ---- that it counts

dropped_more : (n d : ℕ) → n ≡ at_most_64_bits d → counted_up n ≡ at_most_64_bits (suc d)
dropped_more n d h = omega (arith, h)

pub drops_one : (n : ℕ) (r : List Entry) (x : Entry) → is_dropped r x ≡ true → n ≡ at_most_64_bits (dropped r) → counted_up n ≡ at_most_64_bits (dropped (x ∷ r))
drops_one n r x q h = rw q (dropped_more n (dropped r) h)

pub drops_none : (n : ℕ) (r : List Entry) (x : Entry) → is_dropped r x ≡ false → n ≡ at_most_64_bits (dropped r) → n ≡ at_most_64_bits (dropped (x ∷ r))
drops_none n r x q h = rw q h

pub takes_one : (n : ℕ) (r : List Entry) (x : Entry) → is_counted r x ≡ true → n ≡ at_most_64_bits (datagrams_taken r) → counted_up n ≡ at_most_64_bits (datagrams_taken (x ∷ r))
takes_one n r x q h = rw q (dropped_more n (datagrams_taken r) h)

pub takes_none : (n : ℕ) (r : List Entry) (x : Entry) → is_counted r x ≡ false → n ≡ at_most_64_bits (datagrams_taken r) → n ≡ at_most_64_bits (datagrams_taken (x ∷ r))
takes_none n r x q h = rw q h
