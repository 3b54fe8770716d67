-- The frame that was put last in the open channel, and the tunnel's own address: which entries leave them, and what of the gateway's next request
-- counts by them.
use Rattle.std.proofs.Common.{◌≡◌, ◌≢◌, ℕ, List, [], ◌∷◌, Bool, true, false, ◌&&◌, cond, Option, Some, None, refl, sym, ap, ◌∙◌, subst}
use Rattle.std.specs.Prelude.{◌==◌, if◌then◌else◌}
use Rattle.knx_model.specs.declared.address.IndAddr.{IndAddr}
use Rattle.knx_model.specs.declared.frames.cemi.Ldata.{Ldata}
use Rattle.knx_model.specs.declared.frames.ip.IpFrame.{IpFrame}
use Rattle.knx_model.specs.declared.frames.ip.IpFrame.TheVariants.{ConnectRequest, ConnectResponse, StateRequest, StateResponse, DisconnectRequest, DisconnectResponse, TunnellingRequest, TunnellingAck}
use Rattle.knx_model.specs.Connection.{has_passed}
use Rattle.line_model.specs.Reading.{datagram_in, ldata_in, is_con, is_connect_request, RequestFrame, request_in}
use Rattle.line_model.specs.Record.{Item, Put, Renewed, Got, Quiet, Entry, entry, got_in, is_poll}
use Rattle.line_model.specs.ChannelLost.{answer_wait, is_new_request, last_frame, is_alike, is_confirmation_of, is_lost}
use Rattle.line_model.specs.ClientView as seen
use Rattle.line_model.specs.ClientView.{ClientChannel, after_entry, after_sought, sought_got, Deed, Puts, Takes, Loses, Nothing, own_address, as_counted, counts, traffic, deed}
use Rattle.line_model.specs.Faults.{opens}
use Rattle.tunnel_channel.specs.Fits.{HasBegun, last_in, own_in}
use Rattle.tunnel_channel.specs.Follows.{Opens, change}
use Rattle.tunnel_link.specs.Rights.{CountsBy}

-- ---- the first entry stays the oldest

counts_more : (tunnel : Option IndAddr) (put : Option Ldata) (c : ℕ) (l : List Entry) (x : Entry) → put ≡ last_frame c (x ∷ l) → tunnel ≡ own_address l → HasBegun l → CountsBy tunnel put (seen.Open c (x ∷ l))
counts_more tunnel put c [] x p o b = absurd b
counts_more tunnel put c (y ∷ l) x p o b = (p, o, tt)

-- ---- a poll

last_polled : (c : ℕ) (l : List Entry) (what : Item) (now : ℕ) → is_poll what ≡ true → last_frame c (entry what now ∷ l) ≡ last_frame c l
last_polled c l (Put octets) now p = absurd (cc)
last_polled c l Renewed now p = absurd (cc)
last_polled c l (Got octets) now p = refl
last_polled c l Quiet now p = refl

open_polled : (tunnel : Option IndAddr) (put : Option Ldata) (c : ℕ) (l : List Entry) (what : Item) (now : ℕ) → is_poll what ≡ true → CountsBy tunnel put (seen.Open c l) → (b : Bool) → CountsBy tunnel put (if b then seen.Lost c else seen.Open c (entry what now ∷ l))
open_polled tunnel put c l what now p h true = tt
open_polled tunnel put c l what now p h false = counts_more tunnel put c l (entry what now) (h.0 ∙ sym (last_polled c l what now p)) h.1 h.2

response_put : (tunnel : Option IndAddr) (put : Option Ldata) (since c : ℕ) (x : Entry) (status : ℕ) (b : Bool) → change (seen.Sought since) (if b then seen.Open c (x ∷ []) else seen.RefusedBy status) ≢ Opens → CountsBy tunnel put (if b then seen.Open c (x ∷ []) else seen.RefusedBy status)
response_put tunnel put since c x status true n = absurd (n refl)
response_put tunnel put since c x status false n = tt

sought_put : (tunnel : Option IndAddr) (put : Option Ldata) (since : ℕ) (x : Entry) (o : Option IpFrame) → change (seen.Sought since) (sought_got since x o) ≢ Opens → CountsBy tunnel put (sought_got since x o)
sought_put tunnel put since x None n = tt
sought_put tunnel put since x (Some ConnectRequest) n = tt
sought_put tunnel put since x (Some (ConnectResponse c status told)) n = response_put tunnel put since c x status (status == 0) n
sought_put tunnel put since x (Some (StateRequest c)) n = tt
sought_put tunnel put since x (Some (StateResponse c status)) n = tt
sought_put tunnel put since x (Some (DisconnectRequest c)) n = tt
sought_put tunnel put since x (Some (DisconnectResponse c status)) n = tt
sought_put tunnel put since x (Some (TunnellingRequest c number cemi)) n = tt
sought_put tunnel put since x (Some (TunnellingAck c number status)) n = tt

sought_by : (tunnel : Option IndAddr) (put : Option Ldata) (since : ℕ) (x : Entry) (o : Option IpFrame) (b : Bool) → change (seen.Sought since) (if b then seen.Unanswered else sought_got since x o) ≢ Opens → CountsBy tunnel put (if b then seen.Unanswered else sought_got since x o)
sought_by tunnel put since x o true n = tt
sought_by tunnel put since x o false n = sought_put tunnel put since x o n

-- a poll that opens no channel leaves it
pub poll_put : (tunnel : Option IndAddr) (put : Option Ldata) (ch : ClientChannel) (what : Item) (now : ℕ) → is_poll what ≡ true → change ch (after_entry ch (entry what now)) ≢ Opens → CountsBy tunnel put ch → CountsBy tunnel put (after_entry ch (entry what now))
unfolding after_entry
poll_put tunnel put ch (Put octets) now p n h = absurd (cc)
poll_put tunnel put ch Renewed now p n h = absurd (cc)
poll_put tunnel put seen.Fresh (Got octets) now p n h = tt
poll_put tunnel put (seen.Sought since) (Got octets) now p n h = sought_by tunnel put since (entry (Got octets) now) (datagram_in octets) (has_passed answer_wait since now) n
poll_put tunnel put (seen.RefusedBy status) (Got octets) now p n h = tt
poll_put tunnel put seen.Unanswered (Got octets) now p n h = tt
poll_put tunnel put (seen.Open c l) (Got octets) now p n h = open_polled tunnel put c l (Got octets) now p h (is_lost c l (entry (Got octets) now))
poll_put tunnel put (seen.Lost c) (Got octets) now p n h = tt
poll_put tunnel put seen.Fresh Quiet now p n h = tt
poll_put tunnel put (seen.Sought since) Quiet now p n h = sought_by tunnel put since (entry Quiet now) None (has_passed answer_wait since now) n
poll_put tunnel put (seen.RefusedBy status) Quiet now p n h = tt
poll_put tunnel put seen.Unanswered Quiet now p n h = tt
poll_put tunnel put (seen.Open c l) Quiet now p n h = open_polled tunnel put c l Quiet now p h (is_lost c l (entry Quiet now))
poll_put tunnel put (seen.Lost c) Quiet now p n h = tt

-- one that reads as nothing opens none
unread_stays : (since : ℕ) (b : Bool) → change (seen.Sought since) (if b then seen.Unanswered else seen.Sought since) ≢ Opens
unread_stays since true h = absurd (cc)
unread_stays since false h = absurd (cc)

lost_stays : (c : ℕ) (l : List Entry) (x : Entry) (b : Bool) → change (seen.Open c l) (if b then seen.Lost c else seen.Open c (x ∷ l)) ≢ Opens
lost_stays c l x true h = absurd (cc)
lost_stays c l x false h = absurd (cc)

pub unread_opens : (ch : ClientChannel) (what : Item) (now : ℕ) → is_poll what ≡ true → got_in what ≡ None → change ch (after_entry ch (entry what now)) ≢ Opens
unfolding after_entry
unread_opens ch (Put octets) now p n h = absurd (cc)
unread_opens ch Renewed now p n h = absurd (cc)
unread_opens seen.Fresh (Got octets) now p n h = absurd (cc)
unread_opens (seen.Sought since) (Got octets) now p n h =
    unread_stays since (has_passed answer_wait since now) (subst (λ o. change (seen.Sought since) (if has_passed answer_wait since now then seen.Unanswered else sought_got since (entry (Got octets) now) o) ≡ Opens) n h)
unread_opens (seen.RefusedBy status) (Got octets) now p n h = absurd (cc)
unread_opens seen.Unanswered (Got octets) now p n h = absurd (cc)
unread_opens (seen.Open c l) (Got octets) now p n h = lost_stays c l (entry (Got octets) now) (is_lost c l (entry (Got octets) now)) h
unread_opens (seen.Lost c) (Got octets) now p n h = absurd (cc)
unread_opens seen.Fresh Quiet now p n h = absurd (cc)
unread_opens (seen.Sought since) Quiet now p n h = unread_stays since (has_passed answer_wait since now) h
unread_opens (seen.RefusedBy status) Quiet now p n h = absurd (cc)
unread_opens seen.Unanswered Quiet now p n h = absurd (cc)
unread_opens (seen.Open c l) Quiet now p n h = lost_stays c l (entry Quiet now) (is_lost c l (entry Quiet now)) h
unread_opens (seen.Lost c) Quiet now p n h = absurd (cc)

-- ---- a channel that came up: nothing was put in it, and its connect response told the tunnel's own address

given_put : (tunnel : IndAddr) (since c : ℕ) (octets : List ℕ) (now status : ℕ) (b : Bool) → change (seen.Sought since) (if b then seen.Open c (entry (Got octets) now ∷ []) else seen.RefusedBy status) ≡ Opens
    → opens (seen.Sought since) (if b then seen.Open c (entry (Got octets) now ∷ []) else seen.RefusedBy status) (entry (Got octets) now) ≡ Some tunnel → CountsBy (Some tunnel) None (if b then seen.Open c (entry (Got octets) now ∷ []) else seen.RefusedBy status)
given_put tunnel since c octets now status true h t = (refl, sym t, tt)
given_put tunnel since c octets now status false h t = tt

came_put : (tunnel : IndAddr) (since : ℕ) (octets : List ℕ) (now : ℕ) (o : Option IpFrame) → change (seen.Sought since) (sought_got since (entry (Got octets) now) o) ≡ Opens
    → opens (seen.Sought since) (sought_got since (entry (Got octets) now) o) (entry (Got octets) now) ≡ Some tunnel → CountsBy (Some tunnel) None (sought_got since (entry (Got octets) now) o)
came_put tunnel since octets now None h t = tt
came_put tunnel since octets now (Some ConnectRequest) h t = tt
came_put tunnel since octets now (Some (ConnectResponse c status told)) h t = given_put tunnel since c octets now status (status == 0) h t
came_put tunnel since octets now (Some (StateRequest c)) h t = tt
came_put tunnel since octets now (Some (StateResponse c status)) h t = tt
came_put tunnel since octets now (Some (DisconnectRequest c)) h t = tt
came_put tunnel since octets now (Some (DisconnectResponse c status)) h t = tt
came_put tunnel since octets now (Some (TunnellingRequest c number cemi)) h t = tt
came_put tunnel since octets now (Some (TunnellingAck c number status)) h t = tt

came_by : (tunnel : IndAddr) (since : ℕ) (octets : List ℕ) (now : ℕ) (o : Option IpFrame) (b : Bool) → change (seen.Sought since) (if b then seen.Unanswered else sought_got since (entry (Got octets) now) o) ≡ Opens
    → opens (seen.Sought since) (if b then seen.Unanswered else sought_got since (entry (Got octets) now) o) (entry (Got octets) now) ≡ Some tunnel → CountsBy (Some tunnel) None (if b then seen.Unanswered else sought_got since (entry (Got octets) now) o)
came_by tunnel since octets now o true h t = tt
came_by tunnel since octets now o false h t = came_put tunnel since octets now o h t

pub opened_put : (tunnel : IndAddr) (ch : ClientChannel) (octets : List ℕ) (now : ℕ) → change ch (after_entry ch (entry (Got octets) now)) ≡ Opens → opens ch (after_entry ch (entry (Got octets) now)) (entry (Got octets) now) ≡ Some tunnel → CountsBy (Some tunnel) None (after_entry ch (entry (Got octets) now))
unfolding after_entry
opened_put tunnel seen.Fresh octets now h t = tt
opened_put tunnel (seen.Sought since) octets now h t = came_by tunnel since octets now (datagram_in octets) (has_passed answer_wait since now) h t
opened_put tunnel (seen.RefusedBy status) octets now h t = tt
opened_put tunnel seen.Unanswered octets now h t = tt
opened_put tunnel (seen.Open c l) octets now h t = absurd (lost_stays c l (entry (Got octets) now) (is_lost c l (entry (Got octets) now)) h)
opened_put tunnel (seen.Lost c) octets now h t = tt

-- ---- a sending that puts no request for the first time

open_sent_put : (put : Option Ldata) (c : ℕ) (l : List Entry) (octets : List ℕ) (now : ℕ) (q : Option RequestFrame) → request_in (datagram_in octets) ≡ q → (t : Bool) → is_new_request c l (entry (Put octets) now) ≡ t
    → deed (seen.Open c l) (entry (Put octets) now) ≡ Nothing → put ≡ last_frame c l → put ≡ last_frame c (entry (Put octets) now ∷ l)
unfolding deed
open_sent_put put c l octets now None q t n did h = h ∙ sym (rw q refl)
open_sent_put put c l octets now (Some request) q true n did h = absurd (let e : (deed (seen.Open c l) (entry (Put octets) now) ≡ Puts request.cemi) = rw (n, q) refl in cc)
open_sent_put put c l octets now (Some request) q false n did h = h ∙ sym (rw n refl)

fresh_put : (tunnel : Option IndAddr) (put : Option Ldata) (now : ℕ) (b : Bool) → CountsBy tunnel put (if b then seen.Sought now else seen.Fresh)
fresh_put tunnel put now true = tt
fresh_put tunnel put now false = tt

pub sent_put : (tunnel : Option IndAddr) (put : Option Ldata) (ch : ClientChannel) (octets : List ℕ) (now : ℕ) → deed ch (entry (Put octets) now) ≡ Nothing → CountsBy tunnel put ch → CountsBy tunnel put (after_entry ch (entry (Put octets) now))
unfolding after_entry
sent_put tunnel put seen.Fresh octets now did h = fresh_put tunnel put now (is_connect_request (datagram_in octets))
sent_put tunnel put (seen.Sought since) octets now did h = tt
sent_put tunnel put (seen.RefusedBy status) octets now did h = tt
sent_put tunnel put seen.Unanswered octets now did h = tt
sent_put tunnel put (seen.Open c l) octets now did h =
    counts_more tunnel put c l (entry (Put octets) now) (open_sent_put put c l octets now (request_in (datagram_in octets)) refl (is_new_request c l (entry (Put octets) now)) refl did h.0) h.1 h.2
sent_put tunnel put (seen.Lost c) octets now did h = tt

-- one that puts this frame
pub put_of : (tunnel : Option IndAddr) (before put : Option Ldata) (c : ℕ) (l : List Entry) (x : Entry) (after : ClientChannel) → CountsBy tunnel before (seen.Open c l) → after ≡ seen.Open c (x ∷ l) → last_in after ≡ put → CountsBy tunnel put after
put_of tunnel before put c l x after b at h = subst (CountsBy tunnel put) (sym at) (counts_more tunnel put c l x (sym h ∙ ap last_in at) b.1 b.2)

-- ---- what of the gateway's next request counts

lost_or : (own : Option IndAddr) (last : Option Ldata) (what : Deed) (b : Bool) → ◌≡◌ {A = Deed} (if b then Loses else as_counted own last what) (as_counted own last (if b then Loses else what))
lost_or own last what true = refl
lost_or own last what false = refl

pub deed_is : (ch : ClientChannel) (x : Entry) → deed ch x ≡ as_counted (own_in ch) (last_in ch) (traffic ch x)
unfolding deed traffic
deed_is seen.Fresh x = refl
deed_is (seen.Sought since) x = refl
deed_is (seen.RefusedBy status) x = refl
deed_is seen.Unanswered x = refl
deed_is (seen.Open c l) x = lost_or (own_address l) (last_frame c l) (seen.deed_in c l x) (is_lost c l x)
deed_is (seen.Lost c) x = refl

-- where something was taken the channel is open
pub last_is : (tunnel : Option IndAddr) (put : Option Ldata) (ch : ClientChannel) (x : Entry) (cemi : List ℕ) → CountsBy tunnel put ch → traffic ch x ≡ Takes cemi → last_in ch ≡ put
unfolding traffic
last_is tunnel put seen.Fresh x cemi h t = absurd (cc)
last_is tunnel put (seen.Sought since) x cemi h t = absurd (cc)
last_is tunnel put (seen.RefusedBy status) x cemi h t = absurd (cc)
last_is tunnel put seen.Unanswered x cemi h t = absurd (cc)
last_is tunnel put (seen.Open c l) x cemi h t = sym h.0
last_is tunnel put (seen.Lost c) x cemi h t = absurd (cc)

pub own_is : (tunnel : Option IndAddr) (put : Option Ldata) (ch : ClientChannel) (x : Entry) (cemi : List ℕ) → CountsBy tunnel put ch → traffic ch x ≡ Takes cemi → own_in ch ≡ tunnel
unfolding traffic
own_is tunnel put seen.Fresh x cemi h t = absurd (cc)
own_is tunnel put (seen.Sought since) x cemi h t = absurd (cc)
own_is tunnel put (seen.RefusedBy status) x cemi h t = absurd (cc)
own_is tunnel put seen.Unanswered x cemi h t = absurd (cc)
own_is tunnel put (seen.Open c l) x cemi h t = sym h.1
own_is tunnel put (seen.Lost c) x cemi h t = absurd (cc)

pub taken_deed : (tunnel : Option IndAddr) (put : Option Ldata) (ch : ClientChannel) (x : Entry) (cemi : List ℕ) → CountsBy tunnel put ch → traffic ch x ≡ Takes cemi → deed ch x ≡ (if counts tunnel put (ldata_in cemi) then Takes cemi else Nothing)
taken_deed tunnel put ch x cemi h t =
    deed_is ch x ∙ ap (as_counted (own_in ch) (last_in ch)) t ∙ ap (λ last. as_counted (own_in ch) last (Takes cemi)) (last_is tunnel put ch x cemi h t) ∙ ap (λ own. as_counted own put (Takes cemi)) (own_is tunnel put ch x cemi h t)

pub unread_confirms : (put : Option Ldata) → is_confirmation_of put None ≡ false
unread_confirms None = refl
unread_confirms (Some frame) = refl

pub other_confirms : (put : Option Ldata) (frame : Ldata) → is_con frame.code ≡ false → is_confirmation_of put (Some frame) ≡ false
other_confirms None frame n = refl
other_confirms (Some own) frame n = ap (λ b. b && is_alike own frame) n

-- only what is put counts as that
pub counted_puts : (own : Option IndAddr) (last : Option Ldata) (what : Deed) (cemi : List ℕ) → as_counted own last what ≡ Puts cemi → what ≡ Puts cemi
counted_puts own last (Puts octets) cemi e = e
counted_puts own last (Takes octets) cemi e = absurd (by_count (counts own last (ldata_in octets)) e) where
  by_count : (b : Bool) → cond {A = Deed} b (Takes octets) Nothing ≡ Puts cemi → ⊥
  by_count true h = cc
  by_count false h = cc
counted_puts own last Loses cemi e = absurd (cc)
counted_puts own last Nothing cemi e = absurd (cc)
