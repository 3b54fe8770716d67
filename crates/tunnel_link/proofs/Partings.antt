-- What is to be sent after the channel was lost: it is sent next, and there is no other disconnect request where no channel is open.
use Rattle.std.proofs.Common.{◌≡◌, ◌≢◌, ℕ, eqb, List, ◌∷◌, Bool, true, false, Option, Some, None, refl, sym, subst, ap, ◌∙◌}
use Rattle.std.specs.Prelude.{◌&&◌, is_some, if◌then◌else◌}
use Rattle.knx_model.specs.declared.frames.ip.IpFrame.{IpFrame}
use Rattle.knx_model.specs.declared.frames.ip.IpFrame.TheVariants.{ConnectRequest, ConnectResponse, StateRequest, StateResponse, DisconnectRequest, DisconnectResponse, TunnellingRequest, TunnellingAck}
use Rattle.knx_model.specs.KnxNetIp.{Written}
use Rattle.line_model.specs.declared.client_end.ChannelTook.TheVariants as took
use Rattle.line_model.specs.Reading.{datagram_in, is_connect_request, disconnect_request_in}
use Rattle.line_model.specs.Record.{Item, Put, Renewed, Got, Quiet, Entry, entry, is_poll}
use Rattle.line_model.specs.ChannelLost.{beats, has_left, has_lapsed, tells_bad, is_lost}
use Rattle.line_model.specs.ClientView as seen
use Rattle.line_model.specs.ClientView.{ClientChannel, channel, after_entry, Loses, Nothing, deed}
use Rattle.line_model.specs.Renews.{owed}
use Rattle.line_model.specs.Sendings.{IsRightFrame, OwnsChannel, OfOpen, end_got}
use Rattle.line_model.specs.Closing.{asks_to_end, is_open}
use Rattle.line_model.specs.Leaves.{parting, parting_in, parting_of, IsSentNext, PartsSo}
use Rattle.line_model.specs.ClientEnd.{ClientEnd, Idle, Seeking, Open, Leaving, JustLost, is_over, lost}
use Rattle.line_model.specs.ClientFrames.{channel_took}
use Rattle.tunnel_channel.specs.Follows.{Ends, Stays, change}

-- ---- one more entry

poll_asks_not : (what : Item) (now : ℕ) → is_poll what ≡ true → asks_to_end (entry what now) ≡ false
poll_asks_not (Put octets) now p = absurd (cc)
poll_asks_not Renewed now p = absurd (cc)
poll_asks_not (Got octets) now p = refl
poll_asks_not Quiet now p = refl

next_at_poll : (o : Option IpFrame) (what : Item) (now : ℕ) → is_poll what ≡ true → IsSentNext o (entry what now)
next_at_poll None what now p = tt
next_at_poll (Some frame) what now p = λ n. absurd (let z : true ≡ false = sym p ∙ n in cc)

-- a poll
pub poll_parts : (r : List Entry) (what : Item) (now : ℕ) → is_poll what ≡ true → PartsSo r (entry what now)
poll_parts r what now p = record {
  sends = next_at_poll (parting_of r) what now p;
  once = λ asks shut. absurd (let z : true ≡ false = sym asks ∙ poll_asks_not what now p in cc);
}

-- a new endpoint, where nothing is to be sent
pub renewed_parts : (r : List Entry) (now : ℕ) → parting_of r ≡ None → PartsSo r (entry Renewed now)
renewed_parts r now none = record { sends = subst (λ o. IsSentNext o (entry Renewed now)) (sym none) tt; once = λ asks shut. absurd (cc) }

-- a datagram, where nothing is to be sent, and only an open channel is asked to end
pub put_parts : (r : List Entry) (octets : List ℕ) (now : ℕ) → parting_of r ≡ None → (is_some (disconnect_request_in (datagram_in octets)) ≡ true → is_open (channel r) ≡ true) → PartsSo r (entry (Put octets) now)
put_parts r octets now none up = record {
  sends = subst (λ o. IsSentNext o (entry (Put octets) now)) (sym none) tt;
  once = λ asks shut. absurd (let z : true ≡ false = sym (up asks) ∙ shut in cc);
}

-- what is to be sent
pub parting_sent : (r : List Entry) (octets : List ℕ) (now : ℕ) (frame : IpFrame) → parting_of r ≡ Some frame → datagram_in octets ≡ Some frame → PartsSo r (entry (Put octets) now)
parting_sent r octets now frame is reads = record {
  sends = subst (λ o. IsSentNext o (entry (Put octets) now)) (sym is) (λ n. reads);
  once = λ asks shut. is ∙ sym reads;
}

-- ---- nothing is to be sent after it

put_parted_by : (ch : ClientChannel) (octets : List ℕ) (now : ℕ) (before : Option IpFrame) → parting_in ch (entry (Put octets) now) (after_entry ch (entry (Put octets) now)) before ≡ None
unfolding after_entry
put_parted_by seen.Fresh octets now before = refl
put_parted_by (seen.Sought since) octets now before = refl
put_parted_by (seen.RefusedBy status) octets now before = refl
put_parted_by seen.Unanswered octets now before = refl
put_parted_by (seen.Open c l) octets now before = refl
put_parted_by (seen.Lost c) octets now before = refl

pub put_parted : (r : List Entry) (octets : List ℕ) (now : ℕ) → parting_of (entry (Put octets) now ∷ r) ≡ None
put_parted r octets now = put_parted_by (channel r) octets now (parting_of r)

fresh_parted : (ch : ClientChannel) (x : Entry) (before : Option IpFrame) → parting_in ch x seen.Fresh before ≡ None
fresh_parted seen.Fresh x before = refl
fresh_parted (seen.Sought since) x before = refl
fresh_parted (seen.RefusedBy status) x before = refl
fresh_parted seen.Unanswered x before = refl
fresh_parted (seen.Open c l) x before = refl
fresh_parted (seen.Lost c) x before = refl

fresh_after : (r : List Entry) (now : ℕ) → channel (entry Renewed now ∷ r) ≡ seen.Fresh
unfolding after_entry
fresh_after r now = refl

pub renewed_parted : (r : List Entry) (now : ℕ) → parting_of (entry Renewed now ∷ r) ≡ None
renewed_parted r now = ap (λ (after : ClientChannel). parting_in (channel r) (entry Renewed now) after (parting_of r)) (fresh_after r now) ∙ fresh_parted (channel r) (entry Renewed now) (parting_of r)

unheard_by : (ch : ClientChannel) (x : Entry) (before : Option IpFrame) → parting_in ch x seen.Unanswered before ≡ None
unheard_by seen.Fresh x before = refl
unheard_by (seen.Sought since) x before = refl
unheard_by (seen.RefusedBy status) x before = refl
unheard_by seen.Unanswered x before = refl
unheard_by (seen.Open c l) x before = refl
unheard_by (seen.Lost c) x before = refl

pub unheard_parted : (r : List Entry) (x : Entry) → channel (x ∷ r) ≡ seen.Unanswered → parting_of (x ∷ r) ≡ None
unheard_parted r x is = ap (λ (after : ClientChannel). parting_in (channel r) x after (parting_of r)) is ∙ unheard_by (channel r) x (parting_of r)

-- where the channel wasn't lost in it, and nothing was to be sent before
kept_none : (b : Bool) (before : Option IpFrame) → before ≡ None → (if b then before else None) ≡ None
kept_none true before none = none
kept_none false before none = refl

unended_by : (ch : ClientChannel) (x : Entry) (after : ClientChannel) (before : Option IpFrame) → change ch after ≢ Ends → before ≡ None → parting_in ch x after before ≡ None
unended_by seen.Fresh x after before n none = refl
unended_by (seen.Sought since) x after before n none = refl
unended_by (seen.RefusedBy status) x after before n none = refl
unended_by seen.Unanswered x after before n none = refl
unended_by (seen.Open c l) x seen.Fresh before n none = refl
unended_by (seen.Open c l) x (seen.Sought since) before n none = refl
unended_by (seen.Open c l) x (seen.RefusedBy status) before n none = refl
unended_by (seen.Open c l) x seen.Unanswered before n none = refl
unended_by (seen.Open c l) x (seen.Open d m) before n none = refl
unended_by (seen.Open c l) x (seen.Lost d) before n none = absurd (n refl)
unended_by (seen.Lost c) x seen.Fresh before n none = refl
unended_by (seen.Lost c) x (seen.Sought since) before n none = refl
unended_by (seen.Lost c) x (seen.RefusedBy status) before n none = refl
unended_by (seen.Lost c) x seen.Unanswered before n none = refl
unended_by (seen.Lost c) x (seen.Open d m) before n none = refl
unended_by (seen.Lost c) x (seen.Lost d) before n none = kept_none (is_poll x.what) before none

pub unended_parted : (r : List Entry) (x : Entry) → change (channel r) (channel (x ∷ r)) ≢ Ends → parting_of r ≡ None → parting_of (x ∷ r) ≡ None
unended_parted r x n none = unended_by (channel r) x (channel (x ∷ r)) (parting_of r) n none

sought_goes_on : (since : ℕ) (after : ClientChannel) → change (seen.Sought since) after ≢ Ends
sought_goes_on since seen.Fresh h = let z : Stays ≡ Ends = h in cc
sought_goes_on since (seen.Sought t) h = let z : Stays ≡ Ends = h in cc
sought_goes_on since (seen.RefusedBy status) h = absurd (cc)
sought_goes_on since seen.Unanswered h = let z : Stays ≡ Ends = h in cc
sought_goes_on since (seen.Open c l) h = absurd (cc)
sought_goes_on since (seen.Lost c) h = let z : Stays ≡ Ends = h in cc

open_goes_on : (c : ℕ) (l : List Entry) (what : Item) (now : ℕ) (b : Bool) → is_poll what ≡ true → is_lost c l (entry what now) ≡ b → deed (seen.Open c l) (entry what now) ≡ Nothing → change (seen.Open c l) (after_entry (seen.Open c l) (entry what now)) ≡ Stays
unfolding deed after_entry
open_goes_on c l what now true p q did = absurd (let e : (deed (seen.Open c l) (entry what now) ≡ Loses) = rw q refl in cc)
open_goes_on c l (Put octets) now false p q did = absurd (cc)
open_goes_on c l Renewed now false p q did = absurd (cc)
open_goes_on c l (Got octets) now false p q did = rw q refl
open_goes_on c l Quiet now false p q did = rw q refl

undone_by : (ch : ClientChannel) (what : Item) (now : ℕ) → is_poll what ≡ true → deed ch (entry what now) ≡ Nothing → change ch (after_entry ch (entry what now)) ≢ Ends
undone_by seen.Fresh what now p did h = let z : Stays ≡ Ends = h in cc
undone_by (seen.Sought since) what now p did h = sought_goes_on since (after_entry (seen.Sought since) (entry what now)) h
undone_by (seen.RefusedBy status) what now p did h = let z : Stays ≡ Ends = h in cc
undone_by seen.Unanswered what now p did h = let z : Stays ≡ Ends = h in cc
undone_by (seen.Open c l) what now p did h = let z : Stays ≡ Ends = sym (open_goes_on c l what now (is_lost c l (entry what now)) p refl did) ∙ h in cc
undone_by (seen.Lost c) what now p did h = let z : Stays ≡ Ends = h in cc

-- a poll that did nothing
pub undone_parted : (r : List Entry) (what : Item) (now : ℕ) → is_poll what ≡ true → deed (channel r) (entry what now) ≡ Nothing → parting_of r ≡ None → parting_of (entry what now ∷ r) ≡ None
undone_parted r what now p did none = unended_parted r (entry what now) (undone_by (channel r) what now p did) none

-- ---- the channel was lost by the time

lapsed_by : (ch : ClientChannel) (x : Entry) (after : ClientChannel) (before : Option IpFrame) (c : ℕ) (l : List Entry) (d : ℕ) → ch ≡ seen.Open c l → after ≡ seen.Lost d → has_lapsed c l x.now ≡ true → parting_in ch x after before ≡ Some (DisconnectRequest c)
lapsed_by ch x after before c l d at is h = rw (at, is, h) refl

pub lapsed_parting : (r : List Entry) (x : Entry) (c : ℕ) (l : List Entry) (d : ℕ) → channel r ≡ seen.Open c l → channel (x ∷ r) ≡ seen.Lost d → has_lapsed c l x.now ≡ true → parting_of (x ∷ r) ≡ Some (DisconnectRequest c)
lapsed_parting r x c l d at is h = lapsed_by (channel r) x (channel (x ∷ r)) (parting_of r) c l d at is h

-- and a poll came after it
still_by : (ch : ClientChannel) (x : Entry) (after : ClientChannel) (before : Option IpFrame) (c d : ℕ) → ch ≡ seen.Lost c → after ≡ seen.Lost d → is_poll x.what ≡ true → parting_in ch x after before ≡ before
still_by ch x after before c d at is p = rw (at, is, p) refl

pub still_parting : (r : List Entry) (x : Entry) (c d : ℕ) → channel r ≡ seen.Lost c → channel (x ∷ r) ≡ seen.Lost d → is_poll x.what ≡ true → parting_of (x ∷ r) ≡ parting_of r
still_parting r x c d at is p = still_by (channel r) x (channel (x ∷ r)) (parting_of r) c d at is p

-- ---- it was lost by a frame that came in time

pub record IsEnding (ch after : ClientChannel) : Type 0 where
  pub c : ℕ
  pub l : List Entry
  pub d : ℕ
  pub was : ch ≡ seen.Open c l
  pub lost : after ≡ seen.Lost d

pub ending : (ch after : ClientChannel) → change ch after ≡ Ends → IsEnding ch after
ending seen.Fresh after h = absurd (cc)
ending (seen.Sought since) after h = absurd (sought_goes_on since after h)
ending (seen.RefusedBy status) after h = absurd (cc)
ending seen.Unanswered after h = absurd (cc)
ending (seen.Open c l) seen.Fresh h = absurd (cc)
ending (seen.Open c l) (seen.Sought t) h = absurd (cc)
ending (seen.Open c l) (seen.RefusedBy status) h = absurd (cc)
ending (seen.Open c l) seen.Unanswered h = absurd (cc)
ending (seen.Open c l) (seen.Open d m) h = absurd (cc)
ending (seen.Open c l) (seen.Lost d) h = record { c = c; l = l; d = d; was = refl; lost = refl }
ending (seen.Lost c) after h = absurd (cc)

-- which frame it was, and what is to be sent then
pub data PartsBy (c : ℕ) (frame : IpFrame) (o : Option IpFrame) : Type 0 where
  Requested : (ch : ℕ) → frame ≡ DisconnectRequest ch → o ≡ Some (DisconnectResponse c 0) → PartsBy c frame o
  Responded : (ch status : ℕ) → frame ≡ DisconnectResponse ch status → o ≡ None → PartsBy c frame o
  Told : (ch status : ℕ) → frame ≡ StateResponse ch status → o ≡ Some (DisconnectRequest c) → PartsBy c frame o

none_false : (a : Bool) → (a && false) ≡ false
none_false true = refl
none_false false = refl

module _ (c : ℕ) (l : List Entry) (octets : List ℕ) (now : ℕ) (timely : has_lapsed c l now ≡ false) (loses : is_lost c l (entry (Got octets) now) ≡ true) where
  abbrev x : Entry
  x = entry (Got octets) now

  not_lost : is_lost c l x ≡ false → ⊥
  not_lost n = let z : true ≡ false = sym loses ∙ n in cc

  requested : (ch : ℕ) (b : Bool) → datagram_in octets ≡ Some (DisconnectRequest ch) → eqb ch c ≡ b → PartsBy c (DisconnectRequest ch) (parting c l x)
  requested ch true is q = Requested ch refl (rw (timely, is, q) refl)
  requested ch false is q = absurd (not_lost (rw (timely, is, q) (none_false (has_left c l))))

  told : (ch status : ℕ) (b : Bool) → datagram_in octets ≡ Some (StateResponse ch status) → tells_bad c (beats c l) now (Some (record { channel = ch; status = status })) ≡ b → PartsBy c (StateResponse ch status) (parting c l x)
  told ch status true is q = Told ch status refl (rw (timely, is, q) refl)
  told ch status false is q = absurd (not_lost (rw (timely, is, q) (none_false (has_left c l))))

  pub parts_by : (frame : IpFrame) → datagram_in octets ≡ Some frame → PartsBy c frame (parting c l x)
  parts_by ConnectRequest is = absurd (not_lost (rw (timely, is) (none_false (has_left c l))))
  parts_by (ConnectResponse ch status tunnel) is = absurd (not_lost (rw (timely, is) (none_false (has_left c l))))
  parts_by (StateRequest ch) is = absurd (not_lost (rw (timely, is) (none_false (has_left c l))))
  parts_by (StateResponse ch status) is = told ch status (tells_bad c (beats c l) now (Some (record { channel = ch; status = status }))) is refl
  parts_by (DisconnectRequest ch) is = requested ch (eqb ch c) is refl
  parts_by (DisconnectResponse ch status) is = Responded ch status refl (rw (timely, is) refl)
  parts_by (TunnellingRequest ch number cemi) is = absurd (not_lost (rw (timely, is) (none_false (has_left c l))))
  parts_by (TunnellingAck ch number status) is = absurd (not_lost (rw (timely, is) (none_false (has_left c l))))

-- the entry loses the channel, whose number it is
pub record LosesIt (c : ℕ) (l : List Entry) (x : Entry) (d : ℕ) : Type 0 where
  pub loses : is_lost c l x ≡ true
  pub same : d ≡ c

loses_by : (c : ℕ) (l : List Entry) (octets : List ℕ) (now d : ℕ) (b : Bool) → is_lost c l (entry (Got octets) now) ≡ b → after_entry (seen.Open c l) (entry (Got octets) now) ≡ seen.Lost d → LosesIt c l (entry (Got octets) now) d
unfolding after_entry
loses_by c l octets now d true q is = record { loses = q; same = let e : (after_entry (seen.Open c l) (entry (Got octets) now) ≡ seen.Lost c) = rw q refl in let z : (seen.Lost d ≡ seen.Lost c) = sym is ∙ e in cc }
loses_by c l octets now d false q is = absurd (let e : (after_entry (seen.Open c l) (entry (Got octets) now) ≡ seen.Open c (entry (Got octets) now ∷ l)) = rw q refl in let z : (seen.Lost d ≡ seen.Open c (entry (Got octets) now ∷ l)) = sym is ∙ e in cc)

pub loses_it : (r : List Entry) (octets : List ℕ) (now c : ℕ) (l : List Entry) (d : ℕ) → channel r ≡ seen.Open c l → channel (entry (Got octets) now ∷ r) ≡ seen.Lost d → LosesIt c l (entry (Got octets) now) d
loses_it r octets now c l d at is = loses_by c l octets now d (is_lost c l (entry (Got octets) now)) refl (ap (λ (ch : ClientChannel). after_entry ch (entry (Got octets) now)) (sym at) ∙ is)

parting_is_by : (ch : ClientChannel) (x : Entry) (after : ClientChannel) (before : Option IpFrame) (c : ℕ) (l : List Entry) (d : ℕ) → ch ≡ seen.Open c l → after ≡ seen.Lost d → parting_in ch x after before ≡ parting c l x
parting_is_by ch x after before c l d at is = rw (at, is) refl

pub parting_is : (r : List Entry) (x : Entry) (c : ℕ) (l : List Entry) (d : ℕ) → channel r ≡ seen.Open c l → channel (x ∷ r) ≡ seen.Lost d → parting_of (x ∷ r) ≡ parting c l x
parting_is r x c l d at is = parting_is_by (channel r) x (channel (x ∷ r)) (parting_of r) c l d at is

-- ---- what the client answers then

not_asked : (ch d : ℕ) (b : Bool) → eqb ch d ≡ b → (if eqb ch d then took.Gone (Some (Written (DisconnectResponse ch 0))) else took.Dropped) ≡ took.Gone None → ⊥
not_asked ch d true q h = absurd (cc)
not_asked ch d false q h = absurd (cc)

-- a disconnect request is answered
pub is_answered : (end : ClientEnd) (ch now : ℕ) (b : Bool) → is_over end now ≡ b → channel_took end (DisconnectRequest ch) now ≡ took.Gone None → ⊥
unfolding channel_took
is_answered end ch now true q h = absurd (let e : (channel_took end (DisconnectRequest ch) now ≡ took.Dropped) = rw q refl in cc)
is_answered Idle ch now false q h = absurd (cc)
is_answered (Seeking since) ch now false q h = absurd (let e : (channel_took (Seeking since) (DisconnectRequest ch) now ≡ took.Dropped) = rw q refl in cc)
is_answered (Open e) ch now false q h = not_asked ch e.channel (eqb ch e.channel) refl (let s : (channel_took (Open e) (DisconnectRequest ch) now ≡ (if eqb ch e.channel then took.Gone (Some (Written (DisconnectResponse ch 0))) else took.Dropped)) = rw q refl in sym s ∙ h)
is_answered (Leaving e) ch now false q h = not_asked ch e.channel (eqb ch e.channel) refl (let s : (channel_took (Leaving e) (DisconnectRequest ch) now ≡ (if eqb ch e.channel then took.Gone (Some (Written (DisconnectResponse ch 0))) else took.Dropped)) = rw q refl in sym s ∙ h)
is_answered (JustLost c) ch now false q h = absurd (cc)

-- without a channel nothing ends one
pub idle_loses : (frame : IpFrame) (now : ℕ) → channel_took Idle frame now ≡ took.Gone None → ⊥
unfolding channel_took
idle_loses frame now h = absurd (cc)

pub lost_idle : (end : ClientEnd) → lost end ≡ Idle → end ≡ Idle
lost_idle Idle h = refl
lost_idle (Seeking since) h = absurd (cc)
lost_idle (Open e) h = absurd (cc)
lost_idle (Leaving e) h = absurd (cc)
lost_idle (JustLost c) h = absurd (cc)

-- a datagram that may be sent where the channel was just lost, and that asks for none and doesn't ask to end one, answers the gateway's disconnect request
pub record AnswersIt (r : List Entry) (o : Option IpFrame) (d : ℕ) : Type 0 where
  pub is : o ≡ Some (DisconnectResponse d 0)
  pub got : end_got r ≡ Some d

owns_lost : (c d : ℕ) (ch : ClientChannel) → ch ≡ seen.Lost d → OwnsChannel c ch → c ≡ d
owns_lost c d ch at h = subst (OwnsChannel c) at h

none_open : (P : ℕ → List Entry → Type 0) (ch : ClientChannel) (d : ℕ) → ch ≡ seen.Lost d → OfOpen P ch → ⊥
none_open P ch d at h = subst (OfOpen P) at h

pub answers_it : (r : List Entry) (y : Entry) (o : Option IpFrame) (d : ℕ) → channel r ≡ seen.Lost d → owed r ≡ None → disconnect_request_in o ≡ None → (is_connect_request o ≡ true → ⊥) → IsRightFrame r y o → AnswersIt r o d
answers_it r y None d at paid asks connects h = absurd h
answers_it r y (Some ConnectRequest) d at paid asks connects h = absurd (connects refl)
answers_it r y (Some (ConnectResponse c status tunnel)) d at paid asks connects h = absurd h
answers_it r y (Some (StateRequest c)) d at paid asks connects h = absurd (none_open _ (channel r) d at h)
answers_it r y (Some (StateResponse c status)) d at paid asks connects h = absurd h
answers_it r y (Some (DisconnectRequest c)) d at paid asks connects h = absurd (cc)
answers_it r y (Some (DisconnectResponse c status)) d at paid asks connects h =
    let same : c ≡ d = owns_lost c d (channel r) at h.its_own in
    record { is = ap (λ n. Some (DisconnectResponse c n)) h.agreed ∙ ap (λ n. Some (DisconnectResponse n 0)) same; got = h.got_just_now ∙ ap (λ n. Some n) same }
answers_it r y (Some (TunnellingRequest c number cemi)) d at paid asks connects h = absurd (none_open _ (channel r) d at h)
answers_it r y (Some (TunnellingAck c number status)) d at paid asks connects h = absurd (let z : (None ≡ Some (TunnellingAck c number status)) = sym paid ∙ h in cc)
