-- Each call of the client's end of a tunnel follows the link's record: where the end fits the record before the call, what it knows then fits
-- the record with the entry that the call brings, and what it gives to be sent is a datagram that the client may send. No link is named: it
-- holds of every record. The times of the record aren't greater than that of the call.
use Rattle.std.specs.Prelude.{◌≡◌, ◌≢◌, ℕ, ◌≤◌, Bool, true, false, not, ◌&&◌, ◌||◌, is_none, is_some, List, [], ◌∷◌, option_map, if◌then◌else◌, Option, Some, None}
use Rattle.knx_model.specs.declared.frames.cemi.Ldata.{Ldata}
use Rattle.knx_model.specs.declared.frames.ip.IpFrame.{IpFrame}
use Rattle.knx_model.specs.declared.frames.ip.IpFrame.TheVariants.{ConnectRequest}
use Rattle.knx_model.specs.KnxNetIp.{Written}
use Rattle.knx_model.specs.Connection.{has_passed}
use Rattle.line_model.specs.declared.client_end.ChannelTook.{ChannelTook}
use Rattle.line_model.specs.declared.client_end.ChannelTook.TheVariants as took
use Rattle.line_model.specs.declared.client_end.ChannelExpired.{ChannelExpired}
use Rattle.line_model.specs.declared.client_end.ChannelExpired.TheVariants as due
use Rattle.line_model.specs.Reading.{datagram_in, ldata_in, disconnect_request_in}
use Rattle.line_model.specs.Record.{Item, Put, Renewed, Got, Entry, entry, got_in, is_poll}
use Rattle.line_model.specs.LinkStory.{newest_time}
use Rattle.line_model.specs.ChannelLost.{answer_wait, own, acknowledged, confirmed, is_confirmation_of, beats, is_given_up, is_unconfirmed, is_dead, has_lapsed}
use Rattle.line_model.specs.ClientView as seen
use Rattle.line_model.specs.ClientView.{ClientChannel, channel, Deed, Puts, Takes, Loses, Nothing, traffic, deed}
use Rattle.line_model.specs.Dropped.{is_dropped}
use Rattle.line_model.specs.Renews.{RenewsSo, MayLeave, IsOwed, owed, is_just_renewed, is_repeat_due, is_beat_due, is_left}
use Rattle.line_model.specs.Sendings.{IsRightItem}
use Rattle.line_model.specs.ClientEnd.{ClientEnd, Idle, Seeking, Open, Leaving, JustLost, open_end, is_over, channel_put, after_put, channel_expired, after_expired, channel_left, after_leave, lost}
use Rattle.line_model.specs.ClientFrames.{channel_took, after_took}
use Rattle.tunnel_channel.specs.Fits.{Fits, acknowledged_in, confirmed_in, last_in}

-- the datagram is one that the client may send, and the end then knows what the record says
pub record Sends (after : ClientEnd) (octets : List ℕ) (now : ℕ) (r : List Entry) : Type 0 where
  pub may : IsRightItem r (entry (Put octets) now) (Put octets)
  pub fits : Fits after (entry (Put octets) now ∷ r)

-- ---- no channel

abbrev pub NewFollows : Type 0
NewFollows = Fits Idle []

-- the connect request comes directly after a new endpoint, and a new endpoint, after the first, only where the last one has no channel
-- any longer
pub record Connects (end : ClientEnd) (now : ℕ) (r : List Entry) : Type 0 where
  pub sends : is_just_renewed r ≡ true → Sends (Seeking now) (Written ConnectRequest) now r
  pub right : is_just_renewed r ≡ true → RenewsSo r (entry (Put (Written ConnectRequest)) now)
  pub leaves : Fits end r → channel r ≢ seen.Fresh → MayLeave (channel r)

abbrev pub ConnectFollows : ClientEnd → ℕ → Type 0
ConnectFollows end now = (r : List Entry) → Connects end now r

-- ---- a request, where the time hasn't ended the channel: it is put in the open channel

pub record PutsRequest (end : ClientEnd) (cemi octets : List ℕ) (now : ℕ) (r : List Entry) : Type 0 where
  pub sends : Sends (after_put end cemi now) octets now r
  pub deed : deed (channel r) (entry (Put octets) now) ≡ Puts cemi
  pub right : RenewsSo r (entry (Put octets) now)
  pub unacknowledged : acknowledged_in (channel (entry (Put octets) now ∷ r)) ≡ None
  pub unconfirmed : confirmed_in (channel (entry (Put octets) now ∷ r)) ≡ false
  pub frame : last_in (channel (entry (Put octets) now ∷ r)) ≡ ldata_in cemi

abbrev pub PutFollows : ClientEnd → List ℕ → ℕ → Type 0
PutFollows end cemi now = (r : List Entry) (octets : List ℕ) → Fits end r → newest_time r ≤ now → is_over end now ≡ false → channel_put end cemi ≡ Some octets → PutsRequest end cemi octets now r

-- ---- a frame that was got

-- a confirmation didn't come in time; of that this end is told by `lost` alone
abbrev pub is_confirmation_late : ClientChannel → ℕ → Bool
is_confirmation_late (seen.Open c l) now = is_unconfirmed (acknowledged c l) (confirmed c l) now
is_confirmation_late _ now = false

abbrev pub acknowledgement_in : ChannelTook → Option (List ℕ)
acknowledgement_in (took.Cemi octets ack) = Some ack
acknowledgement_in (took.Again ack) = Some ack
acknowledgement_in _ = None

-- the datagram that is to be sent
abbrev pub answer_in : ChannelTook → Option (List ℕ)
answer_in (took.Cemi octets ack) = Some ack
answer_in (took.Again ack) = Some ack
answer_in (took.Gone answer) = answer
answer_in _ = None

abbrev pub cemi_in : ChannelTook → Option (List ℕ)
cemi_in (took.Cemi octets ack) = Some octets
cemi_in _ = None

abbrev pub taken_in : Deed → Option (List ℕ)
taken_in (Takes octets) = Some octets
taken_in _ = None

-- the datagram counts as dropped: it acts on nothing, or its cEMI octets, which this end doesn't look into, don't read
abbrev pub is_told_dropped : ChannelTook → Bool
is_told_dropped took.Dropped = true
is_told_dropped (took.Cemi octets ack) = is_none (ldata_in octets)
is_told_dropped _ = false

-- what a frame changed: a channel came up, the gateway refused one with this status, the channel ended, or nothing of these
pub data Change : Type 0 where
  Opens : Change
  Refuses : ℕ → Change
  Ends : Change
  Stays : Change

abbrev pub change : ClientChannel → ClientChannel → Change
change (seen.Sought since) (seen.Open c l) = Opens
change (seen.Sought since) (seen.RefusedBy status) = Refuses status
change (seen.Open c l) (seen.Lost d) = Ends
change _ _ = Stays

abbrev pub change_told : ChannelTook → Change
change_told (took.Up tunnel) = Opens
change_told (took.RefusedBy status) = Refuses status
change_told (took.Gone answer) = Ends
change_told _ = Stays

-- what came of the request put last: its acknowledgement is told so, and its confirmation, by its frame, is given
abbrev pub acknowledged_by : ChannelTook → ℕ → Option ℕ → Option ℕ
acknowledged_by took.Dropped now before = before
acknowledged_by (took.Up tunnel) now before = None
acknowledged_by (took.RefusedBy status) now before = before
acknowledged_by took.Acked now before = Some now
acknowledged_by (took.Cemi octets ack) now before = before
acknowledged_by (took.Again ack) now before = before
acknowledged_by (took.Gone answer) now before = None
acknowledged_by took.Alive now before = before

abbrev pub confirmed_by : ChannelTook → Option Ldata → Bool → Bool
confirmed_by took.Dropped last before = before
confirmed_by (took.Up tunnel) last before = true
confirmed_by (took.RefusedBy status) last before = before
confirmed_by took.Acked last before = before
confirmed_by (took.Cemi octets ack) last before = if is_confirmation_of last (ldata_in octets) then true else before
confirmed_by (took.Again ack) last before = before
confirmed_by (took.Gone answer) last before = true
confirmed_by took.Alive last before = before

-- where the time hasn't ended the channel or the wait for one, the answer tells what changed
pub record TakesFrame (after : ClientEnd) (told : ChannelTook) (over : Bool) (octets : List ℕ) (now : ℕ) (r : List Entry) : Type 0 where
  pub fits : Fits after (entry (Got octets) now ∷ r)
  pub changes : over ≡ false → change (channel r) (channel (entry (Got octets) now ∷ r)) ≡ change_told told
  pub drops : is_dropped r (entry (Got octets) now) ≡ is_told_dropped told
  pub gives : taken_in (traffic (channel r) (entry (Got octets) now)) ≡ cemi_in told
  pub acknowledges : option_map Written (owed (entry (Got octets) now ∷ r)) ≡ acknowledgement_in told
  pub answers : (answer : List ℕ) → answer_in told ≡ Some answer → Sends after answer now (entry (Got octets) now ∷ r)
  pub owes : (answer : List ℕ) → answer_in told ≡ Some answer → IsOwed (owed (entry (Got octets) now ∷ r)) (entry (Put answer) now)
  pub right : (answer : List ℕ) → answer_in told ≡ Some answer → RenewsSo (entry (Got octets) now ∷ r) (entry (Put answer) now)
  pub no_deed : (answer : List ℕ) → answer_in told ≡ Some answer → deed (channel (entry (Got octets) now ∷ r)) (entry (Put answer) now) ≡ Nothing
  pub asks_not : (answer : List ℕ) → answer_in told ≡ Some answer → disconnect_request_in (datagram_in answer) ≡ None
  pub acked : over ≡ false → acknowledged_in (channel (entry (Got octets) now ∷ r)) ≡ acknowledged_by told now (acknowledged_in (channel r))
  pub confirms : over ≡ false → confirmed_in (channel (entry (Got octets) now ∷ r)) ≡ confirmed_by told (last_in (channel r)) (confirmed_in (channel r))

abbrev pub TakeFollows : ClientEnd → IpFrame → ℕ → Type 0
TakeFollows end frame now =
    (r : List Entry) (octets : List ℕ) → Fits end r → newest_time r ≤ now → is_confirmation_late (channel r) now ≡ false → datagram_in octets ≡ Some frame
    → TakesFrame (after_took end frame now (channel_took end frame now)) (channel_took end frame now) (is_over end now) octets now r

-- ---- the time

-- the record has come to this time: what has lapsed by then is lost there
abbrev pub IsCurrent : ClientChannel → ℕ → Type 0
IsCurrent (seen.Sought since) now = has_passed answer_wait since now ≡ false
IsCurrent (seen.Open c l) now = has_lapsed c l now ≡ false
IsCurrent _ now = Unit {0}

abbrev pub sent_by : ChannelExpired → Option (List ℕ)
sent_by (due.Repeat octets) = Some octets
sent_by (due.Beat octets) = Some octets
sent_by _ = None

abbrev pub is_told_lost : ChannelExpired → Bool
is_told_lost due.Lost = true
is_told_lost _ = false

abbrev pub is_told_dead : ChannelExpired → Bool
is_told_dead due.Dead = true
is_told_dead _ = false

abbrev pub is_told_repeat : ChannelExpired → Bool
is_told_repeat (due.Repeat octets) = true
is_told_repeat _ = false

abbrev pub is_told_beat : ChannelExpired → Bool
is_told_beat (due.Beat octets) = true
is_told_beat _ = false

abbrev pub is_told_unanswered : ChannelExpired → Bool
is_told_unanswered due.NoAnswer = true
is_told_unanswered _ = false

abbrev pub is_told_over : ChannelExpired → Bool
is_told_over due.Nothing = false
is_told_over (due.Repeat octets) = false
is_told_over due.Lost = true
is_told_over due.NoAnswer = true
is_told_over (due.Beat octets) = false
is_told_over due.Dead = true

abbrev pub is_up_or_sought : ClientEnd → Bool
is_up_or_sought Idle = false
is_up_or_sought (Seeking since) = true
is_up_or_sought (Open e) = true
is_up_or_sought (Leaving e) = true
is_up_or_sought (JustLost c) = false

-- where the record shows the channel open, each answer comes exactly by its cause there, of several that are due the first
pub record TellsDue (told : ChannelExpired) (now c : ℕ) (l : List Entry) : Type 0 where
  pub given_up : is_told_lost told ≡ is_given_up (own c l).sent now
  pub dead : is_told_dead told ≡ (not (is_given_up (own c l).sent now) && is_dead (beats c l) now)
  pub repeat_due : is_told_repeat told ≡ (not (is_given_up (own c l).sent now || is_dead (beats c l) now) && is_repeat_due (own c l).sent now)
  pub beat_due : is_told_beat told ≡ (not (is_given_up (own c l).sent now || is_dead (beats c l) now || is_repeat_due (own c l).sent now) && is_beat_due c l now)

-- a repeat and a heartbeat are sent, and put nothing new; where the record has come to this time, a loss and a failed try are told exactly
-- where it has them
pub record Expires (end after : ClientEnd) (told : ChannelExpired) (now : ℕ) (r : List Entry) : Type 0 where
  pub sends : (octets : List ℕ) → sent_by told ≡ Some octets → Sends after octets now r
  pub no_deed : (octets : List ℕ) → sent_by told ≡ Some octets → deed (channel r) (entry (Put octets) now) ≡ Nothing
  pub right : (octets : List ℕ) → sent_by told ≡ Some octets → RenewsSo r (entry (Put octets) now)
  pub asks_not : (octets : List ℕ) → sent_by told ≡ Some octets → disconnect_request_in (datagram_in octets) ≡ None
  pub rests : sent_by told ≡ None → IsCurrent (channel r) now → Fits after r
  pub by_cause : (c : ℕ) (l : List Entry) → channel r ≡ seen.Open c l → TellsDue told now c l
  pub unanswered : (since : ℕ) → channel r ≡ seen.Sought since → is_told_unanswered told ≡ has_passed answer_wait since now
  pub over : IsCurrent (channel r) now → is_told_over told ≡ (is_up_or_sought end && is_left (channel r))

abbrev pub ExpireFollows : ClientEnd → ℕ → Type 0
ExpireFollows end now = (r : List Entry) → Fits end r → newest_time r ≤ now → Expires end (after_expired end now (channel_expired end now)) (channel_expired end now) now r

-- ---- a confirmation that didn't come in time

abbrev pub LostFollows : ClientEnd → Type 0
LostFollows end =
    (r : List Entry) (what : Item) (now : ℕ) → Fits end r → is_some (open_end end) ≡ true → is_poll what ≡ true → is_confirmation_late (channel r) now ≡ true → Fits (lost end) (entry what now ∷ r)

-- ---- the end of a channel

abbrev pub LeaveFollows : ClientEnd → Type 0
LeaveFollows end = (r : List Entry) (octets : List ℕ) (now : ℕ) → Fits end r → newest_time r ≤ now → channel_left end ≡ Some octets → Sends (after_leave end) octets now r

-- ---- what the end isn't told

-- a quiet wait, or a datagram that doesn't read
abbrev pub QuietFollows : Type 0
QuietFollows =
    (end : ClientEnd) (r : List Entry) (what : Item) (now : ℕ) → Fits end r → newest_time r ≤ now → is_confirmation_late (channel r) now ≡ false → is_poll what ≡ true → got_in what ≡ None
    → Fits end (entry what now ∷ r)

-- a new endpoint, where there is no channel and none is sought; the one just lost is lost for good then
abbrev pub RenewalFollows : Type 0
RenewalFollows = (r : List Entry) (now : ℕ) → Fits Idle (entry Renewed now ∷ r)

abbrev pub PollsAreCurrent : Type 0
PollsAreCurrent = (r : List Entry) (what : Item) (now : ℕ) → is_poll what ≡ true → IsCurrent (channel (entry what now ∷ r)) now

abbrev pub SendingsStayCurrent : Type 0
SendingsStayCurrent = (r : List Entry) (octets : List ℕ) (now : ℕ) → IsCurrent (channel r) now → IsCurrent (channel (entry (Put octets) now ∷ r)) now
