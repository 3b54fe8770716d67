-- The client's end of a tunnel (ISO 22510, Core and Tunnelling): what it knows, what it answers to the time and to a request that is to be put,
-- what ends its channel, and what it knows then. Its answers to frames are in `ClientFrames`.
--
--                           status 0, within
--   connect  +---------+       10,000 ms       +------+   leave   +---------+
--    +-----> | Seeking | --------------------> | Open | --------> | Leaving |
--    |       +---------+                       +------+           +---------+
--    |            | another status, or 10,000 ms    |                  |
--    |            | without response                |                  |
--    |            v        disconnect request       |                  |  disconnect request
--    |       +---------+ <--------------------------+                  |  or response
--    +------ |  Idle   | <---------------------------------------------+
--    |       +---------+                            |                  |
--    |            ^ leave                           |  lost otherwise  |
--    |       +----------+                           |                  |
--    +------ | JustLost | <-------------------------+------------------+
--            +----------+
--
-- In Open and Leaving requests are put and taken and heartbeats are sent alike. Otherwise lost is the channel after a request that was sent
-- twice, three heartbeats in turn without answer, a heartbeat's answer with a status other than 0, and a confirmation that didn't come: of
-- the last this end is told. A frame that is got when the time alone has ended what it would act on is dropped.
use Rattle.std.specs.Prelude.{ℕ, suc, Bool, true, false, ◌&&◌, ◌||◌, nat_le, ◌≤◌, List, length, Option, Some, None, if◌then◌else◌}
use Rattle.knx_model.specs.declared.frames.ip.IpFrame.{IpFrame}
use Rattle.knx_model.specs.declared.frames.ip.IpFrame.TheVariants.{StateRequest, DisconnectRequest, TunnellingRequest}
use Rattle.knx_model.specs.KnxNetIp.{Written}
use Rattle.knx_model.specs.Connection.{has_passed, wait_end, earlier_time}
use Rattle.line_model.specs.declared.client_end.ChannelExpired.{ChannelExpired}
use Rattle.line_model.specs.declared.client_end.ChannelExpired.TheVariants as due
use Rattle.line_model.specs.declared.put_refused.PutRefused.{PutRefused}
use Rattle.line_model.specs.declared.put_refused.PutRefused.TheVariants as refused
use Rattle.line_model.specs.Gateway.{acknowledgement_wait}
use Rattle.line_model.specs.ChannelLost.{answer_wait, heartbeat_pause}
use Rattle.line_model.specs.Written.{IsRequest}

-- ---- what it knows

-- its request in the channel
pub data Outstanding : Type 0 where
  Free : Outstanding  -- each one is acknowledged
  Once : List ℕ → ℕ → Outstanding  -- this datagram was sent at this time
  Again : ℕ → Outstanding  -- it was sent once more at this time

pub record OpenEnd : Type 0 where
  pub channel : ℕ
  pub expected : ℕ  -- the number of the gateway's next request
  pub number : ℕ  -- the number of the own request that is outstanding or, where none is, of the next one
  pub request : Outstanding
  pub unanswered : ℕ  -- how many heartbeats in turn have no answer
  pub beat : ℕ  -- when the last heartbeat was sent or, before the first, the channel came up

pub data ClientEnd : Type 0 where
  Idle : ClientEnd  -- no channel, and none is sought
  Seeking : ℕ → ClientEnd  -- a connect request was sent at this time
  Open : OpenEnd → ClientEnd
  Leaving : OpenEnd → ClientEnd  -- the channel is open, and its end was asked for
  JustLost : ℕ → ClientEnd  -- no channel: the one with this number was lost, which the gateway isn't told

abbrev pub new_channel : ℕ → ℕ → OpenEnd
new_channel channel now = record { channel = channel; expected = 0; number = 0; request = Free; unanswered = 0; beat = now }

-- what it knows of its channel, where it has one
abbrev pub open_end : ClientEnd → Option OpenEnd
open_end Idle = None
open_end (Seeking since) = None
open_end (Open e) = Some e
open_end (Leaving e) = Some e
open_end (JustLost channel) = None

abbrev pub with_channel : (OpenEnd → OpenEnd) → ClientEnd → ClientEnd
with_channel f Idle = Idle
with_channel f (Seeking since) = Seeking since
with_channel f (Open e) = Open (f e)
with_channel f (Leaving e) = Leaving (f e)
with_channel f (JustLost channel) = JustLost channel

-- it may seek a channel
abbrev pub MayConnect : ClientEnd → Type 0
MayConnect Idle = Unit {0}
MayConnect (Seeking since) = ⊥
MayConnect (Open e) = ⊥
MayConnect (Leaving e) = ⊥
MayConnect (JustLost channel) = Unit {0}

-- the channel is lost
abbrev pub lost : ClientEnd → ClientEnd
lost Idle = Idle
lost (Seeking since) = Seeking since
lost (Open e) = JustLost e.channel
lost (Leaving e) = JustLost e.channel
lost (JustLost channel) = JustLost channel

-- ---- the time

-- three heartbeats in turn
abbrev pub most_unanswered : ℕ
most_unanswered = 3

abbrev pub is_given_up : Outstanding → ℕ → Bool
is_given_up Free now = false
is_given_up (Once octets since) now = false
is_given_up (Again since) now = has_passed acknowledgement_wait since now

abbrev pub is_dead : OpenEnd → ℕ → Bool
is_dead e now = nat_le most_unanswered e.unanswered && has_passed answer_wait e.beat now

-- the time alone has ended the channel, or the wait for one
abbrev pub is_over : ClientEnd → ℕ → Bool
is_over Idle now = false
is_over (Seeking since) now = has_passed answer_wait since now
is_over (Open e) now = is_given_up e.request now || is_dead e now
is_over (Leaving e) now = is_given_up e.request now || is_dead e now
is_over (JustLost channel) now = false

-- the outstanding request, where it is to be sent once more
abbrev pub repeat_due : Outstanding → ℕ → Option (List ℕ)
repeat_due Free now = None
repeat_due (Once octets since) now = if has_passed acknowledgement_wait since now then Some octets else None
repeat_due (Again since) now = None

abbrev pub repeat_or_beat : Option (List ℕ) → OpenEnd → ℕ → ChannelExpired
repeat_or_beat (Some octets) e now = due.Repeat octets
repeat_or_beat None e now = if has_passed heartbeat_pause e.beat now then due.Beat (Written (StateRequest e.channel)) else due.Nothing

abbrev pub open_expired : OpenEnd → ℕ → ChannelExpired
open_expired e now =
    if is_given_up e.request now then due.Lost
    else (if is_dead e now then due.Dead
    else repeat_or_beat (repeat_due e.request now) e now)

-- what has become due: of several the first of Lost, NoAnswer, Dead, Repeat and Beat
unfoldable pub channel_expired : ClientEnd → ℕ → ChannelExpired
channel_expired Idle now = due.Nothing
channel_expired (Seeking since) now = if has_passed answer_wait since now then due.NoAnswer else due.Nothing
channel_expired (Open e) now = open_expired e now
channel_expired (Leaving e) now = open_expired e now
channel_expired (JustLost channel) now = due.Nothing

abbrev pub repeated : ℕ → OpenEnd → OpenEnd
repeated now e = record e { request = Again now }

abbrev pub beaten : ℕ → OpenEnd → OpenEnd
beaten now e = record e { unanswered = suc e.unanswered; beat = now }

-- what it knows after that became due
unfoldable pub after_expired : ClientEnd → ℕ → ChannelExpired → ClientEnd
after_expired end now due.Nothing = end
after_expired end now (due.Repeat octets) = with_channel (repeated now) end
after_expired end now due.Lost = lost end
after_expired end now due.NoAnswer = Idle
after_expired end now (due.Beat octets) = with_channel (beaten now) end
after_expired end now due.Dead = lost end

abbrev pub request_end : Outstanding → Option ℕ
request_end Free = None
request_end (Once octets since) = Some (wait_end acknowledgement_wait since)
request_end (Again since) = Some (wait_end acknowledgement_wait since)

-- after three heartbeats the answer is awaited, and else the next one is sent after its pause
abbrev pub beat_end : OpenEnd → ℕ
beat_end e = wait_end (if nat_le most_unanswered e.unanswered then answer_wait else heartbeat_pause) e.beat

abbrev pub earlier_of : Option ℕ → ℕ → ℕ
earlier_of None time = time
earlier_of (Some other) time = earlier_time other time

-- the nearest time at which something becomes due
unfoldable pub channel_deadline : ClientEnd → Option ℕ
channel_deadline Idle = None
channel_deadline (Seeking since) = Some (wait_end answer_wait since)
channel_deadline (Open e) = Some (earlier_of (request_end e.request) (beat_end e))
channel_deadline (Leaving e) = Some (earlier_of (request_end e.request) (beat_end e))
channel_deadline (JustLost channel) = None

-- ---- a request that is to be put

-- the octets of a cEMI frame that a request can carry, as they are written
pub record IsCemi (cemi : List ℕ) : Type 0 where
  pub some : 1 ≤ length cemi
  pub fits : length cemi ≤ 290
  pub is : IsRequest cemi

abbrev pub is_free : Outstanding → Bool
is_free Free = true
is_free (Once octets since) = false
is_free (Again since) = false

abbrev pub put_in_channel : Option OpenEnd → Option PutRefused
put_in_channel None = Some refused.NotUp
put_in_channel (Some e) = if is_free e.request then None else Some refused.Busy

-- why it isn't put
abbrev pub put_refused : ClientEnd → Option PutRefused
put_refused end = put_in_channel (open_end end)

abbrev pub request_of : OpenEnd → List ℕ → IpFrame
request_of e cemi = TunnellingRequest e.channel e.number cemi

abbrev pub put_octets : Option OpenEnd → List ℕ → Option (List ℕ)
put_octets None cemi = None
put_octets (Some e) cemi = if is_free e.request then Some (Written (request_of e cemi)) else None

-- the datagram that puts it
abbrev pub channel_put : ClientEnd → List ℕ → Option (List ℕ)
channel_put end cemi = put_octets (open_end end) cemi

abbrev pub with_request : List ℕ → ℕ → OpenEnd → OpenEnd
with_request cemi now e = if is_free e.request then record e { request = Once (Written (request_of e cemi)) now } else e

abbrev pub after_put : ClientEnd → List ℕ → ℕ → ClientEnd
after_put end cemi now = with_channel (with_request cemi now) end

-- ---- the end of a channel

-- the disconnect request for the channel that is open or was just lost
abbrev pub channel_left : ClientEnd → Option (List ℕ)
channel_left Idle = None
channel_left (Seeking since) = None
channel_left (Open e) = Some (Written (DisconnectRequest e.channel))
channel_left (Leaving e) = Some (Written (DisconnectRequest e.channel))
channel_left (JustLost channel) = Some (Written (DisconnectRequest channel))

abbrev pub after_leave : ClientEnd → ClientEnd
after_leave Idle = Idle
after_leave (Seeking since) = Seeking since
after_leave (Open e) = Leaving e
after_leave (Leaving e) = Leaving e
after_leave (JustLost channel) = Idle
