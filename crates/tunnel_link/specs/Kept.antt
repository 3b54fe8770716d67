-- What the client keeps of the tunnel beside its end of the channel: what came of the request that it put last, how the tries to get a channel
-- failed, and how many datagrams were dropped and got. And what each call leaves it knowing: one equation a call.
use Rattle.std.specs.Prelude.{ℕ, ◌+◌, ◌-◌, ◌^◌, min, Bool, true, false, ◌&&◌, ◌||◌, is_some, List, [], ◌∷◌, Option, Some, None, if◌then◌else◌}
use Rattle.knx_model.specs.declared.address.IndAddr.{IndAddr}
use Rattle.knx_model.specs.declared.frames.cemi.Ldata.{Ldata}
use Rattle.knx_model.specs.declared.frames.ip.IpFrame.{IpFrame}
use Rattle.knx_model.specs.declared.frames.ip.IpFrame.TheVariants.{StateResponse}
use Rattle.knx_model.specs.Connection.{wait_end, nearer}
use Rattle.line_model.specs.declared.client_end.ChannelExpired.{ChannelExpired}
use Rattle.line_model.specs.declared.client_end.ChannelExpired.TheVariants as due
use Rattle.line_model.specs.declared.client_end.ChannelTook.{ChannelTook}
use Rattle.line_model.specs.declared.client_end.ChannelTook.TheVariants as took
use Rattle.line_model.specs.declared.fault.HubFault.{HubFault}
use Rattle.line_model.specs.declared.fault.HubFault.TheVariants.{GatewayRefused}
use Rattle.line_model.specs.declared.fault.Try.{Try}
use Rattle.line_model.specs.declared.fault.Try.TheVariants as try
use Rattle.line_model.specs.Reading.{datagram_in, ldata_in, is_con}
use Rattle.line_model.specs.ChannelLost.{confirmation_wait, is_unconfirmed, is_confirmation_of}
use Rattle.line_model.specs.ClientView.{is_stray}
use Rattle.line_model.specs.ClientEnd.{ClientEnd, Seeking, open_end, is_over, channel_deadline, lost, channel_put, after_put, channel_expired, after_expired, channel_left, after_leave}
use Rattle.line_model.specs.ClientFrames.{channel_took, after_took}
use Rattle.tunnel_link.specs.declared.came.Answer.{Answer}
use Rattle.tunnel_link.specs.declared.came.Loss.{Loss}
use Rattle.tunnel_link.specs.declared.came.Loss.TheVariants.{Stays, Ended, Told}
use Rattle.tunnel_link.specs.declared.came.What.{What}
use Rattle.tunnel_link.specs.declared.came.What.TheVariants as came
use Rattle.tunnel_link.specs.declared.flight.Flight.{Flight}
use Rattle.tunnel_link.specs.declared.known.Known.{Known}
use Rattle.tunnel_link.specs.declared.tries.Tries.{Tries}
use Rattle.tunnel_link.specs.declared.tries.Tries.TheVariants.{Zero, One, Two, Three}

-- ---- the place in flight

-- nothing is awaited
abbrev pub none_in_flight : Flight
none_in_flight = record { acknowledged = None; confirmed = true }

-- a request was put
abbrev pub one_in_flight : Flight
one_in_flight = record { acknowledged = None; confirmed = false }

-- when the wait for a confirmation has passed
abbrev pub confirmation_end : Option ℕ → Bool → Option ℕ
confirmation_end (Some since) false = Some (wait_end confirmation_wait since)
confirmation_end _ _ = None

abbrev pub is_late : Flight → ℕ → Bool
is_late f now = is_unconfirmed f.acknowledged f.confirmed now

-- ---- tries

-- after one more try failed; of three no more are made
abbrev pub one_more : Tries → Try → Tries
one_more Zero t = One t
one_more (One a) t = Two a t
one_more (Two a b) t = Three a b t
one_more (Three a b c) t = Three a b c

-- three in turn have failed
abbrev pub refused : Tries → Option HubFault
refused Zero = None
refused (One a) = None
refused (Two a b) = None
refused (Three a b c) = Some (GatewayRefused (a ∷ b ∷ c ∷ []))

abbrev pub tried : Try → Known → Known
tried t k = record k { tries = one_more k.tries t; fault = refused (one_more k.tries t) }

-- ---- counts, which stay at the greatest number of 64 bits

abbrev pub counted_up : ℕ → ℕ
counted_up n = min (n + 1) (2 ^ 64 - 1)

abbrev pub drops : Known → Known
drops k = record k { dropped = counted_up k.dropped }

abbrev pub counts : Known → Known
counts k = record k { taken = counted_up k.taken }

-- ---- what is sent

abbrev pub with_connect : Known → ℕ → Known
with_connect k now = record k { channel = Seeking now }

abbrev pub flight_after_put : Option (List ℕ) → Flight → Flight
flight_after_put None flight = flight
flight_after_put (Some octets) flight = one_in_flight

abbrev pub frame_after_put : Option (List ℕ) → Option Ldata → Option Ldata → Option Ldata
frame_after_put None frame before = before
frame_after_put (Some octets) frame before = frame

abbrev pub with_put : Known → List ℕ → ℕ → Known
with_put k cemi now = record k {
  channel = after_put k.channel cemi now;
  flight = flight_after_put (channel_put k.channel cemi) k.flight;
  put = frame_after_put (channel_put k.channel cemi) (ldata_in cemi) k.put;
}

abbrev pub with_due : Known → ℕ → Known
with_due k now = record k { channel = after_expired k.channel now (channel_expired k.channel now) }

abbrev pub with_leave : Known → Known
with_leave k = record k { channel = after_leave k.channel }

-- ---- answers

abbrev pub only : What → Answer
only what = record { what = what; loss = Stays; sends = None }

abbrev pub with_datagram : What → List ℕ → Answer
with_datagram what octets = record { what = what; loss = Stays; sends = Some octets }

-- ---- a loss: the gateway is told, where it isn't who ended the channel

abbrev pub left : Known → Known
left k = record k { channel = after_leave k.channel; flight = none_in_flight }

abbrev pub loss_told : Option (List ℕ) → Loss
loss_told None = Ended
loss_told (Some octets) = Told

abbrev pub loss_answer : What → ClientEnd → Answer
loss_answer what end = record { what = what; loss = loss_told (channel_left end); sends = channel_left end }

-- ---- the time

-- it has ended the channel, or the wait for one
abbrev pub is_over_for : Known → ℕ → Bool
is_over_for k now = is_late k.flight now || is_over k.channel now

abbrev pub after_expiry : ChannelExpired → Known → Known
after_expiry due.Nothing k = left k
after_expiry (due.Repeat octets) k = left k
after_expiry due.Lost k = left k
after_expiry due.NoAnswer k = tried try.NoAnswer k
after_expiry (due.Beat octets) k = left k
after_expiry due.Dead k = left k

abbrev pub expiry_answer : What → ChannelExpired → ClientEnd → Answer
expiry_answer what due.Nothing end = loss_answer what end
expiry_answer what (due.Repeat octets) end = loss_answer what end
expiry_answer what due.Lost end = loss_answer what end
expiry_answer what due.NoAnswer end = only what
expiry_answer what (due.Beat octets) end = loss_answer what end
expiry_answer what due.Dead end = loss_answer what end

-- the nearest time at which something becomes due
abbrev pub next_due : Known → Option ℕ
next_due k = nearer (channel_deadline k.channel) (confirmation_end k.flight.acknowledged k.flight.confirmed)

-- what is given up: a channel whose request isn't confirmed in time, or what the time has ended otherwise
abbrev pub is_unconfirmed_now : Known → ℕ → Bool
is_unconfirmed_now k now = is_late k.flight now && is_some (open_end k.channel)

unfoldable pub lapsed : Known → ℕ → Known
lapsed k now =
    if is_unconfirmed_now k now then left (record k { channel = lost k.channel })
    else (if is_over k.channel now then after_expiry (channel_expired k.channel now) (with_due k now) else k)

unfoldable pub lapse_answer : What → Known → ℕ → Answer
lapse_answer what k now =
    if is_unconfirmed_now k now then loss_answer what (lost k.channel)
    else (if is_over k.channel now then expiry_answer what (channel_expired k.channel now) (with_due k now).channel else only what)

-- ---- a frame of the gateway

-- an awaited answer to a heartbeat
abbrev pub answers_heartbeat : IpFrame → ChannelTook → Bool
answers_heartbeat (StateResponse channel status) took.Dropped = false
answers_heartbeat (StateResponse channel status) told = true
answers_heartbeat frame told = false

abbrev pub counted : IpFrame → ChannelTook → Known → Known
counted frame told k = if answers_heartbeat frame told then k else counts k

-- the frame of the link layer in the gateway's next request: a confirmation that isn't that of the request put last is for no one, and so is an
-- indication to another device than the tunnel
abbrev pub confirmed_if : Bool → Known → Known
confirmed_if its_own k = if its_own then record k { flight = record k.flight { confirmed = true } } else k

abbrev pub with_heard : Option Ldata → Known → Known
with_heard None k = drops k
with_heard (Some frame) k = if is_con frame.code then confirmed_if (is_confirmation_of k.put (Some frame)) k else k

abbrev pub what_heard : Option IndAddr → Option Ldata → Option Ldata → What
what_heard own put None = came.Dropped
what_heard own put (Some frame) =
    if is_con frame.code then (if is_confirmation_of put (Some frame) then came.Frame frame else came.Tunnel)
    else (if is_stray own (Some frame) then came.Tunnel else came.Frame frame)

abbrev pub after_told : ℕ → ChannelTook → Known → Known
after_told now took.Dropped k = drops k
after_told now (took.Up tunnel) k = record k { tries = Zero; flight = none_in_flight; tunnel = Some tunnel; put = None }
after_told now (took.RefusedBy status) k = tried (try.Status status) k
after_told now took.Acked k = record k { flight = record k.flight { acknowledged = Some now } }
after_told now (took.Cemi octets ack) k = with_heard (ldata_in octets) k
after_told now (took.Again ack) k = k
after_told now (took.Gone None) k = left k
after_told now (took.Gone (Some answer)) k = record k { flight = none_in_flight }
after_told now took.Alive k = k

abbrev pub told_answer : ChannelTook → Option IndAddr → Option Ldata → ClientEnd → Answer
told_answer took.Dropped own put end = only came.Dropped
told_answer (took.Up tunnel) own put end = only (came.Up tunnel)
told_answer (took.RefusedBy status) own put end = only came.Tunnel
told_answer took.Acked own put end = only came.Tunnel
told_answer (took.Cemi octets ack) own put end = with_datagram (what_heard own put (ldata_in octets)) ack
told_answer (took.Again ack) own put end = with_datagram came.Tunnel ack
told_answer (took.Gone None) own put end = loss_answer came.Tunnel end
told_answer (took.Gone (Some answer)) own put end = record { what = came.Tunnel; loss = Ended; sends = Some answer }
told_answer took.Alive own put end = only came.Tunnel

abbrev pub with_channel_of : Known → IpFrame → ℕ → Known
with_channel_of k frame now = record k { channel = after_took k.channel frame now (channel_took k.channel frame now) }

unfoldable pub taken : Known → IpFrame → ℕ → Known
taken k frame now = after_told now (channel_took k.channel frame now) (counted frame (channel_took k.channel frame now) (with_channel_of k frame now))

unfoldable pub take_answer : Known → IpFrame → ℕ → Answer
take_answer k frame now = told_answer (channel_took k.channel frame now) k.tunnel k.put (with_channel_of k frame now).channel

-- ---- a datagram: where the time has ended what it would act on, it is dropped

abbrev pub dropped_as_unread : Known → Known
dropped_as_unread k = drops (counts k)

abbrev pub read_or_dropped : Known → ℕ → Option IpFrame → Known
read_or_dropped k now None = dropped_as_unread k
read_or_dropped k now (Some frame) = taken k frame now

abbrev pub read_answer : Known → ℕ → Option IpFrame → Answer
read_answer k now None = only came.Dropped
read_answer k now (Some frame) = take_answer k frame now

abbrev pub after_got : Known → List ℕ → ℕ → Known
after_got k octets now = if is_over_for k now then lapsed (dropped_as_unread k) now else read_or_dropped k now (datagram_in octets)

abbrev pub got_answer : Known → List ℕ → ℕ → Answer
got_answer k octets now = if is_over_for k now then lapse_answer came.Dropped (dropped_as_unread k) now else read_answer k now (datagram_in octets)
