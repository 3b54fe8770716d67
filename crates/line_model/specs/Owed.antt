-- What the lines of a script call for directly after an event: a second delivery, power that returns, a connection or the channel that closes. It
-- comes before anything else but what the client itself does, and power returns before that too. What isn't possible any more isn't called for: a
-- second delivery of a datagram to an endpoint that was left, or of a frame to a device that no longer keeps one as the last that it got, or the
-- closing of a connection by a device that has none.
use Rattle.std.specs.Prelude.{ℕ, Bool, true, false, ◌&&◌, ◌==◌, nat_lt, is_some, List, [], ◌∷◌, ◌++◌, drop, if◌then◌else◌, Option, Some, None, slice_get}
use Rattle.std.specs.List.{filter}
use Rattle.knx_model.specs.declared.frames.cemi.Ldata.{Ldata}
use Rattle.knx_model.specs.DeviceConnection.{partner_of}
use Rattle.knx_model.specs.DeviceState.{DeviceState}
use Rattle.line_model.specs.Network.{Sent}
use Rattle.line_model.specs.Tunnel.{Mode}
use Rattle.line_model.specs.World.{World, Event, Send, From, Renew, Up, UpRefused, Down, BusTorn, BusAgain, DevClose, GwClose, On, frame_by, replay}
use Rattle.line_model.specs.Counts.{carried_at, takes_one, frames_to, frames_taken, requests_acted, number_at, age_of}
use Rattle.line_model.specs.Lines.{Script, repeats_up, repeats_down, repeats_to, closes, drops}
use Rattle.line_model.specs.Deliveries.{goes_up, goes_down, delivery}

pub data Owed : Type 0 where
  DeliverAgain : ℕ → Owed  -- the datagram of this number, to the gateway
  ReachAgain : ℕ → Owed  -- to the client
  BringAgain : ℕ → Owed  -- the last frame, to this device
  PowerReturns : ℕ → Owed
  ConnectionCloses : ℕ → Owed
  ChannelCloses : Owed

abbrev pub owed_if : Bool → Owed → List Owed
owed_if true what = what ∷ []
owed_if false what = []

-- ---- what an event brings about

-- the datagram of an age comes twice in a row
abbrev pub up_again : Script → List Sent → ℕ → List Owed
up_again script sent age = owed_if (repeats_up script (number_at sent age)) (DeliverAgain (number_at sent age))

abbrev pub down_again : Script → List Sent → ℕ → List Owed
down_again script sent age = owed_if (repeats_down script (number_at sent age)) (ReachAgain (number_at sent age))

-- the channel closes after the N-th request that was acted on
abbrev pub channel_closes : Script → World → List Event → Event → List Owed
channel_closes script start past e =
    owed_if (nat_lt (requests_acted start past) (requests_acted start (e ∷ past)) && drops script (requests_acted start (e ∷ past))) ChannelCloses

-- the connection closes after the N-th frame that was taken
abbrev pub connection_closes : Script → World → List Event → Event → ℕ → List Owed
connection_closes script start past e device =
    owed_if (takes_one device (replay start past) e && closes script device (frames_taken device start (e ∷ past))) (ConnectionCloses device)

-- the frame that was taken comes again
abbrev pub frame_again : Script → World → List Event → Event → ℕ → List Owed
frame_again script start past e device =
    owed_if (takes_one device (replay start past) e && repeats_to script device (frames_to device start (e ∷ past))) (BringAgain device)

abbrev pub power_returns : Event → ℕ → List Owed
power_returns (BusTorn fresh octets) device = PowerReturns device ∷ []
power_returns _ device = []

abbrev pub owed_of_frame : Script → World → List Event → Event → Ldata → List Owed
owed_of_frame script start past e frame =
    if frame.group then [] else power_returns e frame.destination ++ frame_again script start past e frame.destination ++ connection_closes script start past e frame.destination

abbrev pub owed_of_carried : Script → World → List Event → Event → Option Ldata → List Owed
owed_of_carried script start past e None = []
owed_of_carried script start past e (Some frame) = owed_of_frame script start past e frame

abbrev pub caused : Script → World → List Event → Event → List Owed
caused script start past (Up age) = up_again script (replay start past).tunnel.network.up age ++ channel_closes script start past (Up age)
caused script start past (UpRefused age status) = up_again script (replay start past).tunnel.network.up age
caused script start past (Down age) = down_again script (replay start past).tunnel.network.down age
caused script start past (BusAgain device) = connection_closes script start past (BusAgain device) device
caused script start past e = owed_of_carried script start past e (carried_at (replay start past) e)

-- ---- what is still possible

-- a datagram that was delivered once and may be delivered again
abbrev pub goes_again : (ℕ → Sent → Bool) → ℕ → Option Sent → Bool
goes_again test age None = false
goes_again test age (Some s) = test age s && (s.delivered == 1)

abbrev pub passes_again : (ℕ → Sent → Bool) → List Sent → ℕ → Bool
passes_again test sent number = goes_again test (age_of sent number) (slice_get sent (age_of sent number))

-- a device has a connection
abbrev pub is_connected : Option DeviceState → Bool
is_connected None = false
is_connected (Some d) = is_some (partner_of d.connection)

abbrev pub is_possible : Mode → World → Owed → Bool
is_possible mode w (DeliverAgain number) = passes_again (goes_up w.tunnel) w.tunnel.network.up number
is_possible mode w (ReachAgain number) = passes_again (goes_down mode w.tunnel) w.tunnel.network.down number
is_possible mode w (BringAgain device) = is_some (frame_by (λ d. d.last) (w.devices device))
is_possible mode w (PowerReturns device) = true
is_possible mode w (ConnectionCloses device) = is_connected (w.devices device)
is_possible mode w ChannelCloses = true

-- ---- what is owed after all these events: the first one first

-- what the client does itself meets nothing
abbrev pub is_clients : Event → Bool
is_clients (Send octets) = true
is_clients (From endpoint octets) = true
is_clients Renew = true
is_clients _ = false

-- and may come between, but not between a torn write and the return of power
abbrev pub waits : Owed → Bool
waits (PowerReturns device) = false
waits _ = true

abbrev pub left_after : Event → List Owed → List Owed
left_after e owed = if is_clients e then owed else drop 1 owed

abbrev pub owed : Script → Mode → World → List Event → List Owed
owed script mode start [] = []
owed script mode start (e ∷ past) = filter (is_possible mode (replay start (e ∷ past))) (left_after e (owed script mode start past) ++ caused script start past e)

-- the event that meets it
abbrev pub met : Script → World → List Event → Owed → Event
met script start past (DeliverAgain number) = delivery script start past (age_of (replay start past).tunnel.network.up number)
met script start past (ReachAgain number) = Down (age_of (replay start past).tunnel.network.down number)
met script start past (BringAgain device) = BusAgain device
met script start past (PowerReturns device) = On device
met script start past (ConnectionCloses device) = DevClose device
met script start past ChannelCloses = GwClose
