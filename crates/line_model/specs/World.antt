-- The whole line: the tunnel, the devices on the bus by their individual addresses, and the bus's last frame where a device sent it. An event
-- carries its outcome, so a start and a list of events give one world at each moment. A step is total: the tunnel makes its own step, each
-- device takes, sends or loses what the event says, and the bus remembers its last frame; which events may happen is said apart from this.
-- After a frame of the client went over the bus, its confirmation waits for the client, with error exactly where the frame is for one device
-- that didn't take it. Histories have their newest event first, so what was before is the tail.
use Rattle.std.specs.Prelude.{ℕ, Bool, false, not, ◌&&◌, ◌||◌, ◌==◌, List, [], ◌∷◌, Option, Some, None, if◌then◌else◌}
use Rattle.std.specs.List.{list_any}
use Rattle.knx_model.specs.declared.address.IndAddr.{IndAddr}
use Rattle.knx_model.specs.declared.frames.cemi.Ldata.{Ldata}
use Rattle.knx_model.specs.declared.frames.cemi.LdataCode.TheVariants.{Con}
use Rattle.knx_model.specs.ApduReading.{option_map}
use Rattle.knx_model.specs.DeviceState.{DeviceState, cut, switched_on}
use Rattle.knx_model.specs.DeviceFrames.{Outcome, Whole, Torn, Worn, own_frame, took_of, is_taken, takes, taken_again}
use Rattle.knx_model.specs.DeviceSending.{first_frame, waiting_frame, pops, repeat_frame, repeats, shut}
use Rattle.line_model.specs.Tunnel as tunnel
use Rattle.line_model.specs.Tunnel.{Tunnel, TunnelEvent}

pub record World : Type 0 where
  pub tunnel : Tunnel
  pub devices : ℕ → Option DeviceState
  pub echo : Option Ldata

-- whether the gateway hears a device's frame
pub data AtGateway : Type 0 where
  Comes : AtGateway
  IsLost : AtGateway

pub data Event : Type 0 where
  Send : List ℕ → Event  -- the client sends a datagram
  From : ℕ → List ℕ → Event  -- a client at this endpoint, from now on the present one, sends a datagram
  Renew : Event  -- the client takes the next endpoint
  Up : ℕ → Event  -- the gateway takes the datagram of this age
  UpRefused : ℕ → ℕ → Event  -- it answers a connect request with this status
  Down : ℕ → Event  -- the client gets the datagram of this age
  LoseUp : ℕ → Event
  LoseDown : ℕ → Event
  Bus : List ℕ → Event  -- the oldest waiting frame goes over the bus; every device but these takes it whole
  BusTorn : Bool → List ℕ → Event  -- the one device that it is for takes it torn: with the new load state and length or not, and these octets
  BusWorn : List ℕ → Event  -- or worn, with these octets
  BusAgain : ℕ → Event  -- a device takes again the frame that it got last
  DevSend : ℕ → AtGateway → List ℕ → Event  -- a device's oldest unsent frame goes over the bus, lost for these devices
  DevRepeat : ℕ → AtGateway → Event  -- its outstanding answer goes over the bus once more
  DevClose : ℕ → Event  -- it closes its connection
  GwAgain : Event  -- the gateway gets the bus's last frame again, where a device sent it
  GwRepeat : Event  -- it sends its outstanding request again
  GwClose : Event  -- it closes its channel
  Cut : ℕ → Event  -- a device loses its power
  On : ℕ → Event  -- it has power
  Pass : ℕ → Event  -- so many milliseconds pass

abbrev pub me : World → IndAddr
me w = w.tunnel.gateway.tunnel

abbrev pub now : World → ℕ
now w = w.tunnel.now

-- ---- frames on the bus

-- the client's frame as the bus carries it: the tunnel's address is its source
abbrev pub on_bus : IndAddr → Ldata → Ldata
on_bus address frame = own_frame address frame.group frame.destination frame.tpdu

-- the client's frame that goes over the bus next
abbrev pub next_frame : World → Option Ldata
next_frame w = option_map (on_bus (me w)) (first_frame w.tunnel.gateway.bus)

-- what a device sends at an event
abbrev pub frame_by : (DeviceState → Option Ldata) → Option DeviceState → Option Ldata
frame_by frame None = None
frame_by frame (Some d) = frame d

abbrev pub waiting_at : World → ℕ → Option Ldata
waiting_at w device = frame_by waiting_frame (w.devices device)

abbrev pub repeat_at : World → ℕ → Option Ldata
repeat_at w device = frame_by repeat_frame (w.devices device)

abbrev pub is_among : List ℕ → ℕ → Bool
is_among addresses a = list_any (λ b. b == a) addresses

-- ---- confirmations

abbrev pub takes_it : Ldata → Option DeviceState → Bool
takes_it frame None = false
takes_it frame (Some d) = is_taken (took_of d frame)

-- a frame to a group is confirmed, and one for a device where it isn't lost for that device and the device takes it
abbrev pub is_confirmed : World → List ℕ → Ldata → Bool
is_confirmed w left_out frame = frame.group || (not (is_among left_out frame.destination) && takes_it frame (w.devices frame.destination))

abbrev pub confirmation : World → List ℕ → Ldata → Ldata
confirmation w left_out frame = record frame { code = Con; error = not (is_confirmed w left_out frame) }

-- ---- what an event is to the tunnel

abbrev pub carried : World → List ℕ → Option Ldata → TunnelEvent
carried w left_out None = tunnel.Elsewhere
carried w left_out (Some frame) = tunnel.Carried (confirmation w left_out frame)

abbrev pub heard : AtGateway → Option Ldata → TunnelEvent
heard Comes (Some frame) = tunnel.Heard (frame ∷ [])
heard Comes None = tunnel.Elsewhere
heard IsLost frame = tunnel.Elsewhere

abbrev pub tunnel_event : World → Event → TunnelEvent
tunnel_event w (Send octets) = tunnel.Send octets
tunnel_event w (From endpoint octets) = tunnel.From endpoint octets
tunnel_event w Renew = tunnel.Renew
tunnel_event w (Up age) = tunnel.Up age
tunnel_event w (UpRefused age status) = tunnel.UpRefused age status
tunnel_event w (Down age) = tunnel.Down age
tunnel_event w (LoseUp age) = tunnel.LoseUp age
tunnel_event w (LoseDown age) = tunnel.LoseDown age
tunnel_event w (Bus left_out) = carried w left_out (next_frame w)
tunnel_event w (BusTorn fresh octets) = carried w [] (next_frame w)
tunnel_event w (BusWorn octets) = carried w [] (next_frame w)
tunnel_event w (BusAgain device) = tunnel.Elsewhere
tunnel_event w (DevSend device gateway left_out) = heard gateway (waiting_at w device)
tunnel_event w (DevRepeat device gateway) = heard gateway (repeat_at w device)
tunnel_event w (DevClose device) = tunnel.Elsewhere
tunnel_event w GwAgain = heard Comes w.echo
tunnel_event w GwRepeat = tunnel.Repeat
tunnel_event w GwClose = tunnel.Close
tunnel_event w (Cut device) = tunnel.Elsewhere
tunnel_event w (On device) = tunnel.Elsewhere
tunnel_event w (Pass ms) = tunnel.Pass ms

-- ---- what it does to the devices

abbrev pub Devices : Type 0
Devices = ℕ → Option DeviceState

-- one of them is changed
abbrev pub changed : ℕ → (DeviceState → DeviceState) → Devices → Devices
changed device change devices a = if a == device then option_map change (devices a) else devices a

-- every device but those left out takes the frame whole
abbrev pub all_take : ℕ → List ℕ → Option Ldata → Devices → Devices
all_take now left_out None devices a = devices a
all_take now left_out (Some frame) devices a = if is_among left_out a then devices a else option_map (λ d. takes d frame now Whole) (devices a)

-- the device that it is for takes the frame so
abbrev pub one_takes : ℕ → Outcome → Option Ldata → Devices → Devices
one_takes now outcome None devices = devices
one_takes now outcome (Some frame) devices = changed frame.destination (λ d. takes d frame now outcome) devices

-- a device's group telegram comes to the others too, but to those left out
abbrev pub others_take : ℕ → List ℕ → Option Ldata → Devices → Devices
others_take now left_out None devices = devices
others_take now left_out (Some frame) devices = if frame.group then all_take now left_out (Some frame) devices else devices

abbrev pub devices_after : World → Event → Devices
devices_after w (Bus left_out) = all_take (now w) left_out (next_frame w) w.devices
devices_after w (BusTorn fresh octets) = one_takes (now w) (Torn fresh octets) (next_frame w) w.devices
devices_after w (BusWorn octets) = one_takes (now w) (Worn octets) (next_frame w) w.devices
devices_after w (BusAgain device) = changed device (λ d. taken_again d (now w)) w.devices
devices_after w (DevSend device gateway left_out) = changed device pops (others_take (now w) (device ∷ left_out) (waiting_at w device) w.devices)
devices_after w (DevRepeat device gateway) = changed device (λ d. repeats d (now w)) w.devices
devices_after w (DevClose device) = changed device shut w.devices
devices_after w (Cut device) = changed device cut w.devices
devices_after w (On device) = changed device switched_on w.devices
devices_after w _ = w.devices

-- ---- what the bus carried last, where a device sent it

abbrev pub or_before : Option Ldata → Option Ldata → Option Ldata
or_before None before = before
or_before (Some frame) before = Some frame

-- nothing where a frame of the client went over it
abbrev pub none_if : Option Ldata → Option Ldata → Option Ldata
none_if None before = before
none_if (Some frame) before = None

abbrev pub echo_after : World → Event → Option Ldata
echo_after w (Bus left_out) = none_if (next_frame w) w.echo
echo_after w (BusTorn fresh octets) = none_if (next_frame w) w.echo
echo_after w (BusWorn octets) = none_if (next_frame w) w.echo
echo_after w (DevSend device gateway left_out) = or_before (waiting_at w device) w.echo
echo_after w (DevRepeat device gateway) = or_before (repeat_at w device) w.echo
echo_after w _ = w.echo

-- ---- the step

abbrev pub step : World → Event → World
step w e = record { tunnel = tunnel.step w.tunnel (tunnel_event w e); devices = devices_after w e; echo = echo_after w e }

abbrev pub replay : World → List Event → World
replay start [] = start
replay start (e ∷ events) = step (replay start events) e

-- what a list of events is to the tunnel
abbrev pub tunnel_events : World → List Event → List TunnelEvent
tunnel_events start [] = []
tunnel_events start (e ∷ events) = tunnel_event (replay start events) e ∷ tunnel_events start events
