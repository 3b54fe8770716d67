-- How often things happened on the line, as the script counts them, from 1 over the whole run (the script is this project's own): each count
-- is a fold over the events, which have their newest first. Datagrams have their numbers from the lists of all that were sent, repeats,
-- acknowledgements, heartbeats and answers too.
use Rattle.std.specs.Prelude.{ℕ, suc, ◌-◌, Bool, false, not, ◌&&◌, ◌==◌, is_some, List, [], ◌∷◌, length, if◌then◌else◌, Option, Some, None, slice_get}
use Rattle.knx_model.specs.declared.device.WriteKind.{WriteKind}
use Rattle.knx_model.specs.declared.frames.cemi.Ldata.{Ldata}
use Rattle.knx_model.specs.DeviceState.{DeviceState}
use Rattle.knx_model.specs.DeviceFrames.{took_of, is_taken, would_write}
use Rattle.line_model.specs.Arrives.{arrives, is_for}
use Rattle.line_model.specs.Reading.{datagram_in, is_connect_request}
use Rattle.line_model.specs.Network.{Sent}
use Rattle.line_model.specs.World.{World, Event, Up, UpRefused, Bus, BusTorn, BusWorn, DevSend, DevRepeat, next_frame, replay}

-- in how many events something held, of the world before it
abbrev pub count : (World → Event → Bool) → World → List Event → ℕ
count test start [] = 0
count test start (e ∷ events) = if test (replay start events) e then suc (count test start events) else count test start events

-- ---- frames on the bus

-- the frame of the client that goes over the bus
abbrev pub carried_at : World → Event → Option Ldata
carried_at w (Bus left_out) = next_frame w
carried_at w (BusTorn fresh octets) = next_frame w
carried_at w (BusWorn octets) = next_frame w
carried_at w _ = None

-- a frame for this device alone goes over the bus, also while it is off and where it is lost for it
abbrev pub goes_to : ℕ → World → Event → Bool
goes_to device w e = is_for device (carried_at w e)

-- a frame of this device goes over the bus, a repeat too
abbrev pub comes_from : ℕ → World → Event → Bool
comes_from device w (DevSend from gateway left_out) = from == device
comes_from device w (DevRepeat from gateway) = from == device
comes_from device w _ = false

-- ---- what a device takes of the frames that come to it

abbrev pub takes_alone : Option DeviceState → Option Ldata → Bool
takes_alone (Some d) (Some frame) = not frame.group && is_taken (took_of d frame)
takes_alone _ _ = false

-- the device takes a frame for it alone; one taken twice is taken twice
abbrev pub takes_one : ℕ → World → Event → Bool
takes_one device w e = takes_alone (w.devices device) (arrives w device e)

abbrev pub write_of : Option DeviceState → Option Ldata → Option WriteKind
write_of (Some d) (Some frame) = would_write d frame
write_of _ _ = None

-- it is a write of the device, whole, torn or worn
abbrev pub writes_one : ℕ → World → Event → Bool
writes_one device w e = is_some (write_of (w.devices device) (arrives w device e))

-- ---- connect requests at the gateway

abbrev pub asks_connect : Option Sent → Bool
asks_connect None = false
asks_connect (Some s) = is_connect_request (datagram_in s.octets)

abbrev pub is_connect_at : List Sent → ℕ → Bool
is_connect_at sent age = asks_connect (slice_get sent age)

-- each delivery
abbrev pub connect_reaches : World → Event → Bool
connect_reaches w (Up age) = is_connect_at w.tunnel.network.up age
connect_reaches w (UpRefused age status) = is_connect_at w.tunnel.network.up age
connect_reaches w _ = false

-- ---- the counts

abbrev pub frames_to : ℕ → World → List Event → ℕ
frames_to device = count (goes_to device)

abbrev pub frames_from : ℕ → World → List Event → ℕ
frames_from device = count (comes_from device)

abbrev pub frames_taken : ℕ → World → List Event → ℕ
frames_taken device = count (takes_one device)

abbrev pub writes : ℕ → World → List Event → ℕ
writes device = count (writes_one device)

abbrev pub connects_reached : World → List Event → ℕ
connects_reached = count connect_reaches

-- tunnelling requests that the gateway acted on, over all channels
abbrev pub requests_acted : World → List Event → ℕ
requests_acted start events = length (replay start events).tunnel.gateway.acted

-- the number of a datagram, from 1
abbrev pub number_at : List Sent → ℕ → ℕ
number_at sent age = length sent - age

-- how many younger ones the datagram of a number has
abbrev pub age_of : List Sent → ℕ → ℕ
age_of sent number = length sent - number
