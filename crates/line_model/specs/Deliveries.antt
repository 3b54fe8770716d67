-- How datagrams and frames go where events follow a script: which datagram is delivered next, the one event that delivers it, and the one
-- event that brings the client's next frame over the bus.
use Rattle.std.specs.Prelude.{ℕ, suc, ◌+◌, Bool, true, not, ◌&&◌, ◌==◌, nat_lt, List, [], ◌∷◌, if◌then◌else◌, Option, Some, None}
use Rattle.knx_model.specs.declared.device.WriteKind.{WriteKind}
use Rattle.knx_model.specs.declared.device.WriteKind.TheVariants.{Memory}
use Rattle.knx_model.specs.declared.frames.cemi.Ldata.{Ldata}
use Rattle.knx_model.specs.ApduReading.{option_map}
use Rattle.knx_model.specs.Device.{Effect, Nothing, written_front}
use Rattle.knx_model.specs.DeviceState.{DeviceState}
use Rattle.knx_model.specs.DeviceFrames.{effect_of_frame, worn_octets}
use Rattle.line_model.specs.Network.{Sent, most_deliveries, oldest_age, channel_numbers}
use Rattle.line_model.specs.Tunnel.{Tunnel, Mode, Commissions, Serves, made}
use Rattle.line_model.specs.World.{World, Event, Up, UpRefused, Bus, BusTorn, BusWorn, next_frame, replay}
use Rattle.line_model.specs.Counts.{write_of, frames_to, writes, connects_reached, is_connect_at}
use Rattle.line_model.specs.Lines.{Script, loses_to, wears, cuts, refuses}

-- ---- which datagram is delivered next: the oldest that wasn't, where the network still allows it

abbrev pub is_under_way : ℕ → ℕ → Sent → Bool
is_under_way made age s = not s.lost && nat_lt s.delivered most_deliveries && nat_lt age oldest_age && nat_lt made (s.made + channel_numbers)

abbrev pub goes_up : Tunnel → ℕ → Sent → Bool
goes_up t age s = is_under_way (made t) age s

abbrev pub goes_down : Mode → Tunnel → ℕ → Sent → Bool
goes_down Commissions t age s = is_under_way (made t) age s && (s.endpoint == t.present)
goes_down Serves t age s = is_under_way (made t) age s

abbrev pub or_here : Bool → ℕ → Option ℕ → Option ℕ
or_here test age (Some older) = Some older
or_here test age None = if test then Some age else None

-- the age of the oldest that passes and wasn't delivered, where the first of the list has this age
abbrev pub oldest : (ℕ → Sent → Bool) → ℕ → List Sent → Option ℕ
oldest test age [] = None
oldest test age (s ∷ rest) = or_here (test age s && (s.delivered == 0)) age (oldest test (suc age) rest)

abbrev pub next_up : Tunnel → Option ℕ
next_up t = oldest (goes_up t) 0 t.network.up

abbrev pub next_down : Mode → Tunnel → Option ℕ
next_down mode t = oldest (goes_down mode t) 0 t.network.down

-- ---- the event that delivers a datagram to the gateway: the N-th connect request is refused where a line says so

abbrev pub refused_if : ℕ → Option ℕ → Event
refused_if age None = Up age
refused_if age (Some status) = UpRefused age status

abbrev pub delivery : Script → World → List Event → ℕ → Event
delivery script start past age =
    if is_connect_at (replay start past).tunnel.network.up age then refused_if age (refuses script (suc (connects_reached start past))) else Up age

-- ---- the event that brings the client's next frame over the bus

abbrev pub worn_if : Bool → WriteKind → Effect → Event
worn_if true Memory effect = BusWorn (worn_octets effect)
worn_if _ kind effect = Bus []

-- a cut goes before worn memory
abbrev pub torn_if : Option ℕ → Bool → WriteKind → Effect → Event
torn_if (Some k) worn kind effect = BusTorn (nat_lt 0 k) (written_front effect k)
torn_if None worn kind effect = worn_if worn kind effect

-- the device's N-th write
abbrev pub write_event : Script → ℕ → ℕ → Option WriteKind → Effect → Event
write_event script device n None effect = Bus []
write_event script device n (Some kind) effect = torn_if (cuts script device n) (wears script device n) kind effect

abbrev pub effect_at : Option DeviceState → Ldata → Effect
effect_at None frame = Nothing
effect_at (Some d) frame = effect_of_frame d frame

abbrev pub written_at : Script → World → List Event → ℕ → Ldata → Event
written_at script start past device frame =
    write_event script device (suc (writes device start past)) (write_of ((replay start past).devices device) (Some frame)) (effect_at ((replay start past).devices device) frame)

-- the N-th frame for one device: losing it goes before all else
abbrev pub carried_to : Script → World → List Event → ℕ → Ldata → Event
carried_to script start past device frame =
    if loses_to script device (suc (frames_to device start past)) then Bus (device ∷ []) else written_at script start past device frame

abbrev pub carriage_of : Script → World → List Event → Ldata → Event
carriage_of script start past frame = if frame.group then Bus [] else carried_to script start past frame.destination frame

abbrev pub carriage : Script → World → List Event → Option Event
carriage script start past = option_map (carriage_of script start past) (next_frame (replay start past))
