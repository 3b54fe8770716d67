-- What the script wants next, in the words of its definitions: how a datagram is delivered and a frame goes over the bus, and whether the gateway
-- hears a device.
use Rattle.std.specs.Prelude.{◌≡◌, ℕ, suc, nat_lt, is_some, Bool, true, Some, option_to_list}
use Rattle.knx_model.specs.declared.device.WriteKind.TheVariants.{Memory}
use Rattle.knx_model.specs.declared.frames.cemi.Ldata.{Ldata}
use Rattle.knx_model.specs.declared.device.WriteKind.{WriteKind}
use Rattle.knx_model.specs.Device.{Effect, written_front}
use Rattle.knx_model.specs.DeviceFrames.{worn_octets}
use Rattle.line_model.specs.Counts.{frames_from, frames_to, writes}
use Rattle.line_model.specs.Deliveries.{delivery, carriage_of, write_event}
use Rattle.line_model.specs.Follows.{at_gateway}
use Rattle.line_model.specs.Lines.{loses_from, loses_to}
use Rattle.line_model.specs.World.{AtGateway, Event, Up, UpRefused, Bus, BusTorn, BusWorn}
use Rattle.line_sim.specs.Line.{LineNow, effect_due, write_due}
use Rattle.bus_sim.specs.declared.carry.Carriage.{Carriage}
use Rattle.bus_sim.specs.declared.carry.Carriage.TheVariants.{Whole, Torn, Worn}
use Rattle.bus_sim.specs.declared.deliver.Delivery.{Delivery}
use Rattle.bus_sim.specs.declared.deliver.Delivery.TheVariants.{Taken, Refused}
use Rattle.bus_sim.specs.RunNow.{RunState, seen, start, script}

-- ---- datagrams

abbrev pub delivered : RunState → ℕ → Event
delivered r age = delivery (script (seen r)) (start (seen r)) (seen r).events age

abbrev pub event_so : Delivery → ℕ → Event
event_so Taken age = Up age
event_so (Refused status) age = UpRefused age status

-- ---- frames of the client

abbrev pub carried : RunState → Ldata → Event
carried r frame = carriage_of (script (seen r)) (start (seen r)) (seen r).events frame

-- whether the next frame for a device alone is lost for it
abbrev pub is_lost_for : RunState → ℕ → Bool
is_lost_for r device = loses_to (script (seen r)) device (suc (frames_to device (start (seen r)) (seen r).events))

-- how the next write of a device goes
abbrev pub written_so : RunState → ℕ → WriteKind → Effect → Event
written_so r device kind effect = write_event (script (seen r)) device (suc (writes device (start (seen r)) (seen r).events)) (Some kind) effect

abbrev pub carried_so : Carriage → LineNow → Event
carried_so (Whole lost) n = Bus (option_to_list lost)
carried_so (Torn k) n = BusTorn (nat_lt 0 k) (written_front (effect_due n) k)
carried_so Worn n = BusWorn (worn_octets (effect_due n))

-- torn only where it is a write, worn where it is a memory write
abbrev pub CanGo : Carriage → LineNow → Type 0
CanGo (Whole lost) n = Unit {0}
CanGo (Torn k) n = is_some (write_due n) ≡ true
CanGo Worn n = write_due n ≡ Some Memory

-- ---- frames of devices

abbrev pub heard_so : RunState → ℕ → AtGateway
heard_so r device = at_gateway (loses_from (script (seen r)) device (suc (frames_from device (start (seen r)) (seen r).events)))
