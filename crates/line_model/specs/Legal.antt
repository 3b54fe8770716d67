-- Which events may happen on the line: datagrams as the network allows; a write torn only where the frame that goes over the bus is a write
-- of its device, and worn only where that is a memory write; frames again only as the bus allows. That a repeated answer goes only where the
-- device has nothing older to send keeps the bus's order. And what a list of events promises at every moment.
use Rattle.std.specs.Prelude.{◌≡◌, ◌≢◌, false, List, [], ◌∷◌, Option, Some, None}
use Rattle.knx_model.specs.declared.frames.cemi.Ldata.{Ldata}
use Rattle.knx_model.specs.DeviceState.{DeviceState}
use Rattle.knx_model.specs.DeviceFrames.{Outcome, Torn, Worn, MayTake}
use Rattle.knx_model.specs.DeviceSending.{repeat_frame}
use Rattle.line_model.specs.Tunnel as tunnel
use Rattle.line_model.specs.Tunnel.{Mode, Commissions, Serves}
use Rattle.line_model.specs.World.{World, Event, Bus, BusTorn, BusWorn, BusAgain, DevSend, DevRepeat, DevClose, GwAgain, Cut, On, next_frame, tunnel_event, replay}

-- ---- which events may happen

-- P of a device that is on the bus
abbrev pub OfDevice : (DeviceState → Type 0) → Option DeviceState → Type 0
OfDevice P None = ⊥
OfDevice P (Some d) = P d

-- a frame goes over the bus
abbrev pub GoesOver : Option Ldata → Type 0
GoesOver frame = frame ≢ None

-- the frame is for one device, which may take it so
pub record IsFor (w : World) (outcome : Outcome) (frame : Ldata) : Type 0 where
  pub alone : frame.group ≡ false
  pub device : OfDevice (λ d. MayTake d frame outcome) (w.devices frame.destination)

abbrev pub GoesSo : World → Outcome → Option Ldata → Type 0
GoesSo w outcome None = ⊥
GoesSo w outcome (Some frame) = IsFor w outcome frame

-- it has an answer outstanding, and nothing older to send
pub record CanRepeat (d : DeviceState) : Type 0 where
  pub nothing_older : d.unsent ≡ []
  pub outstanding : repeat_frame d ≢ None

-- what an event asks of the devices
abbrev pub DevicesAllow : World → Event → Type 0
DevicesAllow w (Bus left_out) = GoesOver (next_frame w)
DevicesAllow w (BusTorn fresh octets) = GoesSo w (Torn fresh octets) (next_frame w)
DevicesAllow w (BusWorn octets) = GoesSo w (Worn octets) (next_frame w)
DevicesAllow w (BusAgain device) = OfDevice (λ d. d.last ≢ None) (w.devices device)
DevicesAllow w (DevSend device gateway left_out) = OfDevice (λ d. d.unsent ≢ []) (w.devices device)
DevicesAllow w (DevRepeat device gateway) = OfDevice CanRepeat (w.devices device)
DevicesAllow w (DevClose device) = w.devices device ≢ None
DevicesAllow w GwAgain = w.echo ≢ None
DevicesAllow w (Cut device) = w.devices device ≢ None
DevicesAllow w (On device) = w.devices device ≢ None
DevicesAllow w _ = Unit {0}

pub record MayHappen (mode : Mode) (w : World) (e : Event) : Type 0 where
  pub tunnel : tunnel.MayHappen mode w.tunnel (tunnel_event w e)
  pub devices : DevicesAllow w e

abbrev pub IsLegal : Mode → World → List Event → Type 0
IsLegal mode start [] = Unit {0}
IsLegal mode start (e ∷ events) = MayHappen mode (replay start events) e × IsLegal mode start events

-- ---- every moment

-- P of each beginning of the events
abbrev pub AtEveryMoment : (List Event → Type 0) → List Event → Type 0
AtEveryMoment P [] = P []
AtEveryMoment P (e ∷ events) = P (e ∷ events) × AtEveryMoment P events
