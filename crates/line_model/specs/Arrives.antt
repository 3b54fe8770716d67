-- Which frame comes to a device at an event, and in what way the device takes it. A frame of the client that goes over the bus whole comes to every
-- device but those for which it is lost; torn or worn, to the one device that it is for. A device's own last frame comes to it once more. Of what a
-- device sends, a group telegram comes to the other devices but those for which it is lost, never to the device itself.
use Rattle.std.specs.Prelude.{ℕ, Bool, false, not, ◌&&◌, ◌==◌, List, ◌∷◌, Option, Some, None, if◌then◌else◌}
use Rattle.knx_model.specs.declared.frames.cemi.Ldata.{Ldata}
use Rattle.knx_model.specs.DeviceFrames.{Outcome, Whole, Torn, Worn}
use Rattle.line_model.specs.World.{World, Event, Bus, BusTorn, BusWorn, BusAgain, DevSend, next_frame, waiting_at, frame_by, is_among}

-- a frame that is lost for these devices
abbrev pub unless_among : List ℕ → ℕ → Option Ldata → Option Ldata
unless_among left_out device frame = if is_among left_out device then None else frame

-- only a group telegram comes to the other devices
abbrev pub for_others : Option Ldata → Option Ldata
for_others None = None
for_others (Some frame) = if frame.group then Some frame else None

-- a frame for this device alone
abbrev pub is_for : ℕ → Option Ldata → Bool
is_for device None = false
is_for device (Some frame) = not frame.group && (frame.destination == device)

abbrev pub only_for : ℕ → Option Ldata → Option Ldata
only_for device frame = if is_for device frame then frame else None

abbrev pub arrives : World → ℕ → Event → Option Ldata
arrives w device (Bus left_out) = unless_among left_out device (next_frame w)
arrives w device (BusTorn fresh octets) = only_for device (next_frame w)
arrives w device (BusWorn octets) = only_for device (next_frame w)
arrives w device (BusAgain address) = if address == device then frame_by (λ d. d.last) (w.devices device) else None
arrives w device (DevSend from gateway left_out) = unless_among (from ∷ left_out) device (for_others (waiting_at w from))
arrives w device _ = None

-- in what way a frame that comes is taken
abbrev pub taken_as : Event → Outcome
taken_as (BusTorn fresh octets) = Torn fresh octets
taken_as (BusWorn octets) = Worn octets
taken_as _ = Whole
