-- The devices of one line (ISO/IEC 14543-3-4): an individual address is area, line and device part, so that on one line the device part names
-- a device: it has one of 256 places. At an address of another line there is none.
use Rattle.std.specs.Prelude.{◌≡◌, ℕ, ◌+◌, ◌*◌, ◌/◌, ◌%◌, ◌<◌, ◌==◌, Bool, false, not, ◌&&◌, List, length, Option, Some, None, slice_index_or, if◌then◌else◌}
use Rattle.knx_model.specs.declared.frames.cemi.Ldata.{Ldata}
use Rattle.knx_model.specs.declared.device.Sending.{Sending}
use Rattle.knx_model.specs.declared.device.Sending.TheVariants.{Repeat}
use Rattle.knx_model.specs.DeviceState.{DeviceState}
use Rattle.knx_model.specs.DeviceSending.{next_sending}
use Rattle.device_sim.specs.Sending.{IsQuiet}
use Rattle.line_model.specs.World.{Devices, all_take, is_among, takes_it}
use Rattle.line_sim.specs.Parts.{has_part}

pub record DevicesNow : Type 0 where
  pub line : ℕ  -- area and line of their addresses
  pub places : List (Option DeviceState)  -- by the device part, from 0 to 255

abbrev pub line_part : ℕ → ℕ
line_part address = address / 256

abbrev pub device_part : ℕ → ℕ
device_part address = address % 256

abbrev pub device_in : List (Option DeviceState) → ℕ → Option DeviceState
device_in places part = slice_index_or places part None

abbrev pub device_at : DevicesNow → ℕ → Option DeviceState
device_at n address = if line_part address == n.line then device_in n.places (device_part address) else None

-- it is a picture of these devices
abbrev pub AreDevices : DevicesNow → Devices → Type 0
AreDevices n devices = (address : ℕ) → devices address ≡ device_at n address

-- with one device more
abbrev pub with_device : DeviceState → Devices → Devices
with_device d devices address = if address == d.address.raw then Some d else devices address

-- ---- what is so of the places: a device has the address of its place, and is quiet unless its part is among the busy ones

abbrev pub IsNamed : ℕ → Option DeviceState → Type 0
IsNamed address None = Unit {0}
IsNamed address (Some d) = d.address.raw ≡ address

abbrev pub IsQuietThere : Option DeviceState → Type 0
IsQuietThere None = Unit {0}
IsQuietThere (Some d) = IsQuiet d

pub record AreKept (line : ℕ) (places : List (Option DeviceState)) (busy : List ℕ) : Type 0 where
  pub count : length places ≡ 256
  pub named : (part : ℕ) → IsNamed (line * 256 + part) (device_in places part)
  pub quiet : (part : ℕ) → part < 256 → has_part busy part ≡ false → IsQuietThere (device_in places part)

-- ---- a frame comes to all but these

abbrev pub ComesTo : DevicesNow → ℕ → List ℕ → Ldata → DevicesNow → Type 0
ComesTo old now left_out frame new = (devices : Devices) → AreDevices old devices → AreDevices new (all_take now left_out (Some frame) devices)

-- whether the device that it is for takes it
abbrev pub is_taken_by : DevicesNow → List ℕ → Ldata → Bool
is_taken_by old left_out frame = not (is_among left_out frame.destination) && takes_it frame (device_at old frame.destination)

-- ---- its outstanding answer is due again

abbrev pub HasDue : ℕ → Option DeviceState → Type 0
HasDue now None = ⊥
HasDue now (Some d) = next_sending d now ≡ Some Repeat

abbrev pub IsDue : DevicesNow → ℕ → ℕ → Type 0
IsDue n address now = HasDue now (device_at n address)

-- ---- what a device sends next

abbrev pub sending_at : Option DeviceState → ℕ → Option Sending
sending_at None now = None
sending_at (Some d) now = next_sending d now
