-- What both ends of a numbered connection promise together. Histories have their newest element first, so what came earlier is the tail.
use Rattle.std.specs.Prelude.{◌≡◌, ℕ, Bool, true, false, List, [], ◌∷◌, ◌++◌, Option, Some, None}
use Rattle.knx_model.specs.declared.connection.DeviceTook.{DeviceTook}
use Rattle.knx_model.specs.declared.connection.DeviceTook.TheVariants as took
use Rattle.knx_model.specs.declared.frames.cemi.Ldata.{Ldata}
use Rattle.knx_model.specs.DeviceState.{DeviceState}
use Rattle.session_law.specs.World.{World}
use Rattle.session_law.specs.Device.{took_alone, service_of}
use Rattle.session_law.specs.Events.{Event, Bus, BusAgain, Group, MayHappen, replay}

-- the first of these are those, in order and each once
abbrev pub IsFirstOf : List (List ℕ) → List (List ℕ) → Type 0
IsFirstOf those all = (newer : List (List ℕ)) × (all ≡ newer ++ those)

-- since the last T_Connect whose confirmation without error the client took
pub record InOrder (w : World) : Type 0 where
  pub delivered : IsFirstOf w.delivered w.client.sent
  pub accepted : IsFirstOf w.client.accepted w.given

-- ---- what the device acts on

-- the frame that an event brings to the device
abbrev pub frame_by : World → Event → Option Ldata
frame_by w (Bus outcome) = w.flying
frame_by w BusAgain = w.device.last
frame_by w (Group frame) = Some frame
frame_by w _ = None

abbrev pub service_in_frame : DeviceState → Option Ldata → Option (List ℕ)
service_in_frame d None = None
service_in_frame d (Some frame) = service_of (took_alone d frame)

-- the service on which it acts at an event, whole, torn or worn
abbrev pub acts_on : World → Event → Option (List ℕ)
acts_on w e = service_in_frame w.device (frame_by w e)

-- it is the first that was sent and isn't delivered
abbrev pub ActsOnNext : World → Type 0
ActsOnNext w = (e : Event) (apdu : List ℕ) → MayHappen w e → acts_on w e ≡ Some apdu → w.client.sent ≡ apdu ∷ w.delivered

abbrev pub ActsOnNothing : World → List Event → Type 0
ActsOnNothing start [] = Unit {0}
ActsOnNothing start (e ∷ events) = (acts_on (replay start events) e ≡ None) × ActsOnNothing start events

-- ---- a T_Connect that the device takes

abbrev pub is_connected : DeviceTook → Bool
is_connected took.Connected = true
is_connected _ = false

abbrev pub connects_by : DeviceState → Option Ldata → Bool
connects_by d None = false
connects_by d (Some frame) = is_connected (took_alone d frame)

abbrev pub TakesNoConnect : World → List Event → Type 0
TakesNoConnect start [] = Unit {0}
TakesNoConnect start (e ∷ events) = (connects_by (replay start events).device (frame_by (replay start events) e) ≡ false) × TakesNoConnect start events
