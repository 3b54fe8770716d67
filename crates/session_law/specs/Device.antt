-- What comes to the device, and what it sends (ISO/IEC 14543-3-2, transport layer). A service that it delivers is counted, and so is the answer
-- that it gives; a service whose write a power cut tears isn't acknowledged, and isn't counted.
use Rattle.std.specs.Prelude.{ℕ, Bool, true, not, ◌&&◌, List, [], ◌∷◌, ◌++◌, take, Option, Some, None, if◌then◌else◌}
use Rattle.knx_model.specs.declared.connection.DeviceTook.{DeviceTook}
use Rattle.knx_model.specs.declared.connection.DeviceTook.TheVariants as took
use Rattle.knx_model.specs.declared.frames.cemi.Ldata.{Ldata}
use Rattle.knx_model.specs.Device.{answer_in}
use Rattle.knx_model.specs.DeviceState.{DeviceState}
use Rattle.knx_model.specs.DeviceFrames.{Outcome, Whole, Torn, took_of, is_taken, connection_took, takes}
use Rattle.session_law.specs.World.{Message, Con, Ind, World}

-- ---- what it delivers

-- what its connection answers to a frame, where it takes it for itself alone
abbrev pub took_alone : DeviceState → Ldata → DeviceTook
took_alone d frame = if is_taken (took_of d frame) && not frame.group then connection_took d frame else took.Dropped

abbrev pub service_of : DeviceTook → Option (List ℕ)
service_of (took.Apdu apdu ack) = Some apdu
service_of _ = None

abbrev pub answer_of : DeviceState → Option (List ℕ) → Option (List ℕ)
answer_of d None = None
answer_of d (Some apdu) = answer_in d.frames d.kept apdu

-- what an outcome adds to a history
abbrev pub counted : Outcome → Option (List ℕ) → List (List ℕ) → List (List ℕ)
counted (Torn fresh octets) one history = history
counted _ None history = history
counted _ (Some one) history = one ∷ history

-- ---- a frame comes to it

abbrev pub gets : World → Ldata → Outcome → World
gets w frame outcome = record w {
  device = takes w.device frame w.now outcome;
  delivered = counted outcome (service_of (took_alone w.device frame)) w.delivered;
  given = counted outcome (answer_of w.device (service_of (took_alone w.device frame))) w.given;
}

-- the client's frame has gone over the bus, and its confirmation comes
abbrev pub confirms : World → Bool → World
confirms w error = record w { flying = None; echo = None; coming = w.coming ++ Con error ∷ [] }

-- with error where the device didn't take it
abbrev pub carries : World → Option Ldata → Outcome → World
carries w None outcome = w
carries w (Some frame) outcome = confirms (gets w frame outcome) (not (is_taken (took_of w.device frame)))

-- or where it was lost for the device
abbrev pub carries_lost : World → Option Ldata → World
carries_lost w None = w
carries_lost w (Some frame) = confirms w true

-- the device gets again the frame that it got last
abbrev pub gets_again : World → Option Ldata → World
gets_again w None = w
gets_again w (Some frame) = gets w frame Whole

-- another frame is the bus's last one
abbrev pub elsewhere : World → World
elsewhere w = record w { echo = None }

-- ---- it sends

-- whether the gateway hears a device's frame
pub data AtGateway : Type 0 where
  Comes : AtGateway
  IsLost : AtGateway

abbrev pub and_told : AtGateway → Option Ldata → List Message → List Message
and_told gateway None coming = coming
and_told IsLost (Some frame) coming = coming
and_told Comes (Some frame) coming = coming ++ Ind frame ∷ []

abbrev pub or_before : Option Ldata → Option Ldata → Option Ldata
or_before None before = before
or_before (Some frame) before = Some frame

-- the device after it sent this frame, where there is one
abbrev pub speaks : World → DeviceState → AtGateway → Option Ldata → World
speaks w d gateway frame = record w { device = d; coming = and_told gateway frame w.coming; echo = or_before frame w.echo }

abbrev pub with_device : World → DeviceState → World
with_device w d = record w { device = d }

-- the gateway gets the bus's last frame again, where the device sent it
abbrev pub echoes : World → World
echoes w = record w { coming = and_told Comes w.echo w.coming }

-- the gateway closes the channel: the client gets the n oldest messages at most, and the frame that was on its way is dropped
abbrev pub drops : World → ℕ → World
drops w n = record w { flying = None; coming = take n w.coming }
