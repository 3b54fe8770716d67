-- What a frame brings to a device: a service by the connection, or a value to a group.
use Rattle.std.specs.Prelude.{◌≡◌, true, false, ℕ, List, ◌++◌, Option, Some, None}
use Rattle.knx_model.specs.declared.config.Image.{Image}
use Rattle.knx_model.specs.declared.connection.DeviceTook.TheVariants as took
use Rattle.knx_model.specs.declared.device.Took.TheVariants.{Taken}
use Rattle.knx_model.specs.declared.frames.cemi.Ldata.{Ldata}
use Rattle.knx_model.specs.declared.frames.value.Value.{Value}
use Rattle.knx_model.specs.declared.script.GroupService.{GroupService}
use Rattle.knx_model.specs.declared.script.GroupService.TheVariants.{Read, Write, Response}
use Rattle.knx_model.specs.ApduReading.{service_in}
use Rattle.knx_model.specs.Device.{runs}
use Rattle.knx_model.specs.DeviceState.{DeviceState}
use Rattle.knx_model.specs.DeviceFrames.{took_of, connection_took, group_service}

-- the device takes the frame, which is for it alone, and its connection delivers this service
abbrev pub Delivers : DeviceState → Ldata → List ℕ → Type 0
Delivers d frame apdu = (took_of d frame ≡ Taken) × (frame.group ≡ false) × ((ack : List ℕ) × (connection_took d frame ≡ took.Apdu apdu ack))

-- the value that a group service carries
abbrev pub carried : GroupService → Option Value
carried Read = None
carried (Write value) = Some value
carried (Response value) = Some value

-- frames joined behind those that waited, in whose order nothing changed
pub record Joins (before after : List Ldata) : Type 0 where
  pub more : List Ldata
  pub behind : after ≡ before ++ more

-- a running device takes the frame, which carries this group service
pub record IsTelegram (d : DeviceState) (frame : Ldata) (image : Image) (service : GroupService) : Type 0 where
  pub taken : took_of d frame ≡ Taken
  pub group : frame.group ≡ true
  pub runs_it : runs d.kept ≡ Some image
  pub carries : group_service (service_in frame.tpdu) ≡ Some service
