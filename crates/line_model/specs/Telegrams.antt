-- What a group telegram does to the devices that get it (ISO/IEC 14543-3-1, application layer): in a device that doesn't run, values and unsent
-- frames stay. In one that runs, exactly the objects that the running configuration links to the group, with the right flags and form, take
-- the value, all others keep theirs, and exactly the answering object's value joins the unsent frames as a response.
use Rattle.std.specs.Prelude.{◌≡◌, ℕ, ◌++◌, ◌⊎◌, Bool, true, false, List, [], ◌∷◌, Option, Some, None}
use Rattle.knx_model.specs.declared.config.Config.{Config}
use Rattle.knx_model.specs.declared.config.Image.{Image}
use Rattle.knx_model.specs.declared.frames.cemi.Ldata.{Ldata}
use Rattle.knx_model.specs.declared.frames.value.Value.{Value}
use Rattle.knx_model.specs.declared.script.GroupService.{GroupService}
use Rattle.knx_model.specs.declared.script.GroupService.TheVariants.{Read, Write, Response}
use Rattle.knx_model.specs.Acts.{is_written, answerer, acts_written, acts_answerer}
use Rattle.knx_model.specs.ApduReading.{service_in}
use Rattle.knx_model.specs.Device.{NonVolatile, runs}
use Rattle.knx_model.specs.DeviceState.{DeviceState, value_of}
use Rattle.knx_model.specs.DeviceFrames.{group_service, own_frame, response_octets}
use Rattle.knx_model.specs.Meaning.{Installation, meaning}
use Rattle.knx_model.specs.Tables.{StandsFor}
use Rattle.line_model.specs.Arrives.{arrives}
use Rattle.line_model.specs.World.{World, Event, step, replay}

-- ---- what a group telegram does to a device

abbrev pub response_of : DeviceState → ℕ → Option Value → List Ldata
response_of d group None = []
response_of d group (Some value) = own_frame d.address true group (response_octets value) ∷ []

abbrev pub responses : DeviceState → ℕ → Option ℕ → List Ldata
responses d group None = []
responses d group (Some o) = response_of d group (value_of d o)

-- the value that a telegram brings to an object
abbrev pub brought : GroupService → Option Value
brought Read = None
brought (Write value) = Some value
brought (Response value) = Some value

abbrev pub value_after : Bool → GroupService → Option Value → Option Value
value_after true service old = brought service
value_after false service old = old

-- these objects take the value, and that one answers
pub record ActsRight (written : ℕ → Bool) (answering : Option ℕ) (group : ℕ) (service : GroupService) (old new : DeviceState) : Type 0 where
  pub values : (o : ℕ) → value_of new o ≡ value_after (written o) service (value_of old o)
  pub unsent : new.unsent ≡ old.unsent ++ responses old group answering

pub record ActsOnNothing (old new : DeviceState) : Type 0 where
  pub values : (o : ℕ) → value_of new o ≡ value_of old o
  pub unsent : new.unsent ≡ old.unsent

-- ---- by the octets of the segments, which is what is said where no project is known

abbrev pub ActsByImage : ℕ → Option GroupService → Option Image → DeviceState → DeviceState → Type 0
ActsByImage group service None old new = ActsOnNothing old new
ActsByImage group None (Some image) old new = ActsOnNothing old new
ActsByImage group (Some service) (Some image) old new = ActsRight (is_written image group service) (answerer image group service) group service old new

-- ---- by a configuration that the image stands for: what a project says of the device

pub record ActsByConfig (config : Config) (image : Image) (group : ℕ) (service : GroupService) (old new : DeviceState) : Type 0 where
  pub stands : StandsFor image config
  pub acts : ActsRight (acts_written config group service) (acts_answerer config group service) group service old new

-- ---- by what it began with: the octets that it kept, while it keeps them, where these are told, and else what its old project says

pub record ActsByKept (kept : NonVolatile) (image : Image) (group : ℕ) (service : GroupService) (old new : DeviceState) : Type 0 where
  pub keeps : old.kept ≡ kept
  pub acts : ActsRight (is_written image group service) (answerer image group service) group service old new

abbrev pub ActsAsBegun : Installation → Option NonVolatile → Image → ℕ → GroupService → DeviceState → DeviceState → Type 0
ActsAsBegun before None image group service old new = ActsByConfig (meaning before old.address) image group service old new
ActsAsBegun before (Some kept) image group service old new = ActsByKept kept image group service old new

-- ---- by what it began with, or by what its new project says; had tells of its address what it kept at the beginning

abbrev pub ActsByProject : (ℕ → Option NonVolatile) → Installation → Installation → ℕ → Option GroupService → Option Image → DeviceState → DeviceState → Type 0
ActsByProject had before after group service None old new = ActsOnNothing old new
ActsByProject had before after group None (Some image) old new = ActsOnNothing old new
ActsByProject had before after group (Some service) (Some image) old new =
    ActsAsBegun before (had old.address.raw) image group service old new ⊎ ActsByConfig (meaning after old.address) image group service old new

-- ---- whenever a device with power gets a group telegram

abbrev pub Acting : Type 1
Acting = ℕ → Option GroupService → Option Image → DeviceState → DeviceState → Type 0

abbrev pub EventActsRight : Acting → World → Event → Type 0
EventActsRight Acts w event =
    (device : ℕ) (old new : DeviceState) (frame : Ldata) → w.devices device ≡ Some old → (step w event).devices device ≡ Some new → old.power ≡ true
    → arrives w device event ≡ Some frame → frame.group ≡ true → Acts frame.destination (group_service (service_in frame.tpdu)) (runs old.kept) old new

abbrev pub TelegramsActRight : Acting → World → List Event → Type 0
TelegramsActRight Acts start [] = Unit {0}
TelegramsActRight Acts start (e ∷ events) = EventActsRight Acts (replay start events) e × TelegramsActRight Acts start events
