-- The state of a device of the line (ISO/IEC 14543-3-2, 3-1 and 3-4): what it keeps without power, and what it has only while it has
-- power, which is its connection, its objects' values, the frames that it has to send, and the frame that it got last.
use Rattle.std.specs.Prelude.{ℕ, ◌≡◌, ◌-◌, Bool, true, false, ◌&&◌, ◌==◌, List, [], ◌++◌, length, map, replicate, slice_index_or, Option, Some, None, if◌then◌else◌}
use Rattle.std.specs.List.{range_with_len}
use Rattle.knx_model.specs.declared.address.IndAddr.{IndAddr}
use Rattle.knx_model.specs.declared.config.Image.{Image}
use Rattle.knx_model.specs.declared.config.ObjSpec.{ObjSpec}
use Rattle.knx_model.specs.declared.device.FrameSupport.{FrameSupport}
use Rattle.knx_model.specs.declared.device.FrameSupport.TheVariants.{Standard, Extended}
use Rattle.knx_model.specs.declared.frames.cemi.Ldata.{Ldata}
use Rattle.knx_model.specs.declared.frames.value.Value.{Value}
use Rattle.knx_model.specs.declared.loading.LoadState.{LoadState}
use Rattle.knx_model.specs.declared.loading.LoadState.TheVariants.{Unloaded, Loaded}
use Rattle.knx_model.specs.declared.loading.LoadableObject.TheVariants.{AddressTable, AssociationTable, GroupObjects, Application}
use Rattle.knx_model.specs.Acts.{object_in_table, zero_value}
use Rattle.knx_model.specs.DeviceConnection.{DeviceEnd, Closed}
use Rattle.knx_model.specs.Device.{NonVolatile, HasCapacities, capacity, runs}
use Rattle.knx_model.specs.Loading.{Loadable, state_number}

pub record DeviceState : Type 0 where
  pub address : IndAddr
  pub frames : FrameSupport  -- which frames it takes
  pub kept : NonVolatile
  pub power : Bool
  pub connection : DeviceEnd
  pub values : List (Option Value)  -- what was written to each object number from 0 to 255; None where nothing was
  pub unsent : List Ldata  -- the frames that it has to send, the oldest first
  pub last : Option Ldata  -- the frame that it got last

-- what is so of each device: its memories are as long as the table says, and there is a slot for each object number
pub record IsDevice (d : DeviceState) : Type 0 where
  pub capacities : HasCapacities d.kept
  pub slots : length d.values ≡ 256

-- ---- power

-- nothing was written to any object
unfoldable pub zero_values : List (Option Value)
zero_values = replicate 256 None

-- a device without connection, values and frames
abbrev pub at_rest : DeviceState → DeviceState
at_rest d = record d { connection = Closed; values = zero_values; unsent = []; last = None }

-- power goes, and with it all that isn't kept without power
abbrev pub cut : DeviceState → DeviceState
cut d = record (at_rest d) { power = false }

-- power comes back; a device that has power keeps what it has
abbrev pub switched_on : DeviceState → DeviceState
switched_on d = if d.power then d else record (at_rest d) { power = true }

-- ---- devices at rest

-- a device with power that has nothing but what it keeps without
abbrev pub device_with : IndAddr → NonVolatile → DeviceState
device_with address kept = record { address = address; frames = Extended; kept = kept; power = true; connection = Closed; values = zero_values; unsent = []; last = None }

unfoldable pub blank_object : ℕ → Loadable
blank_object size = record { state = Unloaded; len = 0; memory = replicate size 0 }

-- a device with power to which nothing was loaded
abbrev pub blank : IndAddr → DeviceState
blank address = device_with address (record {
  address_table = blank_object (capacity AddressTable);
  association_table = blank_object (capacity AssociationTable);
  group_objects = blank_object (capacity GroupObjects);
  application = blank_object (capacity Application);
})

-- an object that is loaded with a list: the rest of its memory is 0
abbrev pub loaded_object : ℕ → List ℕ → Loadable
loaded_object size list = record { state = Loaded; len = length list; memory = list ++ replicate (size - length list) 0 }

-- a device with power that is loaded with an image
abbrev pub loaded_with : IndAddr → Image → DeviceState
loaded_with address image = device_with address (record {
  address_table = loaded_object (capacity AddressTable) image.addr;
  association_table = loaded_object (capacity AssociationTable) image.assoc;
  group_objects = loaded_object (capacity GroupObjects) image.objs;
  application = loaded_object (capacity Application) image.params;
})

-- a device that takes these frames
abbrev pub framed : FrameSupport → DeviceState → DeviceState
framed frames d = record d { frames = frames }

-- ---- values

abbrev pub same_state : LoadState → LoadState → Bool
same_state one other = state_number one == state_number other

abbrev pub same_states : NonVolatile → NonVolatile → Bool
same_states old new =
    same_state old.address_table.state new.address_table.state
    && same_state old.association_table.state new.association_table.state
    && same_state old.group_objects.state new.group_objects.state
    && same_state old.application.state new.application.state

-- with another content of what it keeps: a change of a load state makes all values zero
abbrev pub moved : DeviceState → NonVolatile → DeviceState
moved d kept = record d { kept = kept; values = if same_states d.kept kept then d.values else zero_values }

-- what was written to an object
abbrev pub slot : List (Option Value) → ℕ → Option Value
slot values o = slice_index_or values o None

abbrev pub value_or_zero : Option Value → ℕ → Value
value_or_zero None size = zero_value size
value_or_zero (Some value) size = value

abbrev pub value_at : List (Option Value) → ℕ → Option ObjSpec → Option Value
value_at values o None = None
value_at values o (Some object) = Some (value_or_zero (slot values o) object.size)

abbrev pub value_in_image : List (Option Value) → ℕ → Option Image → Option Value
value_in_image values o None = None
value_in_image values o (Some image) = value_at values o (object_in_table image.objs o)

-- the value of an object: none where the device doesn't run or lacks the object
abbrev pub value_of : DeviceState → ℕ → Option Value
value_of d o = value_in_image d.values o (runs d.kept)

-- each object that takes the value has it, and all others keep theirs
unfoldable pub written_values : (ℕ → Bool) → Value → List (Option Value) → List (Option Value)
written_values writes value values = map (λ o. if writes o then Some value else slot values o) (range_with_len 0 256)
