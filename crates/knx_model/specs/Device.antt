-- The device (ISO/IEC 14543-3-4, management, and KNX standard 3/5/1, resources, after System B): what it keeps without power, what it
-- runs, and what each service does and is answered. The segments' bases and capacities are this project's own, and so are the number
-- and the content of property 56 (the greatest length of an APDU), and that a start of 0 is refused.
use Rattle.std.specs.Prelude.{ℕ, ◌≡◌, ◌+◌, ◌-◌, ◌≤◌, Bool, true, false, ◌&&◌, ◌==◌, nat_le, nat_lt, List, [], ◌∷◌, length, take, drop, replicate, Option, Some, None, if◌then◌else◌}
use Rattle.knx_model.specs.declared.config.Image.{Image}
use Rattle.knx_model.specs.declared.device.FrameSupport.{FrameSupport}
use Rattle.knx_model.specs.declared.device.FrameSupport.TheVariants.{Standard, Extended}
use Rattle.knx_model.specs.declared.loading.LoadEvent.{LoadEvent}
use Rattle.knx_model.specs.declared.loading.LoadEvent.TheVariants.{NoOperation, Allocate}
use Rattle.knx_model.specs.declared.loading.LoadableObject.{LoadableObject}
use Rattle.knx_model.specs.declared.loading.LoadableObject.TheVariants.{AddressTable, AssociationTable, GroupObjects, Application}
use Rattle.knx_model.specs.declared.frames.tpdu.Apdu.{Apdu}
use Rattle.knx_model.specs.declared.frames.tpdu.Apdu.TheVariants.{MemoryRead, MemoryResponse, MemoryWrite, DescriptorRead, DescriptorResponse, PropertyRead, PropertyResponse, PropertyWrite}
use Rattle.knx_model.specs.Apdu.{word}
use Rattle.knx_model.specs.ApduReading.{service_in, apdu_octets, option_map}
use Rattle.knx_model.specs.Loading.{Loadable, octets_of, capacity_of, is_loaded, load_event, load_step, load_torn, state_number, has_range, takes_write, memory_written, memory_torn}

-- ---- what outlives a power cut: the four loadable objects

pub record NonVolatile : Type 0 where
  pub address_table : Loadable
  pub association_table : Loadable
  pub group_objects : Loadable
  pub application : Loadable

-- a loadable object of the device, and the device with another content of it
abbrev pub loadable : NonVolatile → LoadableObject → Loadable
loadable nv AddressTable = nv.address_table
loadable nv AssociationTable = nv.association_table
loadable nv GroupObjects = nv.group_objects
loadable nv Application = nv.application

abbrev pub with_loadable : NonVolatile → LoadableObject → Loadable → NonVolatile
with_loadable nv AddressTable p = record nv { address_table = p }
with_loadable nv AssociationTable p = record nv { association_table = p }
with_loadable nv GroupObjects p = record nv { group_objects = p }
with_loadable nv Application p = record nv { application = p }

-- ---- the table of the loadable objects

abbrev pub object_index : LoadableObject → ℕ
object_index AddressTable = 1
object_index AssociationTable = 2
object_index GroupObjects = 3
object_index Application = 4

abbrev pub segment_base : LoadableObject → ℕ
segment_base AddressTable = 0x4000
segment_base AssociationTable = 0x5000
segment_base GroupObjects = 0x7000
segment_base Application = 0x8000

abbrev pub capacity : LoadableObject → ℕ
capacity AddressTable = 0x1000
capacity AssociationTable = 0x2000
capacity GroupObjects = 0x0400
capacity Application = 0x2000

-- the object of an index
abbrev pub object_of_index : ℕ → Option LoadableObject
object_of_index n =
    if n == 1 then Some AddressTable
    else (if n == 2 then Some AssociationTable
    else (if n == 3 then Some GroupObjects
    else (if n == 4 then Some Application else None)))

abbrev pub lies_in : LoadableObject → ℕ → Bool
lies_in o a = nat_le (segment_base o) a && nat_lt a (segment_base o + capacity o)

-- the object in whose segment's memory an address lies
abbrev pub object_at : ℕ → Option LoadableObject
object_at a =
    if lies_in AddressTable a then Some AddressTable
    else (if lies_in AssociationTable a then Some AssociationTable
    else (if lies_in GroupObjects a then Some GroupObjects
    else (if lies_in Application a then Some Application else None)))

-- each object's memory has the capacity of its segment
pub record HasCapacities (nv : NonVolatile) : Type 0 where
  pub addr : capacity_of nv.address_table ≡ capacity AddressTable
  pub assoc : capacity_of nv.association_table ≡ capacity AssociationTable
  pub objs : capacity_of nv.group_objects ≡ capacity GroupObjects
  pub params : capacity_of nv.application ≡ capacity Application

-- the lists of an image are within the capacities of their segments
pub record Fits (image : Image) : Type 0 where
  pub addr : length image.addr ≤ capacity AddressTable
  pub assoc : length image.assoc ≤ capacity AssociationTable
  pub objs : length image.objs ≤ capacity GroupObjects
  pub params : length image.params ≤ capacity Application

-- ---- what it runs

abbrev pub all_loaded : NonVolatile → Bool
all_loaded nv = is_loaded nv.address_table.state && is_loaded nv.association_table.state && is_loaded nv.group_objects.state && is_loaded nv.application.state

-- the contents of the four segments, each of its length
abbrev pub segments : NonVolatile → Image
segments nv = record {
  addr = octets_of nv.address_table;
  assoc = octets_of nv.association_table;
  objs = octets_of nv.group_objects;
  params = octets_of nv.application;
}

-- it runs exactly while all four objects are Loaded, and then the contents of its segments
abbrev pub runs : NonVolatile → Option Image
runs nv = if all_loaded nv then Some (segments nv) else None

-- ---- what a service does

-- what a service does to a device: it gives a load event to an object, it stores octets from an address on, or nothing
pub data Effect : Type 0 where
  Loads : LoadableObject → LoadEvent → Effect
  Stores : ℕ → List ℕ → Effect
  Nothing : Effect

-- a write of load control: property 5 of an object 1 to 4, count and start 1, ten octets
abbrev pub is_load_control : ℕ → ℕ → ℕ → List ℕ → Bool
is_load_control property count start octets = (property == 5) && (count == 1) && (start == 1) && (length octets == 10)

abbrev pub load_asked : Option LoadableObject → List ℕ → Effect
load_asked None octets = Nothing
load_asked (Some o) octets = Loads o (load_event octets)

abbrev pub effect_of : Apdu → Effect
effect_of (MemoryWrite address octets) = Stores address octets
effect_of (PropertyWrite index property count start octets) = if is_load_control property count start octets then load_asked (object_of_index index) octets else Nothing
effect_of _ = Nothing

-- what one object's content becomes, where the address lies in an object's memory
abbrev pub at_address : NonVolatile → ℕ → (Loadable → ℕ → Loadable) → NonVolatile
at_address nv address change = elim (object_at address) as (λ _. NonVolatile) [ None ↦ nv | Some o ↦ with_loadable nv o (change (loadable nv o) (address - segment_base o)) ]

-- what an effect leaves that is taken whole
abbrev pub whole : NonVolatile → Effect → NonVolatile
whole nv (Loads o event) = with_loadable nv o (load_step (loadable nv o) event)
whole nv (Stores address octets) = at_address nv address (λ p at. memory_written p at octets)
whole nv Nothing = nv

-- what an effect leaves that a power cut tears
abbrev pub torn : NonVolatile → Effect → Bool → List ℕ → NonVolatile
torn nv (Loads o event) fresh octets = with_loadable nv o (load_torn (loadable nv o) event fresh octets)
torn nv (Stores address asked) fresh octets = at_address nv address (λ p at. memory_torn p at (length asked) octets)
torn nv Nothing fresh octets = nv

-- what an effect leaves where memory may be worn: then any octets stand in the range of a memory write
abbrev pub taken_over : NonVolatile → Effect → Option (List ℕ) → NonVolatile
taken_over nv (Loads o event) wear = whole nv (Loads o event)
taken_over nv (Stores address asked) None = whole nv (Stores address asked)
taken_over nv (Stores address asked) (Some octets) = torn nv (Stores address asked) true octets
taken_over nv Nothing wear = nv

-- a write of the device, at which a cut may fall: a taken memory write, or a load event other than 0
abbrev pub is_operation : LoadEvent → Bool
is_operation NoOperation = false
is_operation _ = true

abbrev pub is_write : NonVolatile → Effect → Bool
is_write nv (Loads o event) = is_operation event
is_write nv (Stores address octets) = elim (object_at address) as (λ _. Bool) [ None ↦ false | Some o ↦ takes_write (loadable nv o) (address - segment_base o) (length octets) ]
is_write nv Nothing = false

-- the first k octets that an effect writes to memory: of a memory write those that are sent, of an allocation the fill
abbrev pub front_of_load : LoadEvent → ℕ → List ℕ
front_of_load (Allocate size fill) k = take k (replicate size fill)
front_of_load _ k = []

abbrev pub written_front : Effect → ℕ → List ℕ
written_front (Loads o event) k = front_of_load event k
written_front (Stores address octets) k = take k octets
written_front Nothing k = []

-- ---- what a service is answered

-- the type of the object of an index: device, address table, association table, group objects, application
abbrev pub object_type : ℕ → Option ℕ
object_type index =
    if index == 0 then Some 0
    else (if index == 1 then Some 1
    else (if index == 2 then Some 2
    else (if index == 3 then Some 9
    else (if index == 4 then Some 3 else None))))

abbrev pub load_state : NonVolatile → LoadableObject → List ℕ
load_state nv o = state_number (loadable nv o).state ∷ []

abbrev pub table_reference : LoadableObject → List ℕ
table_reference o = 0 ∷ 0 ∷ word (segment_base o)

-- the greatest length of an APDU, without its first octet
abbrev pub greatest_length : FrameSupport → ℕ
greatest_length Standard = 0x0F
greatest_length Extended = 0x3F

-- the properties: 1 object type, 5 load control, 7 table reference, 56 greatest length of an APDU
abbrev pub property_value : FrameSupport → NonVolatile → ℕ → ℕ → Option (List ℕ)
property_value frames nv index property =
    if property == 1 then option_map word (object_type index)
    else (if property == 5 then option_map (load_state nv) (object_of_index index)
    else (if property == 7 then option_map table_reference (object_of_index index)
    else (if (property == 56) && (index == 0) then Some (word (greatest_length frames)) else None)))

-- a property that is there is answered with count 1, and else with count 0 and no octets
abbrev pub property_response : ℕ → ℕ → ℕ → Option (List ℕ) → Apdu
property_response index property start None = PropertyResponse index property 0 start []
property_response index property start (Some octets) = PropertyResponse index property 1 start octets

abbrev pub where_one : ℕ → ℕ → Option (List ℕ) → Option (List ℕ)
where_one count start value = if (count == 1) && (start == 1) then value else None

-- the octets of a range that lies within the length of one segment, and else none
abbrev pub range_octets : NonVolatile → ℕ → ℕ → List ℕ
range_octets nv address n = elim (object_at address) as (λ _. List ℕ) [
  | None ↦ []
  | Some o ↦ if has_range (loadable nv o) (address - segment_base o) n then take n (drop (address - segment_base o) (octets_of (loadable nv o))) else []
]

-- so many octets can be read at once: a standard frame has room for twelve
abbrev pub reads_at_once : FrameSupport → ℕ → Bool
reads_at_once Standard count = nat_le count 12
reads_at_once Extended count = true

abbrev pub read_octets : FrameSupport → NonVolatile → ℕ → ℕ → List ℕ
read_octets frames nv address count = if reads_at_once frames count then range_octets nv address count else []

-- what a service is answered by a device that takes these frames and keeps nv; a memory write, and a service that a device doesn't
-- know, has no answer
abbrev pub answer : FrameSupport → NonVolatile → Apdu → Option Apdu
answer frames nv (DescriptorRead kind) = Some (if kind == 0 then DescriptorResponse 0 (Some 0x07B0) else DescriptorResponse 0x3F None)
answer frames nv (MemoryRead count address) = Some (MemoryResponse address (read_octets frames nv address count))
answer frames nv (PropertyRead index property count start) = Some (property_response index property start (where_one count start (property_value frames nv index property)))
answer frames nv (PropertyWrite index property count start octets) =
    Some (property_response index property start (if is_load_control property count start octets then option_map (load_state (whole nv (effect_of (PropertyWrite index property count start octets)))) (object_of_index index) else None))
answer frames nv _ = None

-- ---- the same by octets

abbrev pub effect_at : Option Apdu → Effect
effect_at None = Nothing
effect_at (Some apdu) = effect_of apdu

-- what the service does that these octets ask for; octets that are no service do nothing
abbrev pub effect_in : List ℕ → Effect
effect_in octets = effect_at (service_in octets)

abbrev pub answer_at : FrameSupport → NonVolatile → Option Apdu → Option (List ℕ)
answer_at frames nv None = None
answer_at frames nv (Some apdu) = option_map apdu_octets (answer frames nv apdu)

abbrev pub answer_in : FrameSupport → NonVolatile → List ℕ → Option (List ℕ)
answer_in frames nv octets = answer_at frames nv (service_in octets)
