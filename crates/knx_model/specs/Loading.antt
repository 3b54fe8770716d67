-- The load machine of a device (ISO/IEC 14543-3-4, management): what a loadable object keeps without power, and what a load event makes
-- of it. The table, the form of an allocation and its limits are this project's own, written after System B.
use Rattle.std.specs.Prelude.{ℕ, ◌+◌, ◌-◌, ◌*◌, Bool, true, false, ◌&&◌, ◌==◌, nat_le, List, [], ◌∷◌, ◌++◌, length, take, drop, replicate, if◌then◌else◌}
use Rattle.knx_model.specs.declared.loading.LoadState.{LoadState}
use Rattle.knx_model.specs.declared.loading.LoadState.TheVariants.{Unloaded, Loaded, Loading, Error}
use Rattle.knx_model.specs.declared.loading.LoadEvent.{LoadEvent}
use Rattle.knx_model.specs.declared.loading.LoadEvent.TheVariants.{NoOperation, StartLoading, LoadCompleted, Allocate, Unload, Undefined}

-- a loadable object: its load state, the length of its segment, and the memory of which the segment is the front
pub record Loadable : Type 0 where
  pub state : LoadState
  pub len : ℕ
  pub memory : List ℕ

-- the octets within the segment's length
abbrev pub octets_of : Loadable → List ℕ
octets_of p = take p.len p.memory

-- the greatest length that its segment may have
abbrev pub capacity_of : Loadable → ℕ
capacity_of p = length p.memory

-- what the load machine keeps of a loadable object: all but the memory
pub record Machine : Type 0 where
  pub state : LoadState
  pub len : ℕ

abbrev pub machine_of : Loadable → Machine
machine_of p = record { state = p.state; len = p.len }

abbrev pub with_state : Loadable → LoadState → Loadable
with_state p state = record p { state = state }

abbrev pub with_memory : Loadable → List ℕ → Loadable
with_memory p memory = record p { memory = memory }

abbrev pub is_loading : LoadState → Bool
is_loading Unloaded = false
is_loading Loaded = false
is_loading Loading = true
is_loading Error = false

abbrev pub is_loaded : LoadState → Bool
is_loaded Unloaded = false
is_loaded Loaded = true
is_loaded Loading = false
is_loaded Error = false

-- start loading: each state but Error becomes Loading
abbrev pub started : LoadState → LoadState
started Unloaded = Loading
started Loaded = Loading
started Loading = Loading
started Error = Error

-- load completed: Loaded and Loading become Loaded
abbrev pub completed : LoadState → LoadState
completed Unloaded = Error
completed Loaded = Loaded
completed Loading = Loaded
completed Error = Error

-- an allocation is taken while Loading, where the size is within the capacity
abbrev pub allocates : Loadable → ℕ → Bool
allocates p size = is_loading p.state && nat_le size (capacity_of p)

-- by a taken allocation the length becomes the size and each octet the fill
abbrev pub allocated : Loadable → ℕ → ℕ → Loadable
allocated p size fill =
    if allocates p size
    then record { state = Loading; len = size; memory = replicate size fill ++ drop size p.memory }
    else with_state p Error

-- the load table: what an event leaves
abbrev pub load_step : Loadable → LoadEvent → Loadable
load_step p NoOperation = p
load_step p StartLoading = with_state p (started p.state)
load_step p LoadCompleted = with_state p (completed p.state)
load_step p (Allocate size fill) = allocated p size fill
load_step p Unload = record p { state = Unloaded; len = 0 }
load_step p Undefined = with_state p Error

-- a number of four octets, the highest first
abbrev pub four_octets : ℕ → ℕ → ℕ → ℕ → ℕ
four_octets a b c d = ((a * 256 + b) * 256 + c) * 256 + d

-- 03 0B, size (4), 01, fill, 00 00: what stands after the 03
abbrev pub allocation : List ℕ → LoadEvent
allocation (k ∷ a ∷ b ∷ c ∷ d ∷ one ∷ fill ∷ y ∷ z ∷ []) =
    if (k == 0x0B) && (one == 1) && (y == 0) && (z == 0) then Allocate (four_octets a b c d) fill else Undefined
allocation rest = Undefined

-- the load event which the octets of load control ask for: the first is its number
abbrev pub load_event : List ℕ → LoadEvent
load_event [] = Undefined
load_event (number ∷ rest) =
    if number == 0 then NoOperation
    else (if number == 1 then StartLoading
    else (if number == 2 then LoadCompleted
    else (if number == 3 then allocation rest
    else (if number == 4 then Unload else Undefined))))

-- the number of a load state, as it is answered
abbrev pub state_number : LoadState → ℕ
state_number Unloaded = 0
state_number Loaded = 1
state_number Loading = 2
state_number Error = 3

-- ---- memory writes, and what a power cut leaves

-- these octets stand from this place on, as far as there is room, and nothing else is changed
abbrev pub overlaid : List ℕ → ℕ → List ℕ → List ℕ
overlaid memory at octets = take at memory ++ (take (length memory - at) octets ++ drop (at + length octets) memory)

-- a range of n octets lies within the segment's length
abbrev pub has_range : Loadable → ℕ → ℕ → Bool
has_range p at n = nat_le (at + n) p.len

-- a memory write is taken within the length while the object is Loading, and else ignored
abbrev pub takes_write : Loadable → ℕ → ℕ → Bool
takes_write p at n = is_loading p.state && has_range p at n

abbrev pub memory_written : Loadable → ℕ → List ℕ → Loadable
memory_written p at octets = if takes_write p at (length octets) then with_memory p (overlaid p.memory at octets) else p

-- what stands there where any octets may stand in the range of a taken memory write of n octets
abbrev pub memory_torn : Loadable → ℕ → ℕ → List ℕ → Loadable
memory_torn p at n octets = if takes_write p at n then with_memory p (overlaid p.memory at (take n octets)) else p

abbrev pub old_or_new : Bool → Loadable → Loadable → Loadable
old_or_new fresh old new = if fresh then new else old

-- what a load event leaves that a power cut tears: state and length are both old or both new, and any octets stand in the range
-- of a taken allocation
abbrev pub load_torn : Loadable → LoadEvent → Bool → List ℕ → Loadable
load_torn p (Allocate size fill) fresh octets =
    if allocates p size
    then record { state = Loading; len = if fresh then size else p.len; memory = overlaid p.memory 0 (take size octets) }
    else old_or_new fresh p (with_state p Error)
load_torn p NoOperation fresh octets = p
load_torn p StartLoading fresh octets = old_or_new fresh p (load_step p StartLoading)
load_torn p LoadCompleted fresh octets = old_or_new fresh p (load_step p LoadCompleted)
load_torn p Unload fresh octets = old_or_new fresh p (load_step p Unload)
load_torn p Undefined fresh octets = old_or_new fresh p (load_step p Undefined)
