-- The device on the line (ISO/IEC 14543-3-2, 3-1 and 3-4, transport and application layer, management): what it makes of each frame that
-- comes over the bus. A frame that is taken may be taken whole, or a power cut tears the write that it asks for, or
-- worn memory keeps other octets than were sent. That unnumbered data to one device is ignored is this project's own.
use Rattle.std.specs.Prelude.{ℕ, ◌≡◌, ◌<◌, ◌-◌, Bool, true, false, not, ◌&&◌, ◌==◌, is_some, List, [], ◌∷◌, ◌++◌, length, map, Option, Some, None, if◌then◌else◌}
use Rattle.std.specs.List.{AllByRecursion}
use Rattle.knx_model.specs.declared.address.IndAddr.{IndAddr}
use Rattle.knx_model.specs.declared.config.Image.{Image}
use Rattle.knx_model.specs.declared.connection.DeviceTook.{DeviceTook}
use Rattle.knx_model.specs.declared.connection.DeviceTook.TheVariants as took
use Rattle.knx_model.specs.declared.device.FrameSupport.{FrameSupport}
use Rattle.knx_model.specs.declared.device.FrameSupport.TheVariants.{Standard, Extended}
use Rattle.knx_model.specs.declared.device.Took.{Took}
use Rattle.knx_model.specs.declared.device.Took.TheVariants.{NotMine, TooLong, Taken, Off}
use Rattle.knx_model.specs.declared.device.WriteKind.{WriteKind}
use Rattle.knx_model.specs.declared.device.WriteKind.TheVariants as kind
use Rattle.knx_model.specs.declared.frames.cemi.Ldata.{Ldata}
use Rattle.knx_model.specs.declared.frames.cemi.LdataCode.TheVariants.{Ind}
use Rattle.knx_model.specs.declared.frames.tpdu.Apdu.{Apdu}
use Rattle.knx_model.specs.declared.frames.tpdu.Apdu.TheVariants.{GroupRead, GroupResponse, GroupWrite}
use Rattle.knx_model.specs.declared.frames.value.Value.{Value}
use Rattle.knx_model.specs.declared.script.GroupService.{GroupService}
use Rattle.knx_model.specs.declared.script.GroupService.TheVariants.{Read, Write, Response}
use Rattle.knx_model.specs.Acts.{is_written, answerer}
use Rattle.knx_model.specs.Apdu.{IsValueInRange}
use Rattle.knx_model.specs.ApduReading.{service_in, apdu_octets}
use Rattle.knx_model.specs.Cemi.{is_extended}
use Rattle.knx_model.specs.Connection.{frame_in}
use Rattle.knx_model.specs.DeviceConnection.{DeviceEnd, Closed, Idle, Answering, partner_of, device_took, device_after, device_answered, after_answer, device_expired, device_repeated}
use Rattle.knx_model.specs.Device.{NonVolatile, Effect, Loads, Stores, Nothing, runs, whole, torn, taken_over, is_write, effect_in, answer_in}
use Rattle.knx_model.specs.DeviceState.{DeviceState, cut, moved, value_of, written_values}

-- ---- frames that wait to be sent

-- a frame of the device as the bus carries it: its own address is the source, low priority, hop count 6
abbrev pub own_frame : IndAddr → Bool → ℕ → List ℕ → Ldata
own_frame address group destination tpdu = record { code = Ind; error = false; group = group; priority = 3; hops = 6; source = address.raw; destination = destination; tpdu = tpdu }

-- with one more unsent frame; none is dropped
abbrev pub queued : DeviceState → Ldata → DeviceState
queued d frame = record d { unsent = d.unsent ++ frame ∷ [] }

abbrev pub queued_to : DeviceState → IndAddr → List ℕ → DeviceState
queued_to d to tpdu = queued d (own_frame d.address false to.raw tpdu)

abbrev pub queued_if : DeviceState → IndAddr → Option (List ℕ) → DeviceState
queued_if d to None = d
queued_if d to (Some tpdu) = queued_to d to tpdu

-- ---- whether it takes a frame

-- a standard device takes no extended frame
abbrev pub is_too_long : FrameSupport → Ldata → Bool
is_too_long Standard frame = is_extended frame
is_too_long Extended frame = false

-- without power it takes nothing; of the frames to one device it takes its own alone
abbrev pub took_of : DeviceState → Ldata → Took
took_of d frame =
    if not d.power then Off
    else (if not frame.group && not (frame.destination == d.address.raw) then NotMine
    else (if is_too_long d.frames frame then TooLong else Taken))

-- how a frame is taken. Torn: power is cut in the write that the frame asks for; load state and segment length are both new or both
-- old, and the octets stand in the written range. Worn: the octets stand in the range of the memory write
pub data Outcome : Type 0 where
  Whole : Outcome
  Torn : Bool → List ℕ → Outcome
  Worn : List ℕ → Outcome

abbrev pub kept_after : NonVolatile → Effect → Outcome → NonVolatile
kept_after kept effect Whole = whole kept effect
kept_after kept effect (Torn fresh octets) = torn kept effect fresh octets
kept_after kept effect (Worn octets) = taken_over kept effect (Some octets)

-- ---- frames for it alone

-- an answer of the device goes to its partner as numbered data
abbrev pub with_answer : DeviceState → IndAddr → ℕ → Option (List ℕ) → DeviceState
with_answer d to now None = d
with_answer d to now (Some octets) = queued_if (record d { connection = after_answer d.connection octets now }) to (device_answered d.connection octets)

-- a service that its partner asks for
abbrev pub served : DeviceState → IndAddr → List ℕ → ℕ → Outcome → DeviceState
served d from apdu now outcome =
    with_answer (moved d (kept_after d.kept (effect_in apdu) outcome)) from now (answer_in d.frames d.kept apdu)

-- what the connection's answer to a frame does besides: T_ACK, T_NAK and T_Disconnect join the unsent frames, T_Connect drops these, and
-- a delivered service acts
abbrev pub acted : DeviceState → IndAddr → ℕ → Outcome → DeviceTook → DeviceState
acted d from now outcome took.Dropped = d
acted d from now outcome took.Connected = record d { unsent = [] }
acted d from now outcome (took.Apdu apdu ack) = served (queued_to d from ack) from apdu now outcome
acted d from now outcome (took.Again ack) = queued_to d from ack
acted d from now outcome (took.Nak nak) = queued_to d from nak
acted d from now outcome took.Acked = d
acted d from now outcome (took.Closed answer) = queued_if d from answer

abbrev pub sender : Ldata → IndAddr
sender frame = record { raw = frame.source }

-- what the connection answers to a frame for this device alone
abbrev pub connection_took : DeviceState → Ldata → DeviceTook
connection_took d frame = device_took d.connection (sender frame) (frame_in frame.tpdu)

abbrev pub taken_alone : DeviceState → Ldata → ℕ → Outcome → DeviceState
taken_alone d frame now outcome =
    acted (record d { connection = device_after d.connection (sender frame) now (connection_took d frame) }) (sender frame) now outcome (connection_took d frame)

-- ---- group telegrams

-- a group telegram's service
abbrev pub group_service : Option Apdu → Option GroupService
group_service (Some GroupRead) = Some Read
group_service (Some (GroupWrite value)) = Some (Write value)
group_service (Some (GroupResponse value)) = Some (Response value)
group_service _ = None

-- a short value has at most six bits, and a long one 1 to 14 octets
abbrev pub IsServiceInRange : GroupService → Type 0
IsServiceInRange Read = Unit {0}
IsServiceInRange (Write value) = IsValueInRange value
IsServiceInRange (Response value) = IsValueInRange value

abbrev pub response_octets : Value → List ℕ
response_octets value = apdu_octets (GroupResponse value)

abbrev pub with_response : DeviceState → ℕ → Option Value → DeviceState
with_response d group None = d
with_response d group (Some value) = queued d (own_frame d.address true group (response_octets value))

abbrev pub answered_by : DeviceState → ℕ → Option ℕ → DeviceState
answered_by d group None = d
answered_by d group (Some o) = with_response d group (value_of d o)

-- a running device writes the value of a write or a response to its objects, and answers a read with its object's value
abbrev pub telegram_acted : DeviceState → Image → ℕ → GroupService → DeviceState
telegram_acted d image group Read = answered_by d group (answerer image group Read)
telegram_acted d image group (Write value) = record d { values = written_values (is_written image group (Write value)) value d.values }
telegram_acted d image group (Response value) = record d { values = written_values (is_written image group (Response value)) value d.values }

-- a device that doesn't run does nothing at a telegram, nor does any at another service
abbrev pub telegram_taken : DeviceState → ℕ → Option Image → Option GroupService → DeviceState
telegram_taken d group None service = d
telegram_taken d group (Some image) None = d
telegram_taken d group (Some image) (Some service) = telegram_acted d image group service

abbrev pub taken_group : DeviceState → Ldata → DeviceState
taken_group d frame = telegram_taken d frame.destination (runs d.kept) (group_service (service_in frame.tpdu))

-- ---- a frame comes over the bus

abbrev pub after_frame : DeviceState → Ldata → ℕ → Outcome → DeviceState
after_frame d frame now outcome = record (if frame.group then taken_group d frame else taken_alone d frame now outcome) { last = Some frame }

-- a torn write ends with the cut
abbrev pub after_outcome : DeviceState → Outcome → DeviceState
after_outcome d Whole = d
after_outcome d (Torn fresh octets) = cut d
after_outcome d (Worn octets) = d

abbrev pub takes_so : DeviceState → Ldata → ℕ → Outcome → Took → DeviceState
takes_so d frame now outcome Taken = after_outcome (after_frame d frame now outcome) outcome
takes_so d frame now outcome NotMine = d
takes_so d frame now outcome TooLong = d
takes_so d frame now outcome Off = d

abbrev pub takes : DeviceState → Ldata → ℕ → Outcome → DeviceState
takes d frame now outcome = takes_so d frame now outcome (took_of d frame)

-- the bus brings the frame that it got last once more
abbrev pub taken_last : DeviceState → ℕ → Option Ldata → DeviceState
taken_last d now None = d
taken_last d now (Some frame) = takes d frame now Whole

abbrev pub taken_again : DeviceState → ℕ → DeviceState
taken_again d now = taken_last d now d.last

-- ---- the write that a frame asks for

abbrev pub effect_delivered : DeviceTook → Effect
effect_delivered (took.Apdu apdu ack) = effect_in apdu
effect_delivered _ = Nothing

abbrev pub is_taken : Took → Bool
is_taken Taken = true
is_taken NotMine = false
is_taken TooLong = false
is_taken Off = false

-- what the service does that this frame would deliver now
abbrev pub effect_of_frame : DeviceState → Ldata → Effect
effect_of_frame d frame = if is_taken (took_of d frame) && not frame.group then effect_delivered (connection_took d frame) else Nothing

abbrev pub write_kind : Effect → Option WriteKind
write_kind (Loads o event) = Some kind.Load
write_kind (Stores address octets) = Some kind.Memory
write_kind Nothing = None

-- the write of the device that this frame would be now
abbrev pub would_write : DeviceState → Ldata → Option WriteKind
would_write d frame = if is_write d.kept (effect_of_frame d frame) then write_kind (effect_of_frame d frame) else None

-- the octets of a memory write
abbrev pub octets_sent : Effect → List ℕ
octets_sent (Stores address octets) = octets
octets_sent (Loads o event) = []
octets_sent Nothing = []

abbrev pub AreOctets : List ℕ → Type 0
AreOctets octets = AllByRecursion (λ octet. octet < 256) octets

-- worn memory keeps another octet, or the same one, for each that was sent
pub record MayWear (d : DeviceState) (frame : Ldata) (octets : List ℕ) : Type 0 where
  pub write : would_write d frame ≡ Some kind.Memory
  pub each : length octets ≡ length (octets_sent (effect_of_frame d frame))
  pub eight_bits : AreOctets octets

-- how a frame may be taken: torn where it would be a write, and over worn memory where this would be a memory write
abbrev pub MayTake : DeviceState → Ldata → Outcome → Type 0
MayTake d frame Whole = Unit {0}
MayTake d frame (Torn fresh octets) = (is_some (would_write d frame) ≡ true) × AreOctets octets
MayTake d frame (Worn octets) = MayWear d frame octets

-- the octets of a memory write, each the complement of the one that was sent
abbrev pub complements : List ℕ → List ℕ
complements octets = map (λ octet. 255 - octet) octets

abbrev pub worn_octets : Effect → List ℕ
worn_octets effect = complements (octets_sent effect)
