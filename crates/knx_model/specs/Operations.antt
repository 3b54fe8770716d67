-- The operations of the plans: for each loadable object, in the standard's order of loading (ISO/IEC 14543-3-4, management procedures).
-- Its pieces, and that all is read back, are this project's own.
use Rattle.std.specs.Prelude.{ℕ, suc, ◌+◌, ◌-◌, ◌*◌, ◌/◌, ◌%◌, nat_lt, List, [], ◌∷◌, ◌++◌, length, take, drop, map, Option, Some, None, if◌then◌else◌}
use Rattle.std.specs.List.{range_with_len}
use Rattle.knx_model.specs.declared.loading.LoadState.{LoadState}
use Rattle.knx_model.specs.declared.loading.LoadState.TheVariants.{Unloaded, Loaded, Loading}
use Rattle.knx_model.specs.declared.loading.LoadEvent.{LoadEvent}
use Rattle.knx_model.specs.declared.loading.LoadEvent.TheVariants.{NoOperation, StartLoading, LoadCompleted, Allocate, Unload, Undefined}
use Rattle.knx_model.specs.declared.loading.LoadableObject.{LoadableObject}
use Rattle.knx_model.specs.declared.frames.tpdu.Apdu.{Apdu}
use Rattle.knx_model.specs.declared.frames.tpdu.Apdu.TheVariants.{MemoryRead, MemoryResponse, MemoryWrite, PropertyRead, PropertyResponse, PropertyWrite}
use Rattle.knx_model.specs.declared.plan.PieceSize.{PieceSize}
use Rattle.knx_model.specs.declared.plan.PieceSize.TheVariants.{Twelve, Sixty}
use Rattle.knx_model.specs.declared.plan.Expect.{Expect}
use Rattle.knx_model.specs.declared.plan.Expect.TheVariants.{AckOnly, Is}
use Rattle.knx_model.specs.Apdu.{word}
use Rattle.knx_model.specs.ApduReading.{apdu_octets}
use Rattle.knx_model.specs.Loading.{state_number}
use Rattle.knx_model.specs.Device.{object_index, segment_base, capacity, table_reference}
use Rattle.knx_model.specs.Plans.{Plan, Over, Asks}

-- ---- operations, and lists of them as plans

-- a service, and the answer that is expected; none where the acknowledgement is all
pub record Operation : Type 0 where
  pub service : Apdu
  pub expected : Option Apdu

abbrev pub expecting : Apdu → Apdu → Operation
expecting service expected = record { service = service; expected = Some expected }

abbrev pub acknowledged : Apdu → Operation
acknowledged service = record { service = service; expected = None }

abbrev pub expect_of : Option Apdu → Expect
expect_of None = AckOnly
expect_of (Some expected) = Is (apdu_octets expected)

-- the plan that is these operations, numbered from `place` on, whatever they are answered
abbrev pub listed : ℕ → List Operation → Plan
listed place [] = Over
listed place (operation ∷ operations) = Asks place (apdu_octets operation.service) (expect_of operation.expected) (λ _. listed (suc place) operations)

-- ---- load events and properties

-- the ten octets of a load event
abbrev pub load_octets : LoadEvent → List ℕ
load_octets NoOperation = 0 ∷ 0 ∷ 0 ∷ 0 ∷ 0 ∷ 0 ∷ 0 ∷ 0 ∷ 0 ∷ 0 ∷ []
load_octets StartLoading = 1 ∷ 0 ∷ 0 ∷ 0 ∷ 0 ∷ 0 ∷ 0 ∷ 0 ∷ 0 ∷ 0 ∷ []
load_octets LoadCompleted = 2 ∷ 0 ∷ 0 ∷ 0 ∷ 0 ∷ 0 ∷ 0 ∷ 0 ∷ 0 ∷ 0 ∷ []
load_octets (Allocate size fill) = 3 ∷ 0x0B ∷ (word (size / 65536) ++ (word (size % 65536) ++ (1 ∷ fill ∷ 0 ∷ 0 ∷ [])))
load_octets Unload = 4 ∷ 0 ∷ 0 ∷ 0 ∷ 0 ∷ 0 ∷ 0 ∷ 0 ∷ 0 ∷ 0 ∷ []
load_octets Undefined = 5 ∷ 0 ∷ 0 ∷ 0 ∷ 0 ∷ 0 ∷ 0 ∷ 0 ∷ 0 ∷ 0 ∷ []

-- a load event to an object, and the state that is expected after it
abbrev pub event_then : LoadableObject → LoadEvent → LoadState → Operation
event_then o event state =
    expecting (PropertyWrite (object_index o) 5 1 1 (load_octets event)) (PropertyResponse (object_index o) 5 1 1 (state_number state ∷ []))

-- a read of an object's load state, which is expected to be Loaded
abbrev pub reads_loaded : LoadableObject → Operation
reads_loaded o = expecting (PropertyRead (object_index o) 5 1 1) (PropertyResponse (object_index o) 5 1 1 (state_number Loaded ∷ []))

-- a read of an object's base, which is expected
abbrev pub reads_base : LoadableObject → Operation
reads_base o = expecting (PropertyRead (object_index o) 7 1 1) (PropertyResponse (object_index o) 7 1 1 (table_reference o))

-- ---- pieces of a list

abbrev pub piece_octets : PieceSize → ℕ
piece_octets Twelve = 12
piece_octets Sixty = 60

-- where the k-th piece begins
unfoldable pub piece_start : PieceSize → ℕ → ℕ
piece_start size k = piece_octets size * k

-- the k-th piece, the last one shorter
unfoldable pub piece : PieceSize → List ℕ → ℕ → List ℕ
piece size list k = take (piece_octets size) (drop (piece_start size k) list)

-- the pieces of a list, the last one counted too
unfoldable pub piece_count : PieceSize → List ℕ → ℕ
piece_count size list = (length list + (piece_octets size - 1)) / piece_octets size

abbrev pub writes_piece : PieceSize → LoadableObject → List ℕ → ℕ → Operation
writes_piece size o list k = acknowledged (MemoryWrite (segment_base o + piece_start size k) (piece size list k))

abbrev pub reads_piece : PieceSize → LoadableObject → List ℕ → ℕ → Operation
reads_piece size o list k =
    expecting (MemoryRead (length (piece size list k)) (segment_base o + piece_start size k)) (MemoryResponse (segment_base o + piece_start size k) (piece size list k))

-- one operation for each of n pieces, in order
abbrev pub each_piece : (ℕ → Operation) → ℕ → List Operation
each_piece operation n = map operation (range_with_len 0 n)

-- ---- the operations of one object

-- all operations that load an object but its completion: unload, start, allocate, read the base, write the pieces, read them back
unfoldable pub filling : PieceSize → LoadableObject → List ℕ → List Operation
filling size o list =
    event_then o Unload Unloaded ∷ event_then o StartLoading Loading ∷ event_then o (Allocate (length list) 0) Loading ∷ reads_base o
    ∷ (each_piece (writes_piece size o list) (piece_count size list) ++ each_piece (reads_piece size o list) (piece_count size list))

unfoldable pub loading : PieceSize → LoadableObject → List ℕ → List Operation
loading size o list = filling size o list ++ event_then o LoadCompleted Loaded ∷ []

-- where a list is shorter than its segment can be, a read of one octet after its end, which is expected to be refused with count 0
abbrev pub reads_end : LoadableObject → List ℕ → List Operation
reads_end o list =
    if nat_lt (length list) (capacity o)
    then expecting (MemoryRead 1 (segment_base o + length list)) (MemoryResponse (segment_base o + length list) []) ∷ []
    else []

-- the operations that check an object: it is Loaded, its base, its pieces, and that nothing comes after them
unfoldable pub checking : PieceSize → LoadableObject → List ℕ → List Operation
checking size o list = reads_loaded o ∷ reads_base o ∷ (each_piece (reads_piece size o list) (piece_count size list) ++ reads_end o list)
