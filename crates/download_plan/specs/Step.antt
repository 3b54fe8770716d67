-- The operations of a plan by their place: which object, which step of it, and what is done there.
use Rattle.std.specs.Prelude.{ℕ, ◌+◌, ◌*◌, ◌<◌, nat_lt, List, [], length, if◌then◌else◌}
use Rattle.knx_model.specs.declared.loading.LoadState.TheVariants.{Unloaded, Loaded, Loading}
use Rattle.knx_model.specs.declared.loading.LoadEvent.{LoadEvent}
use Rattle.knx_model.specs.declared.loading.LoadEvent.TheVariants.{StartLoading, LoadCompleted, Allocate, Unload}
use Rattle.knx_model.specs.declared.loading.LoadableObject.{LoadableObject}
use Rattle.knx_model.specs.declared.loading.LoadableObject.TheVariants.{AddressTable, AssociationTable, GroupObjects, Application}
use Rattle.knx_model.specs.declared.frames.tpdu.Apdu.TheVariants.{MemoryRead, MemoryResponse, PropertyRead}
use Rattle.knx_model.specs.declared.plan.Expect.TheVariants.{Note}
use Rattle.knx_model.specs.declared.plan.Op.{Op}
use Rattle.knx_model.specs.declared.plan.PieceSize.{PieceSize}
use Rattle.knx_model.specs.ApduReading.{apdu_octets}
use Rattle.knx_model.specs.Device.{segment_base, capacity}
use Rattle.knx_model.specs.Operations.{Operation, expecting, expect_of, event_then, reads_loaded, reads_base, piece_count, writes_piece, reads_piece}
use Rattle.download_plan.specs.declared.place.Shares.{Shares}
use Rattle.download_plan.specs.declared.step.LoadStep.{LoadStep}
use Rattle.download_plan.specs.declared.step.LoadStep.TheVariants as load
use Rattle.download_plan.specs.declared.step.CheckStep.{CheckStep}
use Rattle.download_plan.specs.declared.step.CheckStep.TheVariants as check

-- an operation in octets
abbrev pub op_of : Operation → Op
op_of operation = record { apdu = apdu_octets operation.service; expect = expect_of operation.expected }

-- the greatest length of an APDU is read, and noted
abbrev pub length_noted : Op
length_noted = record { apdu = apdu_octets (PropertyRead 0 56 1 1); expect = Note }

-- an event whose octets carry its size
abbrev pub IsShort : LoadEvent → Type 0
IsShort (Allocate size fill) = size < 0x10000
IsShort _ = Unit {0}

-- ---- the steps of one object

-- the operation of a step of an object's loading with a list
abbrev pub loading_step : PieceSize → LoadableObject → List ℕ → LoadStep → Operation
loading_step size o list load.Unload = event_then o Unload Unloaded
loading_step size o list load.Start = event_then o StartLoading Loading
loading_step size o list load.Allocate = event_then o (Allocate (length list) 0) Loading
loading_step size o list load.ReadBase = reads_base o
loading_step size o list (load.WritePiece k) = writes_piece size o list k
loading_step size o list (load.ReadPiece k) = reads_piece size o list k
loading_step size o list load.Complete = event_then o LoadCompleted Loaded

-- the operation of a step of an object's check
abbrev pub checking_step : PieceSize → LoadableObject → List ℕ → CheckStep → Operation
checking_step size o list check.ReadState = reads_loaded o
checking_step size o list check.ReadBase = reads_base o
checking_step size o list (check.ReadPiece k) = reads_piece size o list k
checking_step size o list check.ReadEnd = expecting (MemoryRead 1 (segment_base o + length list)) (MemoryResponse (segment_base o + length list) [])

-- a step of the loading of a list of this many pieces
abbrev pub IsLoadStep : ℕ → LoadStep → Type 0
IsLoadStep pieces (load.WritePiece k) = k < pieces
IsLoadStep pieces (load.ReadPiece k) = k < pieces
IsLoadStep pieces _ = Unit {0}

abbrev pub IsCheckStep : ℕ → LoadableObject → List ℕ → CheckStep → Type 0
IsCheckStep pieces o list (check.ReadPiece k) = k < pieces
IsCheckStep pieces o list check.ReadEnd = length list < capacity o
IsCheckStep pieces o list _ = Unit {0}

-- ---- the operations of all objects, one object after another

-- how many operations an object has
abbrev pub share_of : Shares → LoadableObject → ℕ
share_of shares AddressTable = shares.addr
share_of shares AssociationTable = shares.assoc
share_of shares GroupObjects = shares.objs
share_of shares Application = shares.params

-- how many operations come before those of an object
abbrev pub share_before : Shares → LoadableObject → ℕ
share_before shares AddressTable = 0
share_before shares AssociationTable = shares.addr
share_before shares GroupObjects = shares.addr + shares.assoc
share_before shares Application = shares.addr + shares.assoc + shares.objs

abbrev pub all_shares : Shares → ℕ
all_shares shares = shares.addr + shares.assoc + shares.objs + shares.params

abbrev pub load_share : PieceSize → LoadableObject → List ℕ → ℕ
load_share size o list = 5 + 2 * piece_count size list

abbrev pub check_share : PieceSize → LoadableObject → List ℕ → ℕ
check_share size o list = 2 + piece_count size list + (if nat_lt (length list) (capacity o) then 1 else 0)
