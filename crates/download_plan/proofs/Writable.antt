-- The operations of both plans have octets, and expect an answer exactly where their service has one.
use Rattle.std.proofs.Common.{ℕ, zero, suc, ◌≡◌, ◌+◌, true, false, nat_lt, List, [], ◌∷◌, length, map, refl, arith, if◌then◌else◌}
use Rattle.std.specs.List.{range_with_len}
use Rattle.knx_model.specs.declared.config.Image.{Image}
use Rattle.knx_model.specs.declared.loading.LoadState.{LoadState}
use Rattle.knx_model.specs.declared.loading.LoadState.TheVariants.{Unloaded, Loaded, Loading}
use Rattle.knx_model.specs.declared.loading.LoadEvent.{LoadEvent}
use Rattle.knx_model.specs.declared.loading.LoadEvent.TheVariants.{StartLoading, LoadCompleted, Allocate, Unload}
use Rattle.knx_model.specs.declared.loading.LoadableObject.{LoadableObject}
use Rattle.knx_model.specs.declared.loading.LoadableObject.TheVariants.{AddressTable, AssociationTable, GroupObjects, Application}
use Rattle.knx_model.specs.declared.frames.tpdu.Apdu.TheVariants.{MemoryRead, MemoryResponse}
use Rattle.knx_model.specs.declared.plan.PieceSize.{PieceSize}
use Rattle.knx_model.specs.Device.{segment_base, capacity}
use Rattle.knx_model.specs.Operations.{Operation, expecting, event_then, reads_loaded, reads_base, piece_count, writes_piece, reads_piece, each_piece, filling, loading, reads_end, checking}
use Rattle.knx_model.specs.LoadPlan.{list_of, each_object, load_operations, check_operations}
use Rattle.download_plan.proofs.Steps.{length_load}
use Rattle.download_plan.proofs.Pieces.{piece_some, piece_short}
use Rattle.download_plan.proofs.Octets.{IsWritable, AllWritable, AllWritable-append}

event_writable : (o : LoadableObject) (e : LoadEvent) (s : LoadState) → IsWritable (event_then o e s)
event_writable o e s = record { service = (omega arith, omega arith, omega (arith, length_load e)); expected = (omega arith, omega arith, omega arith); awaits = refl }

loaded_writable : (o : LoadableObject) → IsWritable (reads_loaded o)
loaded_writable o = record { service = (omega arith, omega arith); expected = (omega arith, omega arith, omega arith); awaits = refl }

base_writable : (o : LoadableObject) → IsWritable (reads_base o)
base_writable o = record { service = (omega arith, omega arith); expected = (omega arith, omega arith, omega arith); awaits = refl }

end_writable : (o : LoadableObject) (list : List ℕ) → AllWritable (reads_end o list)
end_writable o list =
    elim (nat_lt (length list) (capacity o)) as (λ v. AllWritable (if v then expecting (MemoryRead 1 (segment_base o + length list)) (MemoryResponse (segment_base o + length list) []) ∷ [] else []))
    [ true ↦ (record { service = (omega arith, omega arith); expected = omega arith; awaits = refl }, tt) | false ↦ tt ]

writes_writable : (size : PieceSize) (o : LoadableObject) (list : List ℕ) (k n : ℕ) → k + n ≡ piece_count size list → AllWritable (map (writes_piece size o list) (range_with_len k n))
writes_writable size o list k zero b = tt
writes_writable size o list k (suc n) b =
    (record { service = (piece_some size list k (omega (arith, b)), piece_short size list k); expected = tt; awaits = refl }, writes_writable size o list (k + 1) n (omega (arith, b)))

reads_writable : (size : PieceSize) (o : LoadableObject) (list : List ℕ) (k n : ℕ) → k + n ≡ piece_count size list → AllWritable (map (reads_piece size o list) (range_with_len k n))
reads_writable size o list k zero b = tt
reads_writable size o list k (suc n) b =
    (record { service = (piece_some size list k (omega (arith, b)), piece_short size list k); expected = piece_short size list k; awaits = refl }, reads_writable size o list (k + 1) n (omega (arith, b)))

loading_writable : (size : PieceSize) (o : LoadableObject) (list : List ℕ) → AllWritable (loading size o list)
unfolding loading filling
loading_writable size o list =
    AllWritable-append (filling size o list) (event_then o LoadCompleted Loaded ∷ []) (
      event_writable o Unload Unloaded,
      (
        event_writable o StartLoading Loading,
        (
          event_writable o (Allocate (length list) 0) Loading,
          (
            base_writable o,
            AllWritable-append (each_piece (writes_piece size o list) (piece_count size list)) (each_piece (reads_piece size o list) (piece_count size list))
                (writes_writable size o list 0 (piece_count size list) (omega arith)) (reads_writable size o list 0 (piece_count size list) (omega arith)),
          ),
        ),
      ),
    )
    (event_writable o LoadCompleted Loaded, tt)

checking_writable : (size : PieceSize) (o : LoadableObject) (list : List ℕ) → AllWritable (checking size o list)
unfolding checking
checking_writable size o list = (
  loaded_writable o,
  (
    base_writable o,
    AllWritable-append (each_piece (reads_piece size o list) (piece_count size list)) (reads_end o list) (reads_writable size o list 0 (piece_count size list) (omega arith)) (end_writable o list),
  ),
)

objects_writable : (operations : LoadableObject → List Operation) → ((o : LoadableObject) → AllWritable (operations o)) → AllWritable (each_object operations)
objects_writable operations w =
    AllWritable-append (operations AddressTable) _ (w AddressTable)
    (AllWritable-append (operations AssociationTable) _ (w AssociationTable) (AllWritable-append (operations GroupObjects) (operations Application) (w GroupObjects) (w Application)))

pub load_writable : (image : Image) (size : PieceSize) → AllWritable (load_operations image size)
unfolding load_operations
load_writable image size = (event_writable Application Unload Unloaded, objects_writable (λ o. loading size o (list_of image o)) (λ o. loading_writable size o (list_of image o)))

pub check_writable : (image : Image) (size : PieceSize) → AllWritable (check_operations image size)
unfolding check_operations
check_writable image size = objects_writable (λ o. checking size o (list_of image o)) (λ o. checking_writable size o (list_of image o))
