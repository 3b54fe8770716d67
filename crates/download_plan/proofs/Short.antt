-- The operations with pieces of twelve octets fit into standard frames.
use Rattle.std.proofs.Common.{◌≡◌, ℕ, zero, suc, ◌+◌, ◌≤◌, Bool, true, false, nat_lt, List, [], ◌∷◌, ◌++◌, length, map, arith, if◌then◌else◌}
use Rattle.std.specs.List.{range_with_len}
use Rattle.knx_model.specs.declared.config.Image.{Image}
use Rattle.knx_model.specs.declared.frames.tpdu.Apdu.TheVariants.{MemoryRead, MemoryResponse}
use Rattle.knx_model.specs.declared.loading.LoadState.{LoadState}
use Rattle.knx_model.specs.declared.loading.LoadState.TheVariants.{Unloaded, Loaded, Loading}
use Rattle.knx_model.specs.declared.loading.LoadEvent.{LoadEvent}
use Rattle.knx_model.specs.declared.loading.LoadEvent.TheVariants.{StartLoading, LoadCompleted, Allocate, Unload}
use Rattle.knx_model.specs.declared.loading.LoadableObject.{LoadableObject}
use Rattle.knx_model.specs.declared.loading.LoadableObject.TheVariants.{AddressTable, AssociationTable, GroupObjects, Application}
use Rattle.knx_model.specs.declared.plan.PieceSize.TheVariants.{Twelve}
use Rattle.knx_model.specs.ApduReading.{apdu_octets}
use Rattle.knx_model.specs.Device.{capacity, segment_base}
use Rattle.knx_model.specs.LoadPlan.{list_of, each_object, load_operations, check_operations}
use Rattle.knx_model.specs.Operations.{Operation, expecting, event_then, piece_count, piece, writes_piece, reads_piece, each_piece, filling, loading, reads_end, checking}
use Rattle.download_plan.proofs.Steps.{length_load}
use Rattle.download_plan.proofs.Pieces.{piece_few}

abbrev pub IsShort : Operation → Type 0
IsShort x = length (apdu_octets x.service) ≤ 16

abbrev pub AllShort : List Operation → Type 0
AllShort [] = Unit {0}
AllShort (x ∷ xs) = IsShort x × AllShort xs

short_append : (xs ys : List Operation) → AllShort xs → AllShort ys → AllShort (xs ++ ys)
short_append [] ys h k = k
short_append (x ∷ xs) ys h k = (h.0, short_append xs ys h.1 k)

event_short : (o : LoadableObject) (e : LoadEvent) (s : LoadState) → IsShort (event_then o e s)
event_short o e s = omega (arith, length_load e)

writes_short : (o : LoadableObject) (list : List ℕ) (k n : ℕ) → AllShort (map (writes_piece Twelve o list) (range_with_len k n))
writes_short o list k zero = tt
writes_short o list k (suc n) = (let h : length (piece Twelve list k) ≤ 12 = piece_few Twelve list k in omega arith, writes_short o list (k + 1) n)

reads_short : (o : LoadableObject) (list : List ℕ) (k n : ℕ) → AllShort (map (reads_piece Twelve o list) (range_with_len k n))
reads_short o list k zero = tt
reads_short o list k (suc n) = (omega arith, reads_short o list (k + 1) n)

loading_short : (o : LoadableObject) (list : List ℕ) → AllShort (loading Twelve o list)
unfolding loading filling
loading_short o list =
    short_append (filling Twelve o list) (event_then o LoadCompleted Loaded ∷ []) (
      event_short o Unload Unloaded,
      (
        event_short o StartLoading Loading,
        (
          event_short o (Allocate (length list) 0) Loading,
          (
            omega arith,
            short_append (each_piece (writes_piece Twelve o list) (piece_count Twelve list)) (each_piece (reads_piece Twelve o list) (piece_count Twelve list)) (writes_short o list 0 (piece_count Twelve list)) (reads_short o list 0 (piece_count Twelve list)),
          ),
        ),
      ),
    )
    (event_short o LoadCompleted Loaded, tt)

objects_short : (operations : LoadableObject → List Operation) → ((o : LoadableObject) → AllShort (operations o)) → AllShort (each_object operations)
objects_short operations w =
    short_append (operations AddressTable) _ (w AddressTable)
    (short_append (operations AssociationTable) _ (w AssociationTable) (short_append (operations GroupObjects) (operations Application) (w GroupObjects) (w Application)))

pub operations_short : (image : Image) → AllShort (load_operations image Twelve)
unfolding load_operations
operations_short image = (event_short Application Unload Unloaded, objects_short (λ o. loading Twelve o (list_of image o)) (λ o. loading_short o (list_of image o)))

end_short : (o : LoadableObject) (list : List ℕ) → AllShort (reads_end o list)
end_short o list =
    elim (nat_lt (length list) (capacity o)) as (λ v. AllShort (if v then expecting (MemoryRead 1 (segment_base o + length list)) (MemoryResponse (segment_base o + length list) []) ∷ [] else [])) [ true ↦ (omega arith, tt) | false ↦ tt ]

checking_short : (o : LoadableObject) (list : List ℕ) → AllShort (checking Twelve o list)
unfolding checking
checking_short o list =
    (omega arith, (omega arith, short_append (each_piece (reads_piece Twelve o list) (piece_count Twelve list)) (reads_end o list) (reads_short o list 0 (piece_count Twelve list)) (end_short o list)))

pub checks_short : (image : Image) → AllShort (check_operations image Twelve)
unfolding check_operations
checks_short image = objects_short (λ o. checking Twelve o (list_of image o)) (λ o. checking_short o (list_of image o))
