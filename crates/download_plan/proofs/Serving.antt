-- Each operation of both plans fits into the frames that a device takes, and is answered exactly where its service has an answer.
use Rattle.std.proofs.Common.{◌≡◌, ℕ, zero, suc, ◌+◌, ◌≤◌, Bool, true, false, not, nat_lt, is_some, List, [], ◌∷◌, ◌++◌, length, map, Option, Some, None, refl, sym, ◌∙◌, ap, subst, arith, if◌then◌else◌}
use Rattle.std.specs.List.{range_with_len}
use Rattle.knx_model.specs.declared.config.Image.{Image}
use Rattle.knx_model.specs.declared.device.FrameSupport.{FrameSupport}
use Rattle.knx_model.specs.declared.device.FrameSupport.TheVariants.{Standard, Extended}
use Rattle.knx_model.specs.declared.frames.tpdu.Apdu.{Apdu}
use Rattle.knx_model.specs.declared.frames.tpdu.Apdu.TheVariants.{MemoryRead, MemoryResponse, MemoryWrite, DescriptorRead, PropertyRead, PropertyWrite}
use Rattle.knx_model.specs.declared.loading.LoadState.{LoadState}
use Rattle.knx_model.specs.declared.loading.LoadState.TheVariants.{Unloaded, Loaded, Loading}
use Rattle.knx_model.specs.declared.loading.LoadEvent.{LoadEvent}
use Rattle.knx_model.specs.declared.loading.LoadEvent.TheVariants.{StartLoading, LoadCompleted, Allocate, Unload}
use Rattle.knx_model.specs.declared.loading.LoadableObject.{LoadableObject}
use Rattle.knx_model.specs.declared.loading.LoadableObject.TheVariants.{AddressTable, AssociationTable, GroupObjects, Application}
use Rattle.knx_model.specs.declared.plan.PieceSize.{PieceSize}
use Rattle.knx_model.specs.Apdu.{IsApduInRange}
use Rattle.knx_model.specs.ApduReading.{apdu_octets, option_map}
use Rattle.knx_model.specs.ClientConnection.{has_answer, is_memory_write}
use Rattle.knx_model.specs.Device.{NonVolatile, answer, answer_in, whole, effect_in, capacity, segment_base}
use Rattle.knx_model.specs.LoadPlan.{list_of, each_object, size_by, noting, opened, load_operations, check_operations, load_plan, check_plan}
use Rattle.knx_model.specs.Operations.{Operation, listed, expecting, event_then, piece_count, writes_piece, reads_piece, each_piece, filling, loading, reads_end, checking}
use Rattle.knx_model.specs.Served.{FitsInto, IsServed}
use Rattle.apdu_frames.proofs.Function.{service_again}
use Rattle.download_plan.proofs.Octets.{IsWritable, AllWritable, answer_again}
use Rattle.download_plan.proofs.Opened.{size_of, size_is, descriptor_writable, length_in_range}
use Rattle.download_plan.proofs.Short.{AllShort, operations_short, checks_short}
use Rattle.download_plan.proofs.Writable.{load_writable, check_writable}

-- ---- services that are answered where they have an answer

abbrev IsKnown : Apdu → Type 0
IsKnown (MemoryRead count address) = Unit {0}
IsKnown (MemoryWrite address octets) = Unit {0}
IsKnown (DescriptorRead kind) = Unit {0}
IsKnown (PropertyRead index property count start) = Unit {0}
IsKnown (PropertyWrite index property count start octets) = Unit {0}
IsKnown _ = ⊥

abbrev AllKnown : List Operation → Type 0
AllKnown [] = Unit {0}
AllKnown (x ∷ xs) = IsKnown x.service × AllKnown xs

known_append : (xs ys : List Operation) → AllKnown xs → AllKnown ys → AllKnown (xs ++ ys)
known_append [] ys h k = k
known_append (x ∷ xs) ys h k = (h.0, known_append xs ys h.1 k)

known_answer : (frames : FrameSupport) (nv : NonVolatile) (s : Apdu) → IsKnown s → is_some (option_map apdu_octets (answer frames nv s)) ≡ not (is_memory_write (Some s))
known_answer frames nv (MemoryRead count address) h = refl
known_answer frames nv (MemoryWrite address octets) h = refl
known_answer frames nv (DescriptorRead kind) h = refl
known_answer frames nv (PropertyRead index property count start) h = refl
known_answer frames nv (PropertyWrite index property count start octets) h = refl
known_answer frames nv s h = absurd h

answered : (frames : FrameSupport) (nv : NonVolatile) (s : Apdu) → IsKnown s → IsApduInRange s → is_some (answer_in frames nv (apdu_octets s)) ≡ has_answer (apdu_octets s)
answered frames nv s k r =
    ap (λ (o : Option (List ℕ)). is_some o) (answer_again frames nv s r) ∙ known_answer frames nv s k ∙ sym (ap (λ (o : Option Apdu). not (is_memory_write o)) (service_again s r))

-- ---- lists of operations

abbrev AllFit : FrameSupport → List Operation → Type 0
AllFit frames [] = Unit {0}
AllFit frames (x ∷ xs) = FitsInto frames (apdu_octets x.service) × AllFit frames xs

listed_served : (place : ℕ) (frames : FrameSupport) (ops : List Operation) → AllWritable ops → AllKnown ops → AllFit frames ops → (nv : NonVolatile) → IsServed frames (listed place ops) nv
listed_served place frames [] w k f nv = tt
listed_served place frames (x ∷ xs) w k f nv = (f.0, answered frames nv x.service k.0 w.0.service, λ suits. listed_served (suc place) frames xs w.1 k.1 f.1 (whole nv (effect_in (apdu_octets x.service))))

any_fit : (ops : List Operation) → AllFit Extended ops
any_fit [] = tt
any_fit (x ∷ xs) = (tt, any_fit xs)

short_fit : (ops : List Operation) → AllShort ops → AllFit Standard ops
short_fit [] h = tt
short_fit (x ∷ xs) h = (h.0, short_fit xs h.1)

-- ---- the plans' first two operations

noting_served : (frames : FrameSupport) (operations : PieceSize → List Operation) (nv : NonVolatile) → ((size : PieceSize) → size ≡ size_of frames → (u : NonVolatile) → IsServed frames (listed 2 (operations size)) u) → IsServed frames (noting operations) nv
noting_served Standard operations nv rest = (omega arith, answered Standard nv (PropertyRead 0 56 1 1) tt length_in_range, λ suits. rest _ (size_is Standard nv) _)
noting_served Extended operations nv rest = (tt, answered Extended nv (PropertyRead 0 56 1 1) tt length_in_range, λ suits. rest _ (size_is Extended nv) _)

opened_served : (frames : FrameSupport) (operations : PieceSize → List Operation) (nv : NonVolatile) → ((size : PieceSize) → size ≡ size_of frames → (u : NonVolatile) → IsServed frames (listed 2 (operations size)) u) → IsServed frames (opened operations) nv
opened_served Standard operations nv rest = (omega arith, answered Standard nv (DescriptorRead 0) tt descriptor_writable.service, λ suits. noting_served Standard operations _ rest)
opened_served Extended operations nv rest = (tt, answered Extended nv (DescriptorRead 0) tt descriptor_writable.service, λ suits. noting_served Extended operations _ rest)

-- ---- the operations of both

writes_known : (size : PieceSize) (o : LoadableObject) (list : List ℕ) (k n : ℕ) → AllKnown (map (writes_piece size o list) (range_with_len k n))
writes_known size o list k zero = tt
writes_known size o list k (suc n) = (tt, writes_known size o list (k + 1) n)

reads_known : (size : PieceSize) (o : LoadableObject) (list : List ℕ) (k n : ℕ) → AllKnown (map (reads_piece size o list) (range_with_len k n))
reads_known size o list k zero = tt
reads_known size o list k (suc n) = (tt, reads_known size o list (k + 1) n)

loading_known : (size : PieceSize) (o : LoadableObject) (list : List ℕ) → AllKnown (loading size o list)
unfolding loading filling
loading_known size o list =
    known_append (filling size o list) (event_then o LoadCompleted Loaded ∷ [])
    (tt, (tt, (tt, (tt, known_append (each_piece (writes_piece size o list) (piece_count size list)) (each_piece (reads_piece size o list) (piece_count size list)) (writes_known size o list 0 (piece_count size list)) (reads_known size o list 0 (piece_count size list))))))
    (tt, tt)

end_known : (o : LoadableObject) (list : List ℕ) → AllKnown (reads_end o list)
end_known o list =
    elim (nat_lt (length list) (capacity o)) as (λ v. AllKnown (if v then expecting (MemoryRead 1 (segment_base o + length list)) (MemoryResponse (segment_base o + length list) []) ∷ [] else [])) [ true ↦ (tt, tt) | false ↦ tt ]

checking_known : (size : PieceSize) (o : LoadableObject) (list : List ℕ) → AllKnown (checking size o list)
unfolding checking
checking_known size o list = (tt, (tt, known_append (each_piece (reads_piece size o list) (piece_count size list)) (reads_end o list) (reads_known size o list 0 (piece_count size list)) (end_known o list)))

objects_known : (operations : LoadableObject → List Operation) → ((o : LoadableObject) → AllKnown (operations o)) → AllKnown (each_object operations)
objects_known operations w =
    known_append (operations AddressTable) _ (w AddressTable)
    (known_append (operations AssociationTable) _ (w AssociationTable) (known_append (operations GroupObjects) (operations Application) (w GroupObjects) (w Application)))

loads_known : (image : Image) (size : PieceSize) → AllKnown (load_operations image size)
unfolding load_operations
loads_known image size = (tt, objects_known (λ o. loading size o (list_of image o)) (λ o. loading_known size o (list_of image o)))

checks_known : (image : Image) (size : PieceSize) → AllKnown (check_operations image size)
unfolding check_operations
checks_known image size = objects_known (λ o. checking size o (list_of image o)) (λ o. checking_known size o (list_of image o))

-- ---- both plans

loads_fit : (frames : FrameSupport) (image : Image) (size : PieceSize) → size ≡ size_of frames → AllFit frames (load_operations image size)
loads_fit Standard image size e = subst (λ z. AllFit Standard (load_operations image z)) (sym e) (short_fit _ (operations_short image))
loads_fit Extended image size e = any_fit _

checks_fit : (frames : FrameSupport) (image : Image) (size : PieceSize) → size ≡ size_of frames → AllFit frames (check_operations image size)
checks_fit Standard image size e = subst (λ z. AllFit Standard (check_operations image z)) (sym e) (short_fit _ (checks_short image))
checks_fit Extended image size e = any_fit _

pub load_served : (image : Image) (frames : FrameSupport) (nv : NonVolatile) → IsServed frames (load_plan image) nv
unfolding load_plan
load_served image frames nv =
    opened_served frames (load_operations image) nv (λ size e u. listed_served 2 frames (load_operations image size) (load_writable image size) (loads_known image size) (loads_fit frames image size e) u)

pub check_served : (image : Image) (frames : FrameSupport) (nv : NonVolatile) → IsServed frames (check_plan image) nv
unfolding check_plan
check_served image frames nv =
    opened_served frames (check_operations image) nv (λ size e u. listed_served 2 frames (check_operations image size) (check_writable image size) (checks_known image size) (checks_fit frames image size e) u)
