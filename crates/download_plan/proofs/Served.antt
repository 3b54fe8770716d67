use Rattle.std.proofs.Common.{ℕ, zero, suc, ◌≡◌, ◌+◌, ◌≤◌, Bool, true, nat_le, if◌then◌else◌, ◌<◌, List, [], ◌∷◌, ◌++◌, length, take, drop, map, Option, Some, None, refl, sym, ◌∙◌, ap, subst, arith}
use Rattle.std.specs.List.{range_with_len}
use Rattle.std.proofs.lemmas.Bool.Decides.{nat_tests}
use Rattle.knx_model.specs.declared.config.Image.{Image}
use Rattle.knx_model.specs.declared.loading.LoadState.{LoadState}
use Rattle.knx_model.specs.declared.loading.LoadState.TheVariants.{Unloaded, Loaded, Loading}
use Rattle.knx_model.specs.declared.loading.LoadEvent.{LoadEvent}
use Rattle.knx_model.specs.declared.loading.LoadEvent.TheVariants.{StartLoading, LoadCompleted, Allocate, Unload}
use Rattle.knx_model.specs.declared.loading.LoadableObject.{LoadableObject}
use Rattle.knx_model.specs.declared.loading.LoadableObject.TheVariants.{AddressTable, AssociationTable, GroupObjects, Application}
use Rattle.knx_model.specs.declared.frames.tpdu.Apdu.{Apdu}
use Rattle.knx_model.specs.declared.frames.tpdu.Apdu.TheVariants.{MemoryRead, MemoryResponse, MemoryWrite, PropertyRead, PropertyResponse}
use Rattle.knx_model.specs.Loading.{Loadable, octets_of, capacity_of, with_state, with_memory, allocated, load_step, memory_written, overlaid}
use Rattle.knx_model.specs.Device.{NonVolatile, Effect, Loads, Stores, Nothing, loadable, with_loadable, object_index, segment_base, capacity, whole, effect_of, answer, runs, reads_at_once, table_reference, Fits, HasCapacities}
use Rattle.knx_model.specs.declared.device.FrameSupport.{FrameSupport}
use Rattle.knx_model.specs.declared.device.FrameSupport.TheVariants.{Standard, Extended}
use Rattle.knx_model.specs.declared.plan.PieceSize.{PieceSize}
use Rattle.knx_model.specs.Operations.{Operation, event_then, reads_base, piece_octets, piece_start, piece, piece_count, writes_piece, reads_piece, each_piece, filling, loading}
use Rattle.knx_model.specs.LoadPlan.{load_operations}
use Rattle.download_plan.specs.Step.{IsShort}
use Rattle.download_plan.proofs.Lists.{take_length, written_front, overlaid_within}
use Rattle.download_plan.proofs.Steps.{OperationsServe, operation, with_same, load_service, state_answer, effect_load, whole_load, answer_load, answer_base, whole_write, answer_read, range_of, given_octets}
use Rattle.download_plan.proofs.Pieces.{start_within, start_after, piece_few, piece_fits}
use Rattle.download_plan.proofs.Filling.{no_front, IsFilled, IsAllocated, allocated_octets, allocated_is, kept_allocated, read_is, next_front, front_is}
use Rattle.download_plan.proofs.Good.{IsLoaded, runs_image, capacity_short}

pub serves-append : (frames : FrameSupport) (Q R : NonVolatile → Type 0) (xs ys : List Operation) (nv : NonVolatile) → OperationsServe frames Q xs nv → ((u : NonVolatile) → Q u → OperationsServe frames R ys u) → OperationsServe frames R (xs ++ ys) nv
serves-append frames Q R [] ys nv h k = k nv h
serves-append frames Q R (x ∷ xs) ys nv h k = (h.0, serves-append frames Q R xs ys _ h.1 k)

pub serves-weaker : (frames : FrameSupport) (Q R : NonVolatile → Type 0) → ((u : NonVolatile) → Q u → R u) → (xs : List Operation) (nv : NonVolatile) → OperationsServe frames Q xs nv → OperationsServe frames R xs nv
serves-weaker frames Q R f [] nv h = f nv h
serves-weaker frames Q R f (x ∷ xs) nv h = (h.0, serves-weaker frames Q R f xs _ h.1)

-- one operation
pub serves_step : (frames : FrameSupport) (R : NonVolatile → Type 0) (s : Apdu) (a : Option Apdu) (ops : List Operation) (nv next : NonVolatile) (effect : Effect) → effect_of s ≡ effect → whole nv effect ≡ next → answer frames nv s ≡ a → OperationsServe frames R ops next → OperationsServe frames R (operation s a ∷ ops) nv
serves_step frames R s a ops nv next effect i w g f = (g, subst (OperationsServe frames R ops) (sym (ap (λ e. whole nv e) i ∙ w)) f)

pub serves_load : (frames : FrameSupport) (R : NonVolatile → Type 0) (nv : NonVolatile) (o : LoadableObject) (p : Loadable) (e : LoadEvent) (s : LoadState) (ops : List Operation) → IsShort e → (load_step p e).state ≡ s → OperationsServe frames R ops (with_loadable nv o (load_step p e)) → OperationsServe frames R (event_then o e s ∷ ops) (with_loadable nv o p)
serves_load frames R nv o p e s ops i h f =
    serves_step frames R (load_service o e) (Some (state_answer o s)) ops (with_loadable nv o p) (with_loadable nv o (load_step p e)) (Loads o e) (effect_load o e i) (whole_load nv o p e) (answer_load frames nv o p e i ∙ ap (λ t. Some (state_answer o t)) h) f

pub written_is : (p : Loadable) (at : ℕ) (octets : List ℕ) → p.state ≡ Loading → at + length octets ≤ p.len → memory_written p at octets ≡ with_memory p (overlaid p.memory at octets)
written_is p at octets s h = let t : nat_le (at + length octets) p.len ≡ true = grind (arith, nat_tests) in rw (s, t) refl

-- the segment after a memory write
written_octets : (n : ℕ) (p : Loadable) (at : ℕ) (octets : List ℕ) → IsAllocated n p → at + length octets ≤ n → octets_of (memory_written p at octets) ≡ overlaid (octets_of p) at octets
written_octets n p at octets a h =
    ap octets_of (written_is p at octets a.state (omega (arith, a.len, h))) ∙ overlaid_within p.memory p.len at octets (omega (arith, a.len, h)) (omega (arith, a.len, a.room))

piece_front : (size : PieceSize) (list : List ℕ) (p : Loadable) (k : ℕ) → IsAllocated (length list) p → piece_start size k ≤ length list → take (piece_start size k) (octets_of p) ≡ take (piece_start size k) list → take (piece_start size k + piece_octets size) (octets_of (memory_written p (piece_start size k) (piece size list k))) ≡ take (piece_start size k + piece_octets size) list
unfolding piece
piece_front size list p k a h e =
    ap (take (piece_start size k + piece_octets size)) (written_octets (length list) p (piece_start size k) (piece size list k) a (piece_fits size list k h))
    ∙ written_front (piece_octets size) (octets_of p) list (piece_start size k) (allocated_octets (length list) p a) h e

-- the pieces are written
pub writes_serve : (frames : FrameSupport) (size : PieceSize) (R : NonVolatile → Type 0) (nv : NonVolatile) (o : LoadableObject) (list : List ℕ) (k n : ℕ) (p : Loadable) (ops : List Operation) → length list ≤ capacity o → k + n ≡ piece_count size list → IsAllocated (length list) p → take (piece_start size k) (octets_of p) ≡ take (piece_start size k) list
    → ((q : Loadable) → IsAllocated (length list) q → octets_of q ≡ list → OperationsServe frames R ops (with_loadable nv o q))
    → OperationsServe frames R (map (writes_piece size o list) (range_with_len k n) ++ ops) (with_loadable nv o p)
writes_serve frames size R nv o list k zero p ops r b a e f = f p a (front_is (octets_of p) list (piece_start size k) (allocated_octets (length list) p a) (start_after size list k (omega (arith, b))) e)
writes_serve frames size R nv o list k (suc n) p ops r b a e f =
    let q : Loadable = memory_written p (piece_start size k) (piece size list k) in
    let within : piece_start size k < length list = start_within size list k (omega (arith, b)) in
    serves_step frames R (MemoryWrite (segment_base o + piece_start size k) (piece size list k)) None (map (writes_piece size o list) (range_with_len (k + 1) n) ++ ops) (with_loadable nv o p) (with_loadable nv o q) (Stores (segment_base o + piece_start size k) (piece size list k))
    refl (whole_write nv o p (piece_start size k) (piece size list k) (omega (arith, within, r))) refl
    (writes_serve frames size R nv o list (k + 1) n q ops r (omega arith) (kept_allocated (length list) p (piece_start size k) (piece size list k) None a)
    (next_front size (octets_of q) list k (piece_front size list p k a (omega (arith, within)) e)) f)

piece_again : (size : PieceSize) (list : List ℕ) (k : ℕ) → take (length (piece size list k)) (drop (piece_start size k) list) ≡ piece size list k
unfolding piece
piece_again size list k = take_length (piece_octets size) (drop (piece_start size k) list) (drop (piece_start size k) list) refl

pub read_gives : (size : PieceSize) (p : Loadable) (list : List ℕ) (k : ℕ) → length list ≤ p.len → octets_of p ≡ list → piece_start size k ≤ length list → range_of p (piece_start size k) (length (piece size list k)) ≡ piece size list k
read_gives size p list k l e h =
    read_is p (piece_start size k) (length (piece size list k)) (omega (arith, piece_fits size list k h, l))
    ∙ (ap (λ (w : List ℕ). take (length (piece size list k)) (drop (piece_start size k) w)) e ∙ piece_again size list k)

-- a device reads pieces of this size at once
abbrev pub ReadsPieces : FrameSupport → PieceSize → Type 0
ReadsPieces frames size = reads_at_once frames (piece_octets size) ≡ true

reads_fewer : (frames : FrameSupport) (most n : ℕ) → n ≤ most → reads_at_once frames most ≡ true → reads_at_once frames n ≡ true
reads_fewer Standard most n h c = grind (arith, nat_tests)
reads_fewer Extended most n h c = refl

pub given_piece : (frames : FrameSupport) (size : PieceSize) (p : Loadable) (list : List ℕ) (k : ℕ) → ReadsPieces frames size → length list ≤ p.len → octets_of p ≡ list → piece_start size k ≤ length list → given_octets frames p (piece_start size k) (length (piece size list k)) ≡ piece size list k
given_piece frames size p list k c l e h =
    ap (λ (v : Bool). if v then range_of p (piece_start size k) (length (piece size list k)) else []) (reads_fewer frames (piece_octets size) (length (piece size list k)) (piece_few size list k) c)
    ∙ read_gives size p list k l e h

-- the pieces are read back
pub reads_serve : (frames : FrameSupport) (size : PieceSize) (nv : NonVolatile) (o : LoadableObject) (list : List ℕ) (k n : ℕ) (p : Loadable) → ReadsPieces frames size → length list ≤ capacity o → k + n ≡ piece_count size list → IsAllocated (length list) p → octets_of p ≡ list
    → OperationsServe frames (IsFilled nv o list) (map (reads_piece size o list) (range_with_len k n)) (with_loadable nv o p)
reads_serve frames size nv o list k zero p c r b a e = record { p = p; is = refl; state = a.state; octets = e }
reads_serve frames size nv o list k (suc n) p c r b a e =
    let m : ℕ = length (piece size list k) in
    let at : ℕ = piece_start size k in
    let within : at < length list = start_within size list k (omega (arith, b)) in
    serves_step frames (IsFilled nv o list) (MemoryRead m (segment_base o + at)) (Some (MemoryResponse (segment_base o + at) (piece size list k))) (map (reads_piece size o list) (range_with_len (k + 1) n)) (with_loadable nv o p) (with_loadable nv o p) Nothing
    refl refl (answer_read frames nv o p at m (omega (arith, within, r)) ∙ ap (λ (w : List ℕ). Some (MemoryResponse (segment_base o + at) w)) (given_piece frames size p list k c (omega (arith, a.len)) e (omega (arith, within))))
    (reads_serve frames size nv o list (k + 1) n p c r (omega arith) a e)

pub filling_serve : (frames : FrameSupport) (size : PieceSize) (nv : NonVolatile) (o : LoadableObject) (list : List ℕ) → ReadsPieces frames size → length list ≤ capacity_of (loadable nv o) → length list ≤ capacity o → OperationsServe frames (IsFilled nv o list) (filling size o list) nv
unfolding filling
filling_serve frames size nv o list c f r =
    let p0 : Loadable = loadable nv o in
    let p1 : Loadable = record { state = Unloaded; len = 0; memory = p0.memory } in
    let p2 : Loadable = with_state p1 Loading in
    let p3 : Loadable = allocated p2 (length list) 0 in
    let R : NonVolatile → Type 0 = IsFilled nv o list in
    let rest : List Operation = each_piece (writes_piece size o list) (piece_count size list) ++ each_piece (reads_piece size o list) (piece_count size list) in
    let ops3 : List Operation = reads_base o ∷ rest in
    let ops2 : List Operation = event_then o (Allocate (length list) 0) Loading ∷ ops3 in
    let ops1 : List Operation = event_then o StartLoading Loading ∷ ops2 in
    let s3 : p3.state ≡ Loading = let t : nat_le (length list) (capacity_of p0) ≡ true = grind (arith, nat_tests) in rw t refl in
    let last : OperationsServe frames R rest (with_loadable nv o p3)
    = writes_serve frames size R nv o list 0 (piece_count size list) p3 (each_piece (reads_piece size o list) (piece_count size list)) r (omega arith) (allocated_is p2 (length list) 0 s3) (no_front size (octets_of p3) list)
    (λ q t l. reads_serve frames size nv o list 0 (piece_count size list) q c r (omega arith) t l) in
    let based : Option Apdu = Some (PropertyResponse (object_index o) 7 1 1 (table_reference o)) in
    subst (OperationsServe frames R (filling size o list)) (with_same nv o)
    (serves_load frames R nv o p0 Unload Unloaded ops1 tt refl
    (serves_load frames R nv o p1 StartLoading Loading ops2 tt refl
    (serves_load frames R nv o p2 (Allocate (length list) 0) Loading ops3 (capacity_short o (length list) r) s3
    (serves_step frames R (PropertyRead (object_index o) 7 1 1) based rest (with_loadable nv o p3) (with_loadable nv o p3) Nothing refl refl (answer_base frames (with_loadable nv o p3) o) last))))

pub loading_serve : (frames : FrameSupport) (size : PieceSize) (nv : NonVolatile) (o : LoadableObject) (list : List ℕ) → ReadsPieces frames size → length list ≤ capacity_of (loadable nv o) → length list ≤ capacity o → OperationsServe frames (IsLoaded nv o list) (loading size o list) nv
unfolding loading
loading_serve frames size nv o list c f r =
    serves-append frames (IsFilled nv o list) (IsLoaded nv o list) (filling size o list) (event_then o LoadCompleted Loaded ∷ []) nv (filling_serve frames size nv o list c f r)
    (λ u g. subst (OperationsServe frames (IsLoaded nv o list) (event_then o LoadCompleted Loaded ∷ [])) (sym g.is)
    (let t : (load_step g.p LoadCompleted).state ≡ Loaded = rw g.state refl in
    serves_load frames (IsLoaded nv o list) nv o g.p LoadCompleted Loaded [] tt t (record { p = load_step g.p LoadCompleted; is = refl; state = t; octets = g.octets })))

pub operations_serve : (frames : FrameSupport) (size : PieceSize) (image : Image) → ReadsPieces frames size → Fits image → (nv : NonVolatile) → HasCapacities nv → OperationsServe frames (λ u. runs u ≡ Some image) (load_operations image size) nv
unfolding load_operations
operations_serve frames size image c fits nv h =
    let R : NonVolatile → Type 0 = λ u. runs u ≡ Some image in
    let u1 : NonVolatile = whole nv (Loads Application Unload) in (
      refl,
      serves-append frames (IsLoaded u1 AddressTable image.addr) R (loading size AddressTable image.addr) _ u1
          (loading_serve frames size u1 AddressTable image.addr c (rw h.addr fits.addr) fits.addr)
          (λ u2 f2. serves-append frames (IsLoaded u2 AssociationTable image.assoc) R (loading size AssociationTable image.assoc) _ u2
          (loading_serve frames size u2 AssociationTable image.assoc c (rw f2.is (rw h.assoc fits.assoc)) fits.assoc)
          (λ u3 f3. serves-append frames (IsLoaded u3 GroupObjects image.objs) R (loading size GroupObjects image.objs) _ u3
          (loading_serve frames size u3 GroupObjects image.objs c (rw (f3.is, f2.is) (rw h.objs fits.objs)) fits.objs)
          (λ u4 f4. serves-weaker frames (IsLoaded u4 Application image.params) R
          (λ u5 f5. rw (f5.is, f4.is, f3.is, f2.is) (runs_image image u1 f2.p f3.p f4.p f5.p f2.state f3.state f4.state f5.state f2.octets f3.octets f4.octets f5.octets))
          (loading size Application image.params) u4
          (loading_serve frames size u4 Application image.params c (rw (f4.is, f3.is, f2.is) (rw h.params fits.params)) fits.params)))),
    )
