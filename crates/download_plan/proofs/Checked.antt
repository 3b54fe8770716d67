-- The check plan: it gets every expected answer exactly where the device runs the image, and changes nothing.
use Rattle.std.proofs.Common.{ℕ, zero, suc, ◌≡◌, ◌+◌, ◌-◌, ◌<◌, ◌≤◌, Bool, true, false, ◌&&◌, nat_lt, nat_le, List, [], ◌∷◌, ◌++◌, length, length-take, length-drop, take, drop, map, min, Some, None, inl, inr, refl, sym, ◌∙◌, ap, subst, arith, if◌then◌else◌}
use Rattle.std.specs.List.{range_with_len}
use Rattle.std.proofs.lemmas.Bool.Decides.{nat_tests}
use Rattle.std.proofs.lemmas.Bool.{cases_lt}
use Rattle.knx_model.specs.declared.config.Image.{Image}
use Rattle.knx_model.specs.declared.device.FrameSupport.{FrameSupport}
use Rattle.knx_model.specs.declared.device.FrameSupport.TheVariants.{Standard, Extended}
use Rattle.knx_model.specs.declared.loading.LoadState.{LoadState}
use Rattle.knx_model.specs.declared.loading.LoadState.TheVariants.{Unloaded, Loaded, Loading, Error}
use Rattle.knx_model.specs.declared.loading.LoadableObject.{LoadableObject}
use Rattle.knx_model.specs.declared.loading.LoadableObject.TheVariants.{AddressTable, AssociationTable, GroupObjects, Application}
use Rattle.knx_model.specs.declared.frames.tpdu.Apdu.TheVariants.{MemoryRead, MemoryResponse, PropertyRead}
use Rattle.knx_model.specs.declared.plan.PieceSize.{PieceSize}
use Rattle.knx_model.specs.Loading.{Loadable, octets_of, capacity_of, is_loaded}
use Rattle.knx_model.specs.Device.{NonVolatile, Effect, Nothing, loadable, object_index, segment_base, capacity, runs, all_loaded, segments, effect_of, whole, taken_over, torn, answer, reads_at_once, Fits, HasCapacities}
use Rattle.knx_model.specs.Operations.{Operation, expecting, piece_start, piece_octets, piece, piece_count, reads_piece, each_piece, reads_end, checking}
use Rattle.knx_model.specs.LoadPlan.{list_of, check_operations}
use Rattle.download_plan.proofs.Steps.{OperationsLead, OperationsServe, with_same, state_answer, answer_base, answer_read, range_of, given_octets, given_range, within_range}
use Rattle.download_plan.proofs.Pieces.{start_zero, start_next, start_within, start_after, piece_length, piece_some}
use Rattle.download_plan.proofs.Filling.{same_state, same_octets, no_front, next_front, front_is, piece_read, read_is}
use Rattle.download_plan.proofs.Served.{ReadsPieces, given_piece}

-- ---- lists of reads

abbrev pub AllReads : List Operation → Type 0
AllReads [] = Unit {0}
AllReads (x ∷ xs) = (effect_of x.service ≡ Nothing) × AllReads xs

abbrev pub AllAnswered : FrameSupport → List Operation → NonVolatile → Type 0
AllAnswered frames [] nv = Unit {0}
AllAnswered frames (x ∷ xs) nv = (answer frames nv x.service ≡ x.expected) × AllAnswered frames xs nv

pub AllReads-append : (xs ys : List Operation) → AllReads xs → AllReads ys → AllReads (xs ++ ys)
AllReads-append [] ys h k = k
AllReads-append (x ∷ xs) ys h k = (h.0, AllReads-append xs ys h.1 k)

AllAnswered-append : (frames : FrameSupport) (xs ys : List Operation) (nv : NonVolatile) → AllAnswered frames xs nv → AllAnswered frames ys nv → AllAnswered frames (xs ++ ys) nv
AllAnswered-append frames [] ys nv h k = k
AllAnswered-append frames (x ∷ xs) ys nv h k = (h.0, AllAnswered-append frames xs ys nv h.1 k)

AllAnswered-front : (frames : FrameSupport) (xs ys : List Operation) (nv : NonVolatile) → AllAnswered frames (xs ++ ys) nv → AllAnswered frames xs nv
AllAnswered-front frames [] ys nv h = tt
AllAnswered-front frames (x ∷ xs) ys nv h = (h.0, AllAnswered-front frames xs ys nv h.1)

AllAnswered-rest : (frames : FrameSupport) (xs ys : List Operation) (nv : NonVolatile) → AllAnswered frames (xs ++ ys) nv → AllAnswered frames ys nv
AllAnswered-rest frames [] ys nv h = h
AllAnswered-rest frames (x ∷ xs) ys nv h = AllAnswered-rest frames xs ys nv h.1

pub reads_serve_as : (frames : FrameSupport) (ops : List Operation) (nv : NonVolatile) → AllReads ops → AllAnswered frames ops nv → OperationsServe frames (λ _. Unit {0}) ops nv
reads_serve_as frames [] nv r h = tt
reads_serve_as frames (x ∷ xs) nv r h =
    (h.0, subst (λ (e : Effect). OperationsServe frames (λ _. Unit {0}) xs (whole nv e)) (sym r.0) (reads_serve_as frames xs nv r.1 h.1))

pub served_reads : (frames : FrameSupport) (ops : List Operation) (nv : NonVolatile) → AllReads ops → OperationsServe frames (λ _. Unit {0}) ops nv → AllAnswered frames ops nv
served_reads frames [] nv r h = tt
served_reads frames (x ∷ xs) nv r h =
    (h.0, served_reads frames xs nv r.1 (subst (λ (e : Effect). OperationsServe frames (λ _. Unit {0}) xs (whole nv e)) r.0 h.1))

-- reads change nothing
pub reads_stay : (frames : FrameSupport) (ops : List Operation) (start : NonVolatile) → AllReads ops → OperationsLead frames (λ u. u ≡ start) (λ u. u ≡ start) ops start
reads_stay frames [] start r = (refl, refl)
reads_stay frames (x ∷ xs) start r = (
  refl,
  λ fresh octets. ap (λ (e : Effect). torn start e fresh octets) r.0,
  λ wear. ap (λ (e : Effect). taken_over start e wear) r.0,
  λ wear _. subst (λ (e : Effect). OperationsLead frames (λ u. u ≡ start) (λ u. u ≡ start) xs (taken_over start e wear)) (sym r.0) (reads_stay frames xs start r.1),
)

pieces_read : (size : PieceSize) (o : LoadableObject) (list : List ℕ) (k n : ℕ) → AllReads (map (reads_piece size o list) (range_with_len k n))
pieces_read size o list k zero = tt
pieces_read size o list k (suc n) = (refl, pieces_read size o list (k + 1) n)

end_read : (o : LoadableObject) (list : List ℕ) → AllReads (reads_end o list)
end_read o list =
    elim (nat_lt (length list) (capacity o)) as (λ v. AllReads (if v then expecting (MemoryRead 1 (segment_base o + length list)) (MemoryResponse (segment_base o + length list) []) ∷ [] else []))
    [ true ↦ (refl, tt) | false ↦ tt ]

checking_read : (size : PieceSize) (o : LoadableObject) (list : List ℕ) → AllReads (checking size o list)
unfolding checking
checking_read size o list =
    (refl, (refl, AllReads-append (each_piece (reads_piece size o list) (piece_count size list)) (reads_end o list) (pieces_read size o list 0 (piece_count size list)) (end_read o list)))

pub check_reads : (image : Image) (size : PieceSize) → AllReads (check_operations image size)
unfolding check_operations
check_reads image size =
    let r : (o : LoadableObject) → AllReads (checking size o (list_of image o)) = λ o. checking_read size o (list_of image o) in
    AllReads-append (checking size AddressTable image.addr) _ (r AddressTable)
    (AllReads-append (checking size AssociationTable image.assoc) _ (r AssociationTable)
    (AllReads-append (checking size GroupObjects image.objs) (checking size Application image.params) (r GroupObjects) (r Application)))

-- ---- one object

-- the object is Loaded with the list
pub record Holds (nv : NonVolatile) (o : LoadableObject) (list : List ℕ) : Type 0 where
  pub state : (loadable nv o).state ≡ Loaded
  pub octets : octets_of (loadable nv o) ≡ list

answer_state : (frames : FrameSupport) (nv : NonVolatile) (o : LoadableObject) → answer frames nv (PropertyRead (object_index o) 5 1 1) ≡ Some (state_answer o (loadable nv o).state)
answer_state frames nv AddressTable = refl
answer_state frames nv AssociationTable = refl
answer_state frames nv GroupObjects = refl
answer_state frames nv Application = refl

answer_memory : (frames : FrameSupport) (nv : NonVolatile) (o : LoadableObject) (at n : ℕ) → at < capacity o → answer frames nv (MemoryRead n (segment_base o + at)) ≡ Some (MemoryResponse (segment_base o + at) (given_octets frames (loadable nv o) at n))
answer_memory frames nv o at n h =
    ap (λ (u : NonVolatile). answer frames u (MemoryRead n (segment_base o + at))) (sym (with_same nv o)) ∙ answer_read frames nv o (loadable nv o) at n h

-- what an answer as expected says of the octets
given_as : (frames : FrameSupport) (nv : NonVolatile) (o : LoadableObject) (at n : ℕ) (xs : List ℕ) → at < capacity o → answer frames nv (MemoryRead n (segment_base o + at)) ≡ Some (MemoryResponse (segment_base o + at) xs) → given_octets frames (loadable nv o) at n ≡ xs
given_as frames nv o at n xs h e = same_octets (segment_base o + at) (segment_base o + at) _ _ (sym (answer_memory frames nv o at n h) ∙ e)

-- where all pieces were read, the segment is no shorter than the list
pieces_long : (frames : FrameSupport) (size : PieceSize) (nv : NonVolatile) (o : LoadableObject) (list : List ℕ) (k n : ℕ) → length list ≤ capacity o → k + n ≡ piece_count size list → (length list ≤ piece_start size k → length list ≤ (loadable nv o).len)
    → AllAnswered frames (map (reads_piece size o list) (range_with_len k n)) nv → length list ≤ (loadable nv o).len
pieces_long frames size nv o list k zero r b f h = f (start_after size list k (omega (arith, b)))
pieces_long frames size nv o list k (suc n) r b f h =
    let m : ℕ = length (piece size list k) in
    let counted : k < piece_count size list = omega (arith, b) in
    let within : piece_start size k < length list = start_within size list k counted in
    let given : given_octets frames (loadable nv o) (piece_start size k) m ≡ piece size list k = given_as frames nv o (piece_start size k) m (piece size list k) (omega (arith, within, r)) h.0 in
    let some : 1 ≤ m = piece_some size list k counted in
    let reached : piece_start size k + m ≤ (loadable nv o).len
    = within_range (loadable nv o) (piece_start size k) m (piece size list k) some (given_range frames (loadable nv o) (piece_start size k) m (piece size list k) some given) in
    let long : m ≡ min (piece_octets size) (length list - piece_start size k) = piece_length size list k in
    pieces_long frames size nv o list (k + 1) n r (omega (arith, b))
    (λ past. let next : piece_start size (k + 1) ≡ piece_start size k + piece_octets size = start_next size k in omega (arith, past, next, long, reached)) h.1

-- where all pieces were read of a segment as long as the list, it has the list
pieces_same : (frames : FrameSupport) (size : PieceSize) (nv : NonVolatile) (o : LoadableObject) (list : List ℕ) (k n : ℕ) → length list ≤ capacity o → k + n ≡ piece_count size list → length (octets_of (loadable nv o)) ≡ length list
    → take (piece_start size k) (octets_of (loadable nv o)) ≡ take (piece_start size k) list → AllAnswered frames (map (reads_piece size o list) (range_with_len k n)) nv → octets_of (loadable nv o) ≡ list
pieces_same frames size nv o list k zero r b l e h = front_is (octets_of (loadable nv o)) list (piece_start size k) l (start_after size list k (omega (arith, b))) e
pieces_same frames size nv o list k (suc n) r b l e h =
    let p : Loadable = loadable nv o in
    let m : ℕ = length (piece size list k) in
    let at : ℕ = piece_start size k in
    let counted : k < piece_count size list = omega (arith, b) in
    let within : at < length list = start_within size list k counted in
    let some : 1 ≤ m = piece_some size list k counted in
    let ranged : range_of p at m ≡ piece size list k = given_range frames p at m (piece size list k) some (given_as frames nv o at m (piece size list k) (omega (arith, within, r)) h.0) in
    let reached : at + m ≤ p.len = within_range p at m (piece size list k) some ranged in
    pieces_same frames size nv o list (k + 1) n r (omega (arith, b)) l
    (next_front size (octets_of p) list k (piece_read size (octets_of p) list k l (sym (read_is p at m reached) ∙ ranged) e)) h.1

octets_length : (p : Loadable) → length (octets_of p) ≡ min p.len (length p.memory)
octets_length p = length-take p.len p.memory

one_at_once : (frames : FrameSupport) → reads_at_once frames 1 ≡ true
one_at_once Standard = refl
one_at_once Extended = refl

-- an octet that is there is given
one_given : (frames : FrameSupport) (p : Loadable) (at : ℕ) → at < p.len → at < length p.memory → length (given_octets frames p at 1) ≡ 1
one_given frames p at h k =
    ap (λ (v : Bool). length (if v then range_of p at 1 else [])) (one_at_once frames)
    ∙ (ap length (read_is p at 1 (omega (arith, h)))
    ∙ omega (arith, length-take 1 (drop at (octets_of p)), length-drop at (octets_of p), octets_length p, h, k))

-- where the octet after the list isn't given, the segment is no longer than the list
end_short : (frames : FrameSupport) (nv : NonVolatile) (o : LoadableObject) (list : List ℕ) → length list < capacity o → capacity_of (loadable nv o) ≡ capacity o → answer frames nv (MemoryRead 1 (segment_base o + length list)) ≡ Some (MemoryResponse (segment_base o + length list) []) → (loadable nv o).len ≤ length list
end_short frames nv o list h c e =
    let given : given_octets frames (loadable nv o) (length list) 1 ≡ [] = given_as frames nv o (length list) 1 [] h e in
    elim (cases_lt (length list) (loadable nv o).len) as (λ _. (loadable nv o).len ≤ length list) [
      | inl m ↦ absurd (omega (arith, one_given frames (loadable nv o) (length list) m (omega (arith, h, c)), ap length given))
      | inr m ↦ m
    ]

-- what comes after the pieces, as one condition
end_says : (frames : FrameSupport) (nv : NonVolatile) (o : LoadableObject) (list : List ℕ) → capacity_of (loadable nv o) ≡ capacity o → AllAnswered frames (reads_end o list) nv → length list < capacity o → (loadable nv o).len ≤ length list
end_says frames nv o list c a h =
    let by : (v : Bool) → nat_lt (length list) (capacity o) ≡ v → AllAnswered frames (if v then expecting (MemoryRead 1 (segment_base o + length list)) (MemoryResponse (segment_base o + length list) []) ∷ [] else []) nv → (loadable nv o).len ≤ length list
    = λ v. elim v as (λ v. nat_lt (length list) (capacity o) ≡ v → AllAnswered frames (if v then expecting (MemoryRead 1 (segment_base o + length list)) (MemoryResponse (segment_base o + length list) []) ∷ [] else []) nv → (loadable nv o).len ≤ length list)
    [ true ↦ λ t k. end_short frames nv o list h c k.0 | false ↦ λ t k. absurd (grind (arith, nat_tests)) ] in
    by _ refl a

checked_holds : (frames : FrameSupport) (size : PieceSize) (nv : NonVolatile) (o : LoadableObject) (list : List ℕ) → length list ≤ capacity o → capacity_of (loadable nv o) ≡ capacity o → AllAnswered frames (checking size o list) nv → Holds nv o list
unfolding checking
checked_holds frames size nv o list r c h =
    let p : Loadable = loadable nv o in
    let pieces : List Operation = each_piece (reads_piece size o list) (piece_count size list) in
    let read : AllAnswered frames pieces nv = AllAnswered-front frames pieces (reads_end o list) nv h.1.1 in
    let ended : AllAnswered frames (reads_end o list) nv = AllAnswered-rest frames pieces (reads_end o list) nv h.1.1 in
    let long : length list ≤ p.len = pieces_long frames size nv o list 0 (piece_count size list) r (omega arith) (λ past. omega (arith, past, start_zero size)) read in
    let same : length (octets_of p) ≡ length list
    = elim (cases_lt (length list) (capacity o)) as (λ _. length (octets_of p) ≡ length list) [
      | inl m ↦ omega (arith, octets_length p, end_says frames nv o list c ended m, long, c, m)
      | inr m ↦ omega (arith, octets_length p, long, c, m, r)
    ] in
    record {
      state = same_state o (loadable nv o).state Loaded (sym (answer_state frames nv o) ∙ h.0);
      octets = pieces_same frames size nv o list 0 (piece_count size list) r (omega arith) same (no_front size (octets_of p) list) read;
    }

pieces_held : (frames : FrameSupport) (size : PieceSize) (nv : NonVolatile) (o : LoadableObject) (list : List ℕ) (k n : ℕ) → ReadsPieces frames size → length list ≤ capacity o → length list ≤ (loadable nv o).len → k + n ≡ piece_count size list → octets_of (loadable nv o) ≡ list
    → AllAnswered frames (map (reads_piece size o list) (range_with_len k n)) nv
pieces_held frames size nv o list k zero c r l b e = tt
pieces_held frames size nv o list k (suc n) c r l b e =
    let within : piece_start size k < length list = start_within size list k (omega (arith, b)) in (
      answer_memory frames nv o (piece_start size k) (length (piece size list k)) (omega (arith, within, r))
          ∙ ap (λ (w : List ℕ). Some (MemoryResponse (segment_base o + piece_start size k) w)) (given_piece frames size (loadable nv o) list k c l e (omega (arith, within))),
      pieces_held frames size nv o list (k + 1) n c r l (omega (arith, b)) e,
    )

none_past : (frames : FrameSupport) (p : Loadable) (at : ℕ) → p.len ≤ at → given_octets frames p at 1 ≡ []
none_past frames p at h =
    let t : nat_le (at + 1) p.len ≡ false = grind (arith, nat_tests) in
    ap (λ (v : Bool). if v then range_of p at 1 else []) (one_at_once frames) ∙ ap (λ (v : Bool). if v then take 1 (drop at (octets_of p)) else []) t

end_held : (frames : FrameSupport) (nv : NonVolatile) (o : LoadableObject) (list : List ℕ) → (length list < capacity o → (loadable nv o).len ≤ length list) → AllAnswered frames (reads_end o list) nv
end_held frames nv o list f =
    let by : (v : Bool) → nat_lt (length list) (capacity o) ≡ v → AllAnswered frames (if v then expecting (MemoryRead 1 (segment_base o + length list)) (MemoryResponse (segment_base o + length list) []) ∷ [] else []) nv
    = λ v. elim v as (λ v. nat_lt (length list) (capacity o) ≡ v → AllAnswered frames (if v then expecting (MemoryRead 1 (segment_base o + length list)) (MemoryResponse (segment_base o + length list) []) ∷ [] else []) nv) [
      | true ↦ λ t. let h : length list < capacity o = grind (arith, nat_tests) in
          (answer_memory frames nv o (length list) 1 h ∙ ap (λ (w : List ℕ). Some (MemoryResponse (segment_base o + length list) w)) (none_past frames (loadable nv o) (length list) (f h)), tt)
      | false ↦ λ t. tt
    ] in
    by _ refl

holds_checked : (frames : FrameSupport) (size : PieceSize) (nv : NonVolatile) (o : LoadableObject) (list : List ℕ) → ReadsPieces frames size → length list ≤ capacity o → capacity_of (loadable nv o) ≡ capacity o → Holds nv o list → AllAnswered frames (checking size o list) nv
unfolding checking
holds_checked frames size nv o list c r d h =
    let p : Loadable = loadable nv o in
    let long : min p.len (length p.memory) ≡ length list = sym (octets_length p) ∙ ap length h.octets in
    let fits : length list ≤ p.len = omega (arith, long) in (
      answer_state frames nv o ∙ ap (λ (s : LoadState). Some (state_answer o s)) h.state,
      (
        answer_base frames nv o,
        AllAnswered-append frames (each_piece (reads_piece size o list) (piece_count size list)) (reads_end o list) nv
            (pieces_held frames size nv o list 0 (piece_count size list) c r fits (omega arith) h.octets)
            (end_held frames nv o list (λ m. omega (arith, long, d, m))),
      ),
    )

-- ---- the four objects

abbrev pub HoldsAll : NonVolatile → Image → Type 0
HoldsAll nv image = Holds nv AddressTable image.addr × Holds nv AssociationTable image.assoc × Holds nv GroupObjects image.objs × Holds nv Application image.params

loaded_state : (s : LoadState) → is_loaded s ≡ true → s ≡ Loaded
loaded_state Unloaded e = absurd (cc)
loaded_state Loaded e = refl
loaded_state Loading e = absurd (cc)
loaded_state Error e = absurd (cc)

pub runs_held : (nv : NonVolatile) (image : Image) → HoldsAll nv image → runs nv ≡ Some image
runs_held nv image h = rw (h.0.state, h.1.state, h.2.state, h.3.state) (rw (h.0.octets, h.1.octets, h.2.octets, h.3.octets) refl)

all_states : (a b c d : Bool) → a && b && c && d ≡ true → (a ≡ true) × (b ≡ true) × (c ≡ true) × (d ≡ true)
all_states true true true true e = (refl, refl, refl, refl)
all_states true true true false e = absurd (cc)
all_states true true false d e = absurd (cc)
all_states true false c d e = absurd (cc)
all_states false b c d e = absurd (cc)

same_image : (x y : Image) → Some x ≡ Some y → x ≡ y
same_image x y e = cc

pub held_runs : (nv : NonVolatile) (image : Image) → runs nv ≡ Some image → HoldsAll nv image
held_runs nv image =
    let by : (v : Bool) → all_loaded nv ≡ v → (if v then Some (segments nv) else None) ≡ Some image → HoldsAll nv image
    = λ v. elim v as (λ v. all_loaded nv ≡ v → (if v then Some (segments nv) else None) ≡ Some image → HoldsAll nv image) [
      | true ↦ λ t e. let s : (is_loaded nv.address_table.state ≡ true) × (is_loaded nv.association_table.state ≡ true) × (is_loaded nv.group_objects.state ≡ true) × (is_loaded nv.application.state ≡ true)
          = all_states (is_loaded nv.address_table.state) (is_loaded nv.association_table.state) (is_loaded nv.group_objects.state) (is_loaded nv.application.state) t in
          let i : segments nv ≡ image = same_image (segments nv) image e in (
            record { state = loaded_state nv.address_table.state s.0; octets = ap (λ (x : Image). x.addr) i },
            record { state = loaded_state nv.association_table.state s.1; octets = ap (λ (x : Image). x.assoc) i },
            record { state = loaded_state nv.group_objects.state s.2; octets = ap (λ (x : Image). x.objs) i },
            record { state = loaded_state nv.application.state s.3; octets = ap (λ (x : Image). x.params) i },
          )
      | false ↦ λ t e. absurd (cc)
    ] in
    by _ refl

pub checked_runs : (frames : FrameSupport) (image : Image) (size : PieceSize) (nv : NonVolatile) → Fits image → HasCapacities nv → AllAnswered frames (check_operations image size) nv → runs nv ≡ Some image
unfolding check_operations
checked_runs frames image size nv f c h =
    let a : List Operation = checking size AddressTable image.addr in
    let b : List Operation = checking size AssociationTable image.assoc in
    let o : List Operation = checking size GroupObjects image.objs in
    let p : List Operation = checking size Application image.params in
    let h1 : AllAnswered frames (b ++ (o ++ p)) nv = AllAnswered-rest frames a (b ++ (o ++ p)) nv h in
    let h2 : AllAnswered frames (o ++ p) nv = AllAnswered-rest frames b (o ++ p) nv h1 in
    runs_held nv image (
      checked_holds frames size nv AddressTable image.addr f.addr c.addr (AllAnswered-front frames a (b ++ (o ++ p)) nv h),
      checked_holds frames size nv AssociationTable image.assoc f.assoc c.assoc (AllAnswered-front frames b (o ++ p) nv h1),
      checked_holds frames size nv GroupObjects image.objs f.objs c.objs (AllAnswered-front frames o p nv h2),
      checked_holds frames size nv Application image.params f.params c.params (AllAnswered-rest frames o p nv h2),
    )

pub runs_checked : (frames : FrameSupport) (image : Image) (size : PieceSize) (nv : NonVolatile) → ReadsPieces frames size → Fits image → HasCapacities nv → runs nv ≡ Some image → AllAnswered frames (check_operations image size) nv
unfolding check_operations
runs_checked frames image size nv s f c e =
    let h : HoldsAll nv image = held_runs nv image e in
    AllAnswered-append frames (checking size AddressTable image.addr) _ nv (holds_checked frames size nv AddressTable image.addr s f.addr c.addr h.0)
    (AllAnswered-append frames (checking size AssociationTable image.assoc) _ nv (holds_checked frames size nv AssociationTable image.assoc s f.assoc c.assoc h.1)
    (AllAnswered-append frames (checking size GroupObjects image.objs) (checking size Application image.params) nv (holds_checked frames size nv GroupObjects image.objs s f.objs c.objs h.2)
    (holds_checked frames size nv Application image.params s f.params c.params h.3)))
