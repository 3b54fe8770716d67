-- Which operation stands at a number of a plan: within one object, and among all objects.
use Rattle.std.proofs.Common.{ℕ, zero, suc, ◌≡◌, ◌+◌, ◌-◌, ◌*◌, ◌<◌, ◌≤◌, Bool, true, false, nat_lt, List, [], ◌∷◌, ◌++◌, map, length, length-append, Some, refl, sym, ◌∙◌, ap, subst, arith, if◌then◌else◌}
use Rattle.std.specs.List.{range_with_len, slice_get}
use Rattle.std.specs.Option.{option_map}
use Rattle.std.proofs.lemmas.Bool.Decides.{nat_tests}
use Rattle.std.proofs.lemmas.Option.{slice_get-map, slice_get-get_or}
use Rattle.std.proofs.lemmas.List.FromFn.{length-range_with_len, get_or-range_with_len, length-map-range_with_len}
use Rattle.knx_model.specs.declared.config.Image.{Image}
use Rattle.knx_model.specs.declared.loading.LoadState.TheVariants.{Unloaded, Loaded, Loading}
use Rattle.knx_model.specs.declared.loading.LoadEvent.TheVariants.{StartLoading, LoadCompleted, Allocate, Unload}
use Rattle.knx_model.specs.declared.loading.LoadableObject.{LoadableObject}
use Rattle.knx_model.specs.declared.loading.LoadableObject.TheVariants.{AddressTable, AssociationTable, GroupObjects, Application}
use Rattle.knx_model.specs.declared.frames.tpdu.Apdu.TheVariants.{MemoryRead, MemoryResponse}
use Rattle.knx_model.specs.declared.plan.PieceSize.{PieceSize}
use Rattle.knx_model.specs.Device.{segment_base, capacity}
use Rattle.knx_model.specs.Operations.{Operation, expecting, event_then, reads_loaded, reads_base, reads_end, piece_count, writes_piece, reads_piece, each_piece, filling, loading, checking}
use Rattle.knx_model.specs.LoadPlan.{list_of, each_object, load_operations, check_operations}
use Rattle.download_plan.specs.declared.place.Shares.{Shares}
use Rattle.download_plan.specs.Left.{Listening, load_count, check_count}
use Rattle.download_plan.specs.Step.{op_of, share_of, share_before, load_share, check_share}

get-append_left : {X : Type 0} (xs ys : List X) (k : ℕ) → k < length xs → slice_get (xs ++ ys) k ≡ slice_get xs k
get-append_left [] ys k h = absurd (omega arith)
get-append_left (x ∷ xs) ys zero h = refl
get-append_left (x ∷ xs) ys (suc k) h = get-append_left xs ys k (omega arith)

get-append_right : {X : Type 0} (xs ys : List X) (k i : ℕ) → k ≡ length xs + i → slice_get (xs ++ ys) k ≡ slice_get ys i
get-append_right [] ys k i e = let f : k ≡ i = omega arith in ap (slice_get ys) f
get-append_right (x ∷ xs) ys zero i e = absurd (omega arith)
get-append_right (x ∷ xs) ys (suc k) i e = get-append_right xs ys k i (omega arith)

each_piece_at : (make : ℕ → Operation) (n k : ℕ) → k < n → slice_get (each_piece make n) k ≡ Some (make k)
each_piece_at make n k h =
    slice_get-map make (range_with_len 0 n) k
    ∙ (ap (option_map make) (slice_get-get_or (range_with_len 0 n) k 0 (omega (arith, length-range_with_len 0 n)))
    ∙ ap (λ j. Some (make j)) (get_or-range_with_len 0 n k 0 h ∙ omega arith))

each_piece_length : (make : ℕ → Operation) (n : ℕ) → length (each_piece make n) ≡ n
each_piece_length make n = length-map-range_with_len make 0 n

-- ---- the loading of one object

abbrev opening : LoadableObject → List ℕ → List Operation
opening o list = event_then o Unload Unloaded ∷ event_then o StartLoading Loading ∷ event_then o (Allocate (length list) 0) Loading ∷ reads_base o ∷ []

abbrev writes : PieceSize → LoadableObject → List ℕ → List Operation
writes size o list = each_piece (writes_piece size o list) (piece_count size list)

abbrev reads : PieceSize → LoadableObject → List ℕ → List Operation
reads size o list = each_piece (reads_piece size o list) (piece_count size list)

writes_length : (size : PieceSize) (o : LoadableObject) (list : List ℕ) → length (writes size o list) ≡ piece_count size list
writes_length size o list = each_piece_length (writes_piece size o list) (piece_count size list)

reads_length : (size : PieceSize) (o : LoadableObject) (list : List ℕ) → length (reads size o list) ≡ piece_count size list
reads_length size o list = each_piece_length (reads_piece size o list) (piece_count size list)

pub write_at : (size : PieceSize) (o : LoadableObject) (list : List ℕ) (pieces k : ℕ) → piece_count size list ≡ pieces → k < pieces → slice_get (loading size o list) (k + 4) ≡ Some (writes_piece size o list k)
unfolding loading filling
write_at size o list pieces k e h =
    get-append_left (opening o list ++ (writes size o list ++ reads size o list)) (event_then o LoadCompleted Loaded ∷ []) (k + 4) (omega (arith, length-append (writes size o list) (reads size o list), writes_length size o list, e, h))
    ∙ (get-append_right (opening o list) (writes size o list ++ reads size o list) (k + 4) k (omega arith)
    ∙ (get-append_left (writes size o list) (reads size o list) k (omega (arith, writes_length size o list, e, h))
    ∙ each_piece_at (writes_piece size o list) (piece_count size list) k (omega (arith, e, h))))

pub read_at : (size : PieceSize) (o : LoadableObject) (list : List ℕ) (pieces k : ℕ) → piece_count size list ≡ pieces → pieces ≤ k → k - pieces < pieces → slice_get (loading size o list) (k + 4) ≡ Some (reads_piece size o list (k - pieces))
unfolding loading filling
read_at size o list pieces k e l h =
    get-append_left (opening o list ++ (writes size o list ++ reads size o list)) (event_then o LoadCompleted Loaded ∷ []) (k + 4) (omega (arith, length-append (writes size o list) (reads size o list), writes_length size o list, reads_length size o list, e, l, h))
    ∙ (get-append_right (opening o list) (writes size o list ++ reads size o list) (k + 4) k (omega arith)
    ∙ (get-append_right (writes size o list) (reads size o list) k (k - pieces) (omega (arith, writes_length size o list, e, l))
    ∙ each_piece_at (reads_piece size o list) (piece_count size list) (k - pieces) (omega (arith, e, h))))

filling_length : (size : PieceSize) (o : LoadableObject) (list : List ℕ) → length (filling size o list) ≡ 4 + 2 * piece_count size list
unfolding filling
filling_length size o list = omega (arith, length-append (writes size o list) (reads size o list), writes_length size o list, reads_length size o list)

pub loading_length : (size : PieceSize) (o : LoadableObject) (list : List ℕ) → length (loading size o list) ≡ load_share size o list
unfolding loading
loading_length size o list = omega (arith, length-append (filling size o list) (event_then o LoadCompleted Loaded ∷ []), filling_length size o list)

pub complete_at : (size : PieceSize) (o : LoadableObject) (list : List ℕ) (pieces k : ℕ) → piece_count size list ≡ pieces → k ≡ 2 * pieces → slice_get (loading size o list) (k + 4) ≡ Some (event_then o LoadCompleted Loaded)
unfolding loading
complete_at size o list pieces k e h = get-append_right (filling size o list) (event_then o LoadCompleted Loaded ∷ []) (k + 4) 0 (omega (arith, filling_length size o list, e, h))

-- ---- the check of one object

end_length : (o : LoadableObject) (list : List ℕ) → length (reads_end o list) ≡ (if nat_lt (length list) (capacity o) then 1 else 0)
end_length o list =
    elim (nat_lt (length list) (capacity o)) as (λ v. length (if v then expecting (MemoryRead 1 (segment_base o + length list)) (MemoryResponse (segment_base o + length list) []) ∷ [] else []) ≡ (if v then 1 else 0)) [ true ↦ refl | false ↦ refl ]

pub checking_length : (size : PieceSize) (o : LoadableObject) (list : List ℕ) → length (checking size o list) ≡ check_share size o list
unfolding checking
checking_length size o list = omega (arith, length-append (reads size o list) (reads_end o list), reads_length size o list, end_length o list)

pub check_piece_at : (size : PieceSize) (o : LoadableObject) (list : List ℕ) (pieces k : ℕ) → piece_count size list ≡ pieces → k < pieces → slice_get (checking size o list) (k + 2) ≡ Some (reads_piece size o list k)
unfolding checking
check_piece_at size o list pieces k e h =
    get-append_right (reads_loaded o ∷ reads_base o ∷ []) (reads size o list ++ reads_end o list) (k + 2) k (omega arith)
    ∙ (get-append_left (reads size o list) (reads_end o list) k (omega (arith, reads_length size o list, e, h))
    ∙ each_piece_at (reads_piece size o list) (piece_count size list) k (omega (arith, e, h)))

-- behind the pieces there is a read only where the list is shorter than its segment can be
pub ends_short : (size : PieceSize) (o : LoadableObject) (list : List ℕ) (pieces k : ℕ) → piece_count size list ≡ pieces → pieces ≤ k → k + 2 < check_share size o list → length list < capacity o
ends_short size o list pieces k e l h =
    let by : (v : Bool) → nat_lt (length list) (capacity o) ≡ v → k + 2 < 2 + piece_count size list + (if v then 1 else 0) → length list < capacity o
    = λ v. elim v as (λ v. nat_lt (length list) (capacity o) ≡ v → k + 2 < 2 + piece_count size list + (if v then 1 else 0) → length list < capacity o)
    [ true ↦ λ t m. grind (arith, nat_tests) | false ↦ λ t m. absurd (omega (arith, e, l, m)) ] in
    by _ refl h

pub check_end_at : (size : PieceSize) (o : LoadableObject) (list : List ℕ) (pieces k : ℕ) → piece_count size list ≡ pieces → pieces ≤ k → k + 2 < check_share size o list
    → slice_get (checking size o list) (k + 2) ≡ Some (expecting (MemoryRead 1 (segment_base o + length list)) (MemoryResponse (segment_base o + length list) []))
unfolding checking
check_end_at size o list pieces k e l h =
    let short : length list < capacity o = ends_short size o list pieces k e l h in
    let t : nat_lt (length list) (capacity o) ≡ true = grind (arith, nat_tests) in
    let n : k + 2 < 2 + piece_count size list + 1 = subst (λ (v : Bool). k + 2 < 2 + piece_count size list + (if v then 1 else 0)) t h in
    get-append_right (reads_loaded o ∷ reads_base o ∷ []) (reads size o list ++ reads_end o list) (k + 2) k (omega arith)
    ∙ (get-append_right (reads size o list) (reads_end o list) k 0 (omega (arith, reads_length size o list, e, l, n))
    ∙ ap (λ (v : Bool). slice_get (if v then expecting (MemoryRead 1 (segment_base o + length list)) (MemoryResponse (segment_base o + length list) []) ∷ [] else []) 0) t)

-- ---- all objects

-- the shares are the lengths of the objects' operations
pub record AreShares (operations : LoadableObject → List Operation) (shares : Shares) : Type 0 where
  pub addr : length (operations AddressTable) ≡ shares.addr
  pub assoc : length (operations AssociationTable) ≡ shares.assoc
  pub objs : length (operations GroupObjects) ≡ shares.objs
  pub params : length (operations Application) ≡ shares.params

pub objects_length : (operations : LoadableObject → List Operation) → length (each_object operations) ≡ length (operations AddressTable) + length (operations AssociationTable) + length (operations GroupObjects) + length (operations Application)
objects_length operations =
    let a : List Operation = operations AddressTable in
    let b : List Operation = operations AssociationTable in
    let c : List Operation = operations GroupObjects in
    let d : List Operation = operations Application in
    omega (arith, length-append a (b ++ (c ++ d)), length-append b (c ++ d), length-append c d)

at_object : (operations : LoadableObject → List Operation) (shares : Shares) (o : LoadableObject) (j k : ℕ) → AreShares operations shares → share_before shares o + j ≡ k → j < share_of shares o → slice_get (each_object operations) k ≡ slice_get (operations o) j
at_object operations shares AddressTable j k s e h =
    get-append_left (operations AddressTable) _ k (omega (arith, s.addr, e, h)) ∙ (let i : k ≡ j = omega (arith, e) in ap (slice_get (operations AddressTable)) i)
at_object operations shares AssociationTable j k s e h =
    get-append_right (operations AddressTable) _ k j (omega (arith, s.addr, e))
    ∙ get-append_left (operations AssociationTable) _ j (omega (arith, s.assoc, h))
at_object operations shares GroupObjects j k s e h =
    let i : ℕ = shares.assoc + j in
    get-append_right (operations AddressTable) _ k i (omega (arith, s.addr, e))
    ∙ (get-append_right (operations AssociationTable) _ i j (omega (arith, s.assoc))
    ∙ get-append_left (operations GroupObjects) _ j (omega (arith, s.objs, h)))
at_object operations shares Application j k s e h =
    let i : ℕ = shares.assoc + shares.objs + j in
    let m : ℕ = shares.objs + j in
    get-append_right (operations AddressTable) _ k i (omega (arith, s.addr, e))
    ∙ (get-append_right (operations AssociationTable) _ i m (omega (arith, s.assoc))
    ∙ get-append_right (operations GroupObjects) _ m j (omega (arith, s.objs)))

-- ---- the plans

pub load_length : (image : Image) (size : PieceSize) → length (load_operations image size) ≡ 1 + (load_share size AddressTable image.addr + load_share size AssociationTable image.assoc + load_share size GroupObjects image.objs + load_share size Application image.params)
unfolding load_operations
load_length image size =
    omega (arith, objects_length (λ o. loading size o (list_of image o)), loading_length size AddressTable image.addr, loading_length size AssociationTable image.assoc, loading_length size GroupObjects image.objs, loading_length size Application image.params)

pub check_length : (image : Image) (size : PieceSize) → length (check_operations image size) ≡ check_share size AddressTable image.addr + check_share size AssociationTable image.assoc + check_share size GroupObjects image.objs + check_share size Application image.params
unfolding check_operations
check_length image size =
    omega (arith, objects_length (λ o. checking size o (list_of image o)), checking_length size AddressTable image.addr, checking_length size AssociationTable image.assoc, checking_length size GroupObjects image.objs, checking_length size Application image.params)

-- the shares of the load plan's objects
pub record AreLoadShares (image : Image) (size : PieceSize) (shares : Shares) : Type 0 where
  pub addr : shares.addr ≡ load_share size AddressTable image.addr
  pub assoc : shares.assoc ≡ load_share size AssociationTable image.assoc
  pub objs : shares.objs ≡ load_share size GroupObjects image.objs
  pub params : shares.params ≡ load_share size Application image.params

pub record AreCheckShares (image : Image) (size : PieceSize) (shares : Shares) : Type 0 where
  pub addr : shares.addr ≡ check_share size AddressTable image.addr
  pub assoc : shares.assoc ≡ check_share size AssociationTable image.assoc
  pub objs : shares.objs ≡ check_share size GroupObjects image.objs
  pub params : shares.params ≡ check_share size Application image.params

pub load_within : (image : Image) (size : PieceSize) (shares : Shares) (o : LoadableObject) (j : ℕ) → AreLoadShares image size shares → j < share_of shares o → j < load_share size o (list_of image o)
load_within image size shares AddressTable j s h = omega (arith, s.addr, h)
load_within image size shares AssociationTable j s h = omega (arith, s.assoc, h)
load_within image size shares GroupObjects j s h = omega (arith, s.objs, h)
load_within image size shares Application j s h = omega (arith, s.params, h)

pub check_within : (image : Image) (size : PieceSize) (shares : Shares) (o : LoadableObject) (j : ℕ) → AreCheckShares image size shares → j < share_of shares o → j < check_share size o (list_of image o)
check_within image size shares AddressTable j s h = subst (λ (n : ℕ). j < n) s.addr h
check_within image size shares AssociationTable j s h = subst (λ (n : ℕ). j < n) s.assoc h
check_within image size shares GroupObjects j s h = subst (λ (n : ℕ). j < n) s.objs h
check_within image size shares Application j s h = subst (λ (n : ℕ). j < n) s.params h

in_octets : (operations : List Operation) (k : ℕ) (operation : Operation) → slice_get operations k ≡ Some operation → slice_get (map op_of operations) k ≡ Some (op_of operation)
in_octets operations k operation e = slice_get-map op_of operations k ∙ ap (option_map op_of) e

pub load_op_at : (image : Image) (size : PieceSize) (shares : Shares) (o : LoadableObject) (j k : ℕ) (operation : Operation) → AreLoadShares image size shares → share_before shares o + j ≡ k → j < share_of shares o
    → slice_get (loading size o (list_of image o)) j ≡ Some operation → slice_get (map op_of (load_operations image size)) (k + 1) ≡ Some (op_of operation)
unfolding load_operations
load_op_at image size shares o j k operation s e h at =
    let operations : LoadableObject → List Operation = λ o. loading size o (list_of image o) in
    let lengths : AreShares operations shares
    = record {
      addr = loading_length size AddressTable image.addr ∙ sym s.addr;
      assoc = loading_length size AssociationTable image.assoc ∙ sym s.assoc;
      objs = loading_length size GroupObjects image.objs ∙ sym s.objs;
      params = loading_length size Application image.params ∙ sym s.params;
    } in
    in_octets (load_operations image size) (k + 1) operation
    (get-append_right (event_then Application Unload Unloaded ∷ []) (each_object operations) (k + 1) k (omega arith) ∙ (at_object operations shares o j k lengths e h ∙ at))

pub check_op_at : (image : Image) (size : PieceSize) (shares : Shares) (o : LoadableObject) (j k : ℕ) (operation : Operation) → AreCheckShares image size shares → share_before shares o + j ≡ k → j < share_of shares o
    → slice_get (checking size o (list_of image o)) j ≡ Some operation → slice_get (map op_of (check_operations image size)) k ≡ Some (op_of operation)
unfolding check_operations
check_op_at image size shares o j k operation s e h at =
    let operations : LoadableObject → List Operation = λ o. checking size o (list_of image o) in
    let lengths : AreShares operations shares
    = record {
      addr = checking_length size AddressTable image.addr ∙ sym s.addr;
      assoc = checking_length size AssociationTable image.assoc ∙ sym s.assoc;
      objs = checking_length size GroupObjects image.objs ∙ sym s.objs;
      params = checking_length size Application image.params ∙ sym s.params;
    } in
    in_octets (check_operations image size) k operation (at_object operations shares o j k lengths e h ∙ at)

pub load_begins : (image : Image) (size : PieceSize) → slice_get (map op_of (load_operations image size)) 0 ≡ Some (op_of (event_then Application Unload Unloaded))
unfolding load_operations
load_begins image size = refl

-- ---- counts

pub load_counted : (p : Listening) → load_count p ≡ 3 + (load_share p.size AddressTable p.image.addr + load_share p.size AssociationTable p.image.assoc + load_share p.size GroupObjects p.image.objs + load_share p.size Application p.image.params)
unfolding load_count
load_counted p = omega (arith, load_length p.image p.size)

pub check_counted : (p : Listening) → check_count p ≡ 2 + (check_share p.size AddressTable p.image.addr + check_share p.size AssociationTable p.image.assoc + check_share p.size GroupObjects p.image.objs + check_share p.size Application p.image.params)
unfolding check_count
check_counted p = omega (arith, check_length p.image p.size)

pub load_inside : (p : Listening) (k : ℕ) → k < load_count p → 3 ≤ k → k - 3 + 1 < length (load_operations p.image p.size)
unfolding load_count
load_inside p k h l = omega (arith, h, l)

pub check_inside : (p : Listening) (k : ℕ) → k < check_count p → 2 ≤ k → k - 2 < length (check_operations p.image p.size)
unfolding check_count
check_inside p k h l = omega (arith, h, l)
