use Rattle.std.proofs.Common.{ℕ, zero, suc, ◌≡◌, ◌+◌, ◌<◌, ◌≤◌, Bool, true, false, nat_le, ◌&&◌, List, [], ◌∷◌, ◌++◌, length, length-drop, length-take, length-append, length-take-le, take, drop, map, replicate, Option, Some, None, refl, sym, ◌∙◌, ap, subst, arith, if◌then◌else◌}
use Rattle.std.specs.List.{range_with_len}
use Rattle.std.proofs.lemmas.List.{length-replicate, take_all}
use Rattle.std.proofs.lemmas.Bool.Decides.{nat_tests}
use Rattle.std.proofs.lemmas.Grind.{common_steps}
use Rattle.knx_model.specs.declared.loading.LoadState.{LoadState}
use Rattle.knx_model.specs.declared.loading.LoadState.TheVariants.{Unloaded, Loaded, Loading, Error}
use Rattle.knx_model.specs.declared.loading.LoadEvent.{LoadEvent}
use Rattle.knx_model.specs.declared.loading.LoadEvent.TheVariants.{StartLoading, Allocate, Unload}
use Rattle.knx_model.specs.declared.loading.LoadableObject.{LoadableObject}
use Rattle.knx_model.specs.declared.frames.tpdu.Apdu.{Apdu}
use Rattle.knx_model.specs.declared.frames.tpdu.Apdu.TheVariants.{MemoryRead, MemoryResponse, MemoryWrite, PropertyRead, PropertyResponse}
use Rattle.knx_model.specs.Loading.{Loadable, octets_of, capacity_of, is_loading, is_loaded, with_state, with_memory, allocated, allocates, load_step, state_number, takes_write, overlaid}
use Rattle.knx_model.specs.Device.{NonVolatile, Loads, Stores, Nothing, loadable, with_loadable, object_index, segment_base, capacity, table_reference}
use Rattle.knx_model.specs.declared.device.FrameSupport.{FrameSupport}
use Rattle.knx_model.specs.declared.plan.PieceSize.{PieceSize}
use Rattle.knx_model.specs.Operations.{Operation, event_then, reads_base, piece_octets, piece_start, piece, piece_count, writes_piece, reads_piece, each_piece, filling}
use Rattle.download_plan.specs.Step.{IsShort}
use Rattle.download_plan.proofs.Lists.{take_length, length-overlaid, take_piece}
use Rattle.download_plan.proofs.Pieces.{start_zero, start_next, start_within, start_after, piece_some, piece_fits}
use Rattle.download_plan.proofs.Steps.{IsStopped, OperationsLead, with_same, stopped_with, leads_step, load_service, state_answer, effect_load, whole_load, answer_load, answer_base, whole_write, taken_write, kept, answer_read, range_of, given_octets, given_range}

state_back : ℕ → LoadState
state_back zero = Unloaded
state_back (suc zero) = Loaded
state_back (suc (suc zero)) = Loading
state_back n = Error

state_again : (s : LoadState) → state_back (state_number s) ≡ s
unfolding state_back
state_again Unloaded = refl
state_again Loaded = refl
state_again Loading = refl
state_again Error = refl

pub same_number : (s t : LoadState) → state_number s ≡ state_number t → s ≡ t
same_number s t e = sym (state_again s) ∙ (ap state_back e ∙ state_again t)

octets_apart : (i j : ℕ) (xs ys : List ℕ) → Some (PropertyResponse i 5 1 1 xs) ≡ Some (PropertyResponse j 5 1 1 ys) → xs ≡ ys
octets_apart i j xs ys e = cc

numbers_apart : (x y : ℕ) → x ∷ [] ≡ y ∷ [] → x ≡ y
numbers_apart x y e = cc

pub same_state : (o : LoadableObject) (s t : LoadState) → Some (state_answer o s) ≡ Some (state_answer o t) → s ≡ t
same_state o s t e = same_number s t (numbers_apart (state_number s) (state_number t) (octets_apart (object_index o) (object_index o) (state_number s ∷ []) (state_number t ∷ []) e))

pub same_octets : (a b : ℕ) (xs ys : List ℕ) → Some (MemoryResponse a xs) ≡ Some (MemoryResponse b ys) → xs ≡ ys
same_octets a b xs ys e = cc

-- a load event at one object
pub load_leads : (frames : FrameSupport) (R : NonVolatile → Type 0) (nv : NonVolatile) (o : LoadableObject) (p : Loadable) (e : LoadEvent) (s : LoadState) (ops : List Operation) → IsShort e → IsStopped (with_loadable nv o p) → IsStopped (with_loadable nv o (load_step p e)) → ((load_step p e).state ≡ s → OperationsLead frames IsStopped R ops (with_loadable nv o (load_step p e))) → OperationsLead frames IsStopped R (event_then o e s ∷ ops) (with_loadable nv o p)
load_leads frames R nv o p e s ops i h k f =
    leads_step frames R (load_service o e) (Some (state_answer o s)) ops (with_loadable nv o p) (Loads o e) (λ _. with_loadable nv o (load_step p e)) (Some (state_answer o (load_step p e).state)) (effect_load o e i) (whole_load nv o p e) (λ _. whole_load nv o p e) (answer_load frames nv o p e i) h (λ _. k) (λ _ q. f (same_state o _ _ q))

pub not_loaded : (s : LoadState) → s ≡ Loading → is_loaded s ≡ false
not_loaded s e = rw e refl

-- it is Loading, and its segment of n octets lies within its memory
pub record IsAllocated (n : ℕ) (p : Loadable) : Type 0 where
  pub state : p.state ≡ Loading
  pub len : p.len ≡ n
  pub room : n ≤ length p.memory

pub allocated_octets : (n : ℕ) (p : Loadable) → IsAllocated n p → length (octets_of p) ≡ n
allocated_octets n p a = length-take-le p.len p.memory (omega (arith, a.len, a.room)) ∙ a.len

write_within : (p : Loadable) (at n : ℕ) → takes_write p at n ≡ true → at + n ≤ p.len
write_within p at n e = grind (arith, common_steps)

-- laying octets over a part of the segment, or not
pub laid_allocated : (n : ℕ) (p : Loadable) (at m : ℕ) (octets : List ℕ) → length octets ≤ m → IsAllocated n p → IsAllocated n (if takes_write p at m then with_memory p (overlaid p.memory at octets) else p)
laid_allocated n p at m octets l a =
    let by : (v : Bool) → takes_write p at m ≡ v → IsAllocated n (if v then with_memory p (overlaid p.memory at octets) else p)
    = λ v. elim v as (λ v. takes_write p at m ≡ v → IsAllocated n (if v then with_memory p (overlaid p.memory at octets) else p)) [
      | true ↦ λ e. let w : at + m ≤ p.len = write_within p at m e in
          let long : length (overlaid p.memory at octets) ≡ length p.memory = length-overlaid p.memory at octets in
          record { state = a.state; len = a.len; room = omega (arith, long, a.room) }
      | false ↦ λ e. a
    ] in
    by _ refl

pub kept_allocated : (n : ℕ) (p : Loadable) (at : ℕ) (octets : List ℕ) (wear : Option (List ℕ)) → IsAllocated n p → IsAllocated n (kept p at octets wear)
kept_allocated n p at octets None a = laid_allocated n p at (length octets) octets (omega arith) a
kept_allocated n p at octets (Some any) a = laid_allocated n p at (length octets) (take (length octets) any) (omega (arith, length-take {A = ℕ})) a

pub allocated_stopped : (p : Loadable) (n fill : ℕ) → is_loaded p.state ≡ false → is_loaded (allocated p n fill).state ≡ false
allocated_stopped p n fill h =
    elim (is_loading p.state && nat_le n (capacity_of p)) as (λ v. is_loaded (if v then record { state = Loading; len = n; memory = replicate n fill ++ drop n p.memory } else with_state p Error).state ≡ false) [ true ↦ refl | false ↦ refl ]

pub allocated_is : (p : Loadable) (n fill : ℕ) → (allocated p n fill).state ≡ Loading → IsAllocated n (allocated p n fill)
allocated_is p n fill =
    let by : (v : Bool) → allocates p n ≡ v → (if v then record { state = Loading; len = n; memory = replicate n fill ++ drop n p.memory } else with_state p Error).state ≡ Loading
    → IsAllocated n (if v then record { state = Loading; len = n; memory = replicate n fill ++ drop n p.memory } else with_state p Error)
    = λ v. elim v as (λ v. allocates p n ≡ v → (if v then record { state = Loading; len = n; memory = replicate n fill ++ drop n p.memory } else with_state p Error).state ≡ Loading
    → IsAllocated n (if v then record { state = Loading; len = n; memory = replicate n fill ++ drop n p.memory } else with_state p Error)) [
      | true ↦ λ e s. record { state = s; len = refl; room = omega (arith, length-append (replicate n fill) (drop n p.memory), length-replicate n fill) }
      | false ↦ λ e s. cc
    ] in
    by _ refl

-- the pieces are written: the object stays allocated, whatever octets stand there
pub writes_lead : (frames : FrameSupport) (size : PieceSize) (R : NonVolatile → Type 0) (nv : NonVolatile) (o : LoadableObject) (list : List ℕ) (k n : ℕ) (p : Loadable) (ops : List Operation) → IsStopped nv → length list ≤ capacity o → k + n ≡ piece_count size list → IsAllocated (length list) p
    → ((q : Loadable) → IsAllocated (length list) q → OperationsLead frames IsStopped R ops (with_loadable nv o q))
    → OperationsLead frames IsStopped R (map (writes_piece size o list) (range_with_len k n) ++ ops) (with_loadable nv o p)
writes_lead frames size R nv o list k zero p ops h r b a f = f p a
writes_lead frames size R nv o list k (suc n) p ops h r b a f =
    let os : List ℕ = piece size list k in
    let within : piece_start size k < capacity o = omega (arith, start_within size list k (omega (arith, b)), r) in
    let t : (wear : Option (List ℕ)) → IsAllocated (length list) (kept p (piece_start size k) os wear) = λ wear. kept_allocated (length list) p (piece_start size k) os wear a in
    leads_step frames R (MemoryWrite (segment_base o + piece_start size k) os) None (map (writes_piece size o list) (range_with_len (k + 1) n) ++ ops) (with_loadable nv o p) (Stores (segment_base o + piece_start size k) os) (λ wear. with_loadable nv o (kept p (piece_start size k) os wear)) None
    refl (whole_write nv o p (piece_start size k) os within) (λ wear. taken_write nv o p (piece_start size k) os wear within) refl
    (stopped_with nv o p h (not_loaded _ a.state)) (λ wear. stopped_with nv o (kept p (piece_start size k) os wear) h (not_loaded _ (t wear).state))
    (λ wear _. writes_lead frames size R nv o list (k + 1) n (kept p (piece_start size k) os wear) ops h r (omega arith) (t wear) f)

-- the object is Loading and holds the list
pub record IsFilled (nv : NonVolatile) (o : LoadableObject) (list : List ℕ) (new : NonVolatile) : Type 0 where
  pub p : Loadable
  pub is : new ≡ with_loadable nv o p
  pub state : p.state ≡ Loading
  pub octets : octets_of p ≡ list

pub read_is : (p : Loadable) (at n : ℕ) → at + n ≤ p.len → range_of p at n ≡ take n (drop at (octets_of p))
read_is p at n h = let t : nat_le (at + n) p.len ≡ true = grind (arith, nat_tests) in rw t refl

pub piece_read : (size : PieceSize) (xs list : List ℕ) (k : ℕ) → length xs ≡ length list → take (length (piece size list k)) (drop (piece_start size k) xs) ≡ piece size list k → take (piece_start size k) xs ≡ take (piece_start size k) list → take (piece_start size k + piece_octets size) xs ≡ take (piece_start size k + piece_octets size) list
unfolding piece
piece_read size xs list k l e h =
    take_piece (piece_octets size) xs list (piece_start size k) h (sym (take_length (piece_octets size) (drop (piece_start size k) xs) (drop (piece_start size k) list) (omega (arith, length-drop {A = ℕ}, l))) ∙ e)

pub next_front : (size : PieceSize) (xs list : List ℕ) (k : ℕ) → take (piece_start size k + piece_octets size) xs ≡ take (piece_start size k + piece_octets size) list → take (piece_start size (k + 1)) xs ≡ take (piece_start size (k + 1)) list
next_front size xs list k e = rw (start_next size k) e

-- of no pieces
pub no_front : (size : PieceSize) (xs list : List ℕ) → take (piece_start size 0) xs ≡ take (piece_start size 0) list
no_front size xs list = rw (start_zero size) refl

-- a front that is the whole list
pub front_is : (xs list : List ℕ) (n : ℕ) → length xs ≡ length list → length list ≤ n → take n xs ≡ take n list → xs ≡ list
front_is xs list n l h e = sym (take_all n xs (omega arith)) ∙ (e ∙ take_all n list (omega arith))

-- the pieces are read back
pub reads_lead : (frames : FrameSupport) (size : PieceSize) (nv : NonVolatile) (o : LoadableObject) (list : List ℕ) (k n : ℕ) (p : Loadable) → IsStopped nv → length list ≤ capacity o → k + n ≡ piece_count size list → IsAllocated (length list) p → take (piece_start size k) (octets_of p) ≡ take (piece_start size k) list
    → OperationsLead frames IsStopped (IsFilled nv o list) (map (reads_piece size o list) (range_with_len k n)) (with_loadable nv o p)
reads_lead frames size nv o list k zero p h r b a e =
    (stopped_with nv o p h (not_loaded _ a.state), record { p = p; is = refl; state = a.state; octets = front_is (octets_of p) list (piece_start size k) (allocated_octets (length list) p a) (start_after size list k (omega (arith, b))) e })
reads_lead frames size nv o list k (suc n) p h r b a e =
    let stop = stopped_with nv o p h (not_loaded _ a.state) in
    let m : ℕ = length (piece size list k) in
    let at : ℕ = piece_start size k in
    let counted : k < piece_count size list = omega (arith, b) in
    let within : at < length list = start_within size list k counted in
    let long : length (octets_of p) ≡ length list = allocated_octets (length list) p a in
    leads_step frames (IsFilled nv o list) (MemoryRead m (segment_base o + at)) (Some (MemoryResponse (segment_base o + at) (piece size list k))) (map (reads_piece size o list) (range_with_len (k + 1) n)) (with_loadable nv o p) Nothing (λ _. with_loadable nv o p) (Some (MemoryResponse (segment_base o + at) (given_octets frames p at m)))
    refl refl (λ _. refl) (answer_read frames nv o p at m (omega (arith, within, r))) stop (λ _. stop)
    (λ _ g. reads_lead frames size nv o list (k + 1) n p h r (omega arith) a
    (next_front size (octets_of p) list k (piece_read size (octets_of p) list k long
    (sym (read_is p at m (omega (arith, piece_fits size list k (omega (arith, within)), a.len)))
    ∙ given_range frames p at m (piece size list k) (piece_some size list k counted) (same_octets (segment_base o + at) (segment_base o + at) _ _ g)) e)))

pub filling_leads : (frames : FrameSupport) (size : PieceSize) (nv : NonVolatile) (o : LoadableObject) (list : List ℕ) → IsStopped nv → length list ≤ capacity o → length list < 0x10000 → OperationsLead frames IsStopped (IsFilled nv o list) (filling size o list) nv
unfolding filling
filling_leads frames size nv o list h r i =
    let p0 : Loadable = loadable nv o in
    let p1 : Loadable = record { state = Unloaded; len = 0; memory = p0.memory } in
    let p2 : Loadable = with_state p1 Loading in
    let p3 : Loadable = allocated p2 (length list) 0 in
    let R : NonVolatile → Type 0 = IsFilled nv o list in
    let rest : List Operation = each_piece (writes_piece size o list) (piece_count size list) ++ each_piece (reads_piece size o list) (piece_count size list) in
    let ops3 : List Operation = reads_base o ∷ rest in
    let ops2 : List Operation = event_then o (Allocate (length list) 0) Loading ∷ ops3 in
    let ops1 : List Operation = event_then o StartLoading Loading ∷ ops2 in
    let s1 : IsStopped (with_loadable nv o p1) = stopped_with nv o p1 h refl in
    let s2 : IsStopped (with_loadable nv o p2) = stopped_with nv o p2 h refl in
    let s3 : IsStopped (with_loadable nv o p3) = stopped_with nv o p3 h (allocated_stopped p2 (length list) 0 refl) in
    let last : p3.state ≡ Loading → OperationsLead frames IsStopped R rest (with_loadable nv o p3)
    = λ a. writes_lead frames size R nv o list 0 (piece_count size list) p3 (each_piece (reads_piece size o list) (piece_count size list)) h r (omega arith) (allocated_is p2 (length list) 0 a)
    (λ q t. reads_lead frames size nv o list 0 (piece_count size list) q h r (omega arith) t (no_front size (octets_of q) list)) in
    let based : Option Apdu = Some (PropertyResponse (object_index o) 7 1 1 (table_reference o)) in
    let third : p3.state ≡ Loading → OperationsLead frames IsStopped R ops3 (with_loadable nv o p3)
    = λ a. leads_step frames R (PropertyRead (object_index o) 7 1 1) based rest (with_loadable nv o p3) Nothing (λ _. with_loadable nv o p3) based refl refl (λ _. refl) (answer_base frames (with_loadable nv o p3) o) s3 (λ _. s3) (λ _ _. last a) in
    let start : IsStopped (with_loadable nv o p0) = subst IsStopped (sym (with_same nv o)) h in
    subst (OperationsLead frames IsStopped R (filling size o list)) (with_same nv o)
    (load_leads frames R nv o p0 Unload Unloaded ops1 tt start s1
    (λ _. load_leads frames R nv o p1 StartLoading Loading ops2 tt s1 s2
    (λ _. load_leads frames R nv o p2 (Allocate (length list) 0) Loading ops3 i s2 s3 third)))
