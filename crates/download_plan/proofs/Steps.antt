use Rattle.std.proofs.Common.{ℕ, ◌≡◌, ◌+◌, ◌-◌, ◌/◌, ◌%◌, ◌<◌, ◌≤◌, Bool, true, false, List, [], ◌∷◌, ◌++◌, length, take, drop, Option, Some, None, refl, sym, ◌∙◌, ap, subst, arith, if◌then◌else◌}
use Rattle.std.proofs.lemmas.Grind.{common_steps}
use Rattle.std.proofs.lemmas.Bool.Decides.{nat_tests}
use Rattle.knx_model.specs.declared.loading.LoadState.{LoadState}
use Rattle.knx_model.specs.declared.loading.LoadState.TheVariants.{Loading, Error}
use Rattle.knx_model.specs.declared.loading.LoadEvent.{LoadEvent}
use Rattle.knx_model.specs.declared.loading.LoadEvent.TheVariants.{NoOperation, StartLoading, LoadCompleted, Allocate, Unload, Undefined}
use Rattle.knx_model.specs.declared.loading.LoadableObject.{LoadableObject}
use Rattle.knx_model.specs.declared.loading.LoadableObject.TheVariants.{AddressTable, AssociationTable, GroupObjects, Application}
use Rattle.knx_model.specs.declared.frames.tpdu.Apdu.{Apdu}
use Rattle.knx_model.specs.declared.frames.tpdu.Apdu.TheVariants.{MemoryRead, MemoryResponse, PropertyRead, PropertyResponse, PropertyWrite}
use Rattle.knx_model.specs.Loading.{Loadable, octets_of, is_loaded, with_state, with_memory, allocates, load_step, load_torn, load_event, four_octets, old_or_new, state_number, has_range, takes_write, memory_written, memory_torn, overlaid}
use Rattle.knx_model.specs.declared.device.FrameSupport.{FrameSupport}
use Rattle.knx_model.specs.Device.{NonVolatile, Effect, reads_at_once, Loads, Stores, Nothing, loadable, with_loadable, object_index, segment_base, capacity, object_at, at_address, runs, effect_of, whole, torn, taken_over, answer, range_octets, table_reference}
use Rattle.knx_model.specs.Operations.{Operation, load_octets}
use Rattle.download_plan.specs.Step.{IsShort}

-- the application isn't Loaded, so the device is stopped
abbrev pub IsStopped : NonVolatile → Type 0
IsStopped nv = is_loaded nv.application.state ≡ false

pub runs_nothing : (nv : NonVolatile) → IsStopped nv → runs nv ≡ None
runs_nothing nv h = grind (arith, common_steps)

-- `Leads` of operations as services
abbrev pub OperationsLead : FrameSupport → (NonVolatile → Type 0) → (NonVolatile → Type 0) → List Operation → NonVolatile → Type 0
OperationsLead frames P R [] nv = P nv × R nv
OperationsLead frames P R (operation ∷ operations) nv =
    P nv
    × ((fresh : Bool) (octets : List ℕ) → P (torn nv (effect_of operation.service) fresh octets))
    × ((wear : Option (List ℕ)) → P (taken_over nv (effect_of operation.service) wear))
    × ((wear : Option (List ℕ)) → answer frames nv operation.service ≡ operation.expected → OperationsLead frames P R operations (taken_over nv (effect_of operation.service) wear))

-- `Serves` of operations as services
abbrev pub OperationsServe : FrameSupport → (NonVolatile → Type 0) → List Operation → NonVolatile → Type 0
OperationsServe frames R [] nv = R nv
OperationsServe frames R (operation ∷ operations) nv = (answer frames nv operation.service ≡ operation.expected) × OperationsServe frames R operations (whole nv (effect_of operation.service))

-- one object is replaced
pub object_with : (nv : NonVolatile) (o : LoadableObject) (p : Loadable) → loadable (with_loadable nv o p) o ≡ p
object_with nv AddressTable p = refl
object_with nv AssociationTable p = refl
object_with nv GroupObjects p = refl
object_with nv Application p = refl

pub with_with : (nv : NonVolatile) (o : LoadableObject) (p q : Loadable) → with_loadable (with_loadable nv o p) o q ≡ with_loadable nv o q
with_with nv AddressTable p q = refl
with_with nv AssociationTable p q = refl
with_with nv GroupObjects p q = refl
with_with nv Application p q = refl

pub with_same : (nv : NonVolatile) (o : LoadableObject) → with_loadable nv o (loadable nv o) ≡ nv
with_same nv AddressTable = refl
with_same nv AssociationTable = refl
with_same nv GroupObjects = refl
with_same nv Application = refl

pub stopped_with : (nv : NonVolatile) (o : LoadableObject) (p : Loadable) → IsStopped nv → is_loaded p.state ≡ false → IsStopped (with_loadable nv o p)
stopped_with nv AddressTable p h k = h
stopped_with nv AssociationTable p h k = h
stopped_with nv GroupObjects p h k = h
stopped_with nv Application p h k = k

pub stopped_same : (nv : NonVolatile) (o : LoadableObject) (p : Loadable) → IsStopped nv → p.state ≡ (loadable nv o).state → IsStopped (with_loadable nv o p)
stopped_same nv AddressTable p h e = h
stopped_same nv AssociationTable p h e = h
stopped_same nv GroupObjects p h e = h
stopped_same nv Application p h e = ap is_loaded e ∙ h

pub scribbled_state : (p : Loadable) (at n : ℕ) (octets : List ℕ) → (memory_torn p at n octets).state ≡ p.state
scribbled_state p at n octets =
    elim (takes_write p at n) as (λ v. (if v then with_memory p (overlaid p.memory at (take n octets)) else p).state ≡ p.state) [ true ↦ refl | false ↦ refl ]

stopped_either : (fresh : Bool) (p q : Loadable) → is_loaded p.state ≡ false → is_loaded q.state ≡ false → is_loaded (old_or_new fresh p q).state ≡ false
stopped_either true p q h k = k
stopped_either false p q h k = h

-- state is old or new
pub load_torn_state : (p : Loadable) (e : LoadEvent) (fresh : Bool) (octets : List ℕ) → is_loaded p.state ≡ false → is_loaded (load_step p e).state ≡ false → is_loaded (load_torn p e fresh octets).state ≡ false
load_torn_state p NoOperation fresh octets h k = h
load_torn_state p StartLoading fresh octets h k = stopped_either fresh p (load_step p StartLoading) h k
load_torn_state p LoadCompleted fresh octets h k = stopped_either fresh p (load_step p LoadCompleted) h k
load_torn_state p Unload fresh octets h k = stopped_either fresh p (load_step p Unload) h k
load_torn_state p Undefined fresh octets h k = stopped_either fresh p (load_step p Undefined) h k
load_torn_state p (Allocate size fill) fresh octets h k =
    elim (allocates p size) as (λ v. is_loaded (if v then record { state = Loading; len = if fresh then size else p.len; memory = overlaid p.memory 0 (take size octets) } else old_or_new fresh p (with_state p Error)).state ≡ false)
    [ true ↦ refl | false ↦ stopped_either fresh p (with_state p Error) h refl ]

-- whatever a cut tears: where the device is stopped before and after an effect, it is stopped after the torn one
pub torn_stopped : (nv : NonVolatile) (e : Effect) (fresh : Bool) (octets : List ℕ) → IsStopped nv → IsStopped (whole nv e) → IsStopped (torn nv e fresh octets)
torn_stopped nv Nothing fresh octets h k = h
torn_stopped nv (Loads AddressTable e) fresh octets h k = h
torn_stopped nv (Loads AssociationTable e) fresh octets h k = h
torn_stopped nv (Loads GroupObjects e) fresh octets h k = h
torn_stopped nv (Loads Application e) fresh octets h k = load_torn_state nv.application e fresh octets h k
torn_stopped nv (Stores a asked) fresh octets h k =
    elim (object_at a) as (λ found. IsStopped (elim found as (λ _. NonVolatile) [ None ↦ nv | Some o ↦ with_loadable nv o (memory_torn (loadable nv o) (a - segment_base o) (length asked) octets) ]))
    [ None ↦ h | Some o ↦ stopped_same nv o (memory_torn (loadable nv o) (a - segment_base o) (length asked) octets) h (scribbled_state (loadable nv o) (a - segment_base o) (length asked) octets) ]

-- of two lists, one after the other
pub leads-append : (frames : FrameSupport) (P Q R : NonVolatile → Type 0) (xs ys : List Operation) (nv : NonVolatile) → OperationsLead frames P Q xs nv → ((u : NonVolatile) → Q u → OperationsLead frames P R ys u) → OperationsLead frames P R (xs ++ ys) nv
leads-append frames P Q R [] ys nv h k = k nv h.1
leads-append frames P Q R (x ∷ xs) ys nv h k = (h.0, h.1, h.2, λ wear e. leads-append frames P Q R xs ys _ (h.3 wear e) k)

pub leads-weaker : (frames : FrameSupport) (P Q R S : NonVolatile → Type 0) → ((u : NonVolatile) → P u → Q u) → ((u : NonVolatile) → R u → S u) → (xs : List Operation) (nv : NonVolatile) → OperationsLead frames P R xs nv → OperationsLead frames Q S xs nv
leads-weaker frames P Q R S f g [] nv h = (f nv h.0, g nv h.1)
leads-weaker frames P Q R S f g (x ∷ xs) nv h = (f nv h.0, λ fresh octets. f _ (h.1 fresh octets), λ wear. f _ (h.2 wear), λ wear e. leads-weaker frames P Q R S f g xs _ (h.3 wear e))

abbrev pub operation : Apdu → Option Apdu → Operation
operation service expected = record { service = service; expected = expected }

-- one operation, before and after which the device is stopped
pub leads_step : (frames : FrameSupport) (R : NonVolatile → Type 0) (s : Apdu) (a : Option Apdu) (ops : List Operation) (nv : NonVolatile) (effect : Effect) (next : Option (List ℕ) → NonVolatile) (given : Option Apdu)
    → effect_of s ≡ effect → whole nv effect ≡ next None → ((wear : Option (List ℕ)) → taken_over nv effect wear ≡ next wear) → answer frames nv s ≡ given → IsStopped nv → ((wear : Option (List ℕ)) → IsStopped (next wear))
    → ((wear : Option (List ℕ)) → given ≡ a → OperationsLead frames IsStopped R ops (next wear)) → OperationsLead frames IsStopped R (operation s a ∷ ops) nv
leads_step frames R s a ops nv effect next given i v w g h k f =
    let t : (wear : Option (List ℕ)) → taken_over nv (effect_of s) wear ≡ next wear = λ wear. ap (λ e. taken_over nv e wear) i ∙ w wear in
    let u : whole nv (effect_of s) ≡ next None = ap (λ e. whole nv e) i ∙ v in (
      h,
      λ fresh octets. torn_stopped nv (effect_of s) fresh octets h (subst IsStopped (sym u) (k None)),
      λ wear. subst IsStopped (sym (t wear)) (k wear),
      λ wear e. subst (OperationsLead frames IsStopped R ops) (sym (t wear)) (f wear (sym g ∙ e)),
    )

-- ---- the services of a plan

abbrev pub load_service : LoadableObject → LoadEvent → Apdu
load_service o e = PropertyWrite (object_index o) 5 1 1 (load_octets e)

abbrev pub state_answer : LoadableObject → LoadState → Apdu
state_answer o s = PropertyResponse (object_index o) 5 1 1 (state_number s ∷ [])

pub load_again : (e : LoadEvent) → IsShort e → load_event (load_octets e) ≡ e
load_again NoOperation h = refl
load_again StartLoading h = refl
load_again LoadCompleted h = refl
load_again Unload h = refl
load_again Undefined h = refl
load_again (Allocate size fill) h = ap (λ n. Allocate n fill) (let e : four_octets (size / 65536 / 256) (size / 65536 % 256) (size % 65536 / 256) (size % 65536 % 256) ≡ size = omega arith in e)

pub length_load : (e : LoadEvent) → length (load_octets e) ≡ 10
length_load NoOperation = refl
length_load StartLoading = refl
length_load LoadCompleted = refl
length_load Unload = refl
length_load Undefined = refl
length_load (Allocate size fill) = refl

pub effect_load : (o : LoadableObject) (e : LoadEvent) → IsShort e → effect_of (load_service o e) ≡ Loads o e
effect_load AddressTable e h = rw (length_load e) (ap (Loads AddressTable) (load_again e h))
effect_load AssociationTable e h = rw (length_load e) (ap (Loads AssociationTable) (load_again e h))
effect_load GroupObjects e h = rw (length_load e) (ap (Loads GroupObjects) (load_again e h))
effect_load Application e h = rw (length_load e) (ap (Loads Application) (load_again e h))

-- an effect on one loadable, seen at its state
pub whole_load : (nv : NonVolatile) (o : LoadableObject) (p : Loadable) (e : LoadEvent) → whole (with_loadable nv o p) (Loads o e) ≡ with_loadable nv o (load_step p e)
whole_load nv AddressTable p e = refl
whole_load nv AssociationTable p e = refl
whole_load nv GroupObjects p e = refl
whole_load nv Application p e = refl

pub answer_load : (frames : FrameSupport) (nv : NonVolatile) (o : LoadableObject) (p : Loadable) (e : LoadEvent) → IsShort e → answer frames (with_loadable nv o p) (load_service o e) ≡ Some (state_answer o (load_step p e).state)
answer_load frames nv AddressTable p e h = rw (length_load e, load_again e h) refl
answer_load frames nv AssociationTable p e h = rw (length_load e, load_again e h) refl
answer_load frames nv GroupObjects p e h = rw (length_load e, load_again e h) refl
answer_load frames nv Application p e h = rw (length_load e, load_again e h) refl

pub answer_base : (frames : FrameSupport) (nv : NonVolatile) (o : LoadableObject) → answer frames nv (PropertyRead (object_index o) 7 1 1) ≡ Some (PropertyResponse (object_index o) 7 1 1 (table_reference o))
answer_base frames nv AddressTable = refl
answer_base frames nv AssociationTable = refl
answer_base frames nv GroupObjects = refl
answer_base frames nv Application = refl

pub object_is : (o : LoadableObject) (at : ℕ) → at < capacity o → object_at (segment_base o + at) ≡ Some o
object_is AddressTable at h = grind (arith, nat_tests)
object_is AssociationTable at h = grind (arith, nat_tests)
object_is GroupObjects at h = grind (arith, nat_tests)
object_is Application at h = grind (arith, nat_tests)

at_base : (o : LoadableObject) (at : ℕ) → segment_base o + at - segment_base o ≡ at
at_base o at = omega arith

-- what becomes of one object at an address of its memory
pub at_place : (nv : NonVolatile) (o : LoadableObject) (p : Loadable) (at : ℕ) (change : Loadable → ℕ → Loadable) → at < capacity o → at_address (with_loadable nv o p) (segment_base o + at) change ≡ with_loadable nv o (change p at)
at_place nv o p at change h =
    ap (λ (found : Option LoadableObject). elim found as (λ _. NonVolatile) [ None ↦ with_loadable nv o p | Some q ↦ with_loadable (with_loadable nv o p) q (change (loadable (with_loadable nv o p) q) (segment_base o + at - segment_base q)) ]) (object_is o at h)
    ∙ (ap (λ (k : ℕ). with_loadable (with_loadable nv o p) o (change (loadable (with_loadable nv o p) o) k)) (at_base o at)
    ∙ (ap (λ (q : Loadable). with_loadable (with_loadable nv o p) o (change q at)) (object_with nv o p) ∙ with_with nv o p (change p at)))

pub whole_write : (nv : NonVolatile) (o : LoadableObject) (p : Loadable) (at : ℕ) (octets : List ℕ) → at < capacity o → whole (with_loadable nv o p) (Stores (segment_base o + at) octets) ≡ with_loadable nv o (memory_written p at octets)
whole_write nv o p at octets h = at_place nv o p at (λ q k. memory_written q k octets) h

-- the object after a memory write, worn or not
abbrev pub kept : Loadable → ℕ → List ℕ → Option (List ℕ) → Loadable
kept p at octets None = memory_written p at octets
kept p at octets (Some any) = memory_torn p at (length octets) any

pub taken_write : (nv : NonVolatile) (o : LoadableObject) (p : Loadable) (at : ℕ) (octets : List ℕ) (wear : Option (List ℕ)) → at < capacity o → taken_over (with_loadable nv o p) (Stores (segment_base o + at) octets) wear ≡ with_loadable nv o (kept p at octets wear)
taken_write nv o p at octets None h = whole_write nv o p at octets h
taken_write nv o p at octets (Some any) h = at_place nv o p at (λ q k. memory_torn q k (length octets) any) h

-- the octets of a range of one object
abbrev pub range_of : Loadable → ℕ → ℕ → List ℕ
range_of p at n = if has_range p at n then take n (drop at (octets_of p)) else []

pub range_is : (nv : NonVolatile) (o : LoadableObject) (p : Loadable) (at n : ℕ) → at < capacity o → range_octets (with_loadable nv o p) (segment_base o + at) n ≡ range_of p at n
range_is nv o p at n h =
    ap (λ (found : Option LoadableObject). elim found as (λ _. List ℕ) [ None ↦ [] | Some q ↦ range_of (loadable (with_loadable nv o p) q) (segment_base o + at - segment_base q) n ]) (object_is o at h)
    ∙ (ap (λ (k : ℕ). range_of (loadable (with_loadable nv o p) o) k n) (at_base o at) ∙ ap (λ (q : Loadable). range_of q at n) (object_with nv o p))

-- what a read of it is answered
abbrev pub given_octets : FrameSupport → Loadable → ℕ → ℕ → List ℕ
given_octets frames p at n = if reads_at_once frames n then range_of p at n else []

pub answer_read : (frames : FrameSupport) (nv : NonVolatile) (o : LoadableObject) (p : Loadable) (at n : ℕ) → at < capacity o → answer frames (with_loadable nv o p) (MemoryRead n (segment_base o + at)) ≡ Some (MemoryResponse (segment_base o + at) (given_octets frames p at n))
answer_read frames nv o p at n h =
    ap (λ (octets : List ℕ). Some (MemoryResponse (segment_base o + at) (if reads_at_once frames n then octets else []))) (range_is nv o p at n h)

-- octets that were given are those of the range
pub given_range : (frames : FrameSupport) (p : Loadable) (at n : ℕ) (xs : List ℕ) → 1 ≤ length xs → given_octets frames p at n ≡ xs → range_of p at n ≡ xs
given_range frames p at n xs h =
    elim (reads_at_once frames n) as (λ v. (if v then range_of p at n else []) ≡ xs → range_of p at n ≡ xs)
    [ true ↦ λ e. e | false ↦ λ e. absurd (omega (arith, h, ap length e)) ]

-- and lie within the segment
pub within_range : (p : Loadable) (at n : ℕ) (xs : List ℕ) → 1 ≤ length xs → range_of p at n ≡ xs → at + n ≤ p.len
within_range p at n xs h =
    let by : (v : Bool) → has_range p at n ≡ v → (if v then take n (drop at (octets_of p)) else []) ≡ xs → at + n ≤ p.len
    = λ v. elim v as (λ v. has_range p at n ≡ v → (if v then take n (drop at (octets_of p)) else []) ≡ xs → at + n ≤ p.len)
    [ true ↦ λ t e. grind (arith, nat_tests) | false ↦ λ t e. absurd (omega (arith, h, ap length e)) ] in
    by _ refl
