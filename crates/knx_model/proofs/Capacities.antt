-- Whatever is done to a device, each object's memory keeps its capacity.
use Rattle.std.proofs.Common.{ℕ, ◌≡◌, ◌-◌, ◌≤◌, Bool, true, false, List, ◌++◌, length, length-append, length-drop, take, drop, replicate, Some, None, refl, ◌∙◌, arith, if◌then◌else◌}
use Rattle.std.proofs.lemmas.List.{length-replicate}
use Rattle.std.proofs.lemmas.Grind.{common_steps}
use Rattle.knx_model.specs.declared.loading.LoadState.TheVariants.{Loading, Error}
use Rattle.knx_model.specs.declared.loading.LoadEvent.{LoadEvent}
use Rattle.knx_model.specs.declared.loading.LoadEvent.TheVariants.{NoOperation, StartLoading, LoadCompleted, Allocate, Unload, Undefined}
use Rattle.knx_model.specs.declared.loading.LoadableObject.{LoadableObject}
use Rattle.knx_model.specs.declared.loading.LoadableObject.TheVariants.{AddressTable, AssociationTable, GroupObjects, Application}
use Rattle.knx_model.specs.Loading.{Loadable, capacity_of, with_state, with_memory, allocated, allocates, load_step, load_torn, old_or_new, takes_write, memory_written, memory_torn, overlaid}
use Rattle.knx_model.specs.Device.{NonVolatile, Effect, Loads, Stores, Nothing, loadable, with_loadable, segment_base, object_at, at_address, whole, torn, HasCapacities}
use Rattle.knx_model.specs.DeviceFrames.{Outcome, Whole, Torn, Worn, kept_after}

length-overlaid : (old : List ℕ) (at : ℕ) (octets : List ℕ) → length (overlaid old at octets) ≡ length old
length-overlaid old at octets = grind (arith, common_steps)

allocates_within : (p : Loadable) (n : ℕ) → allocates p n ≡ true → n ≤ length p.memory
allocates_within p n e = grind (arith, common_steps)

same_capacities : (nv : NonVolatile) (o : LoadableObject) (p : Loadable) → capacity_of p ≡ capacity_of (loadable nv o) → HasCapacities nv → HasCapacities (with_loadable nv o p)
same_capacities nv AddressTable p e h = record { addr = e ∙ h.addr; assoc = h.assoc; objs = h.objs; params = h.params }
same_capacities nv AssociationTable p e h = record { addr = h.addr; assoc = e ∙ h.assoc; objs = h.objs; params = h.params }
same_capacities nv GroupObjects p e h = record { addr = h.addr; assoc = h.assoc; objs = e ∙ h.objs; params = h.params }
same_capacities nv Application p e h = record { addr = h.addr; assoc = h.assoc; objs = h.objs; params = e ∙ h.params }

either_capacity : (v : Bool) (p q : Loadable) (n : ℕ) → capacity_of p ≡ n → capacity_of q ≡ n → capacity_of (if v then q else p) ≡ n
either_capacity true p q n e f = f
either_capacity false p q n e f = e

laid_capacity : (v : Bool) (p : Loadable) (at : ℕ) (octets : List ℕ) → capacity_of (if v then with_memory p (overlaid p.memory at octets) else p) ≡ capacity_of p
laid_capacity v p at octets = either_capacity v p (with_memory p (overlaid p.memory at octets)) (capacity_of p) refl (length-overlaid p.memory at octets)

filled_length : (old : List ℕ) (n fill : ℕ) → n ≤ length old → length (replicate n fill ++ drop n old) ≡ length old
filled_length old n fill h = omega (arith, length-append (replicate n fill) (drop n old), length-replicate n fill, length-drop n old)

allocated_capacity : (p : Loadable) (n fill : ℕ) → capacity_of (allocated p n fill) ≡ capacity_of p
allocated_capacity p n fill =
    let by : (v : Bool) → allocates p n ≡ v → capacity_of (if v then record { state = Loading; len = n; memory = replicate n fill ++ drop n p.memory } else with_state p Error) ≡ capacity_of p
    = λ v. elim v as (λ v. allocates p n ≡ v → capacity_of (if v then record { state = Loading; len = n; memory = replicate n fill ++ drop n p.memory } else with_state p Error) ≡ capacity_of p)
    [ true ↦ λ e. filled_length p.memory n fill (allocates_within p n e) | false ↦ λ e. refl ] in
    by _ refl

load_capacity : (p : Loadable) (e : LoadEvent) → capacity_of (load_step p e) ≡ capacity_of p
load_capacity p NoOperation = refl
load_capacity p StartLoading = refl
load_capacity p LoadCompleted = refl
load_capacity p (Allocate n fill) = allocated_capacity p n fill
load_capacity p Unload = refl
load_capacity p Undefined = refl

old_or_new_capacity : (fresh : Bool) (p q : Loadable) → capacity_of q ≡ capacity_of p → capacity_of (old_or_new fresh p q) ≡ capacity_of p
old_or_new_capacity fresh p q e = either_capacity fresh p q (capacity_of p) refl e

torn_capacity : (p : Loadable) (e : LoadEvent) (fresh : Bool) (octets : List ℕ) → capacity_of (load_torn p e fresh octets) ≡ capacity_of p
torn_capacity p NoOperation fresh octets = refl
torn_capacity p StartLoading fresh octets = old_or_new_capacity fresh p (load_step p StartLoading) refl
torn_capacity p LoadCompleted fresh octets = old_or_new_capacity fresh p (load_step p LoadCompleted) refl
torn_capacity p Unload fresh octets = old_or_new_capacity fresh p (load_step p Unload) refl
torn_capacity p Undefined fresh octets = old_or_new_capacity fresh p (load_step p Undefined) refl
torn_capacity p (Allocate n fill) fresh octets =
    elim (allocates p n) as (λ v. capacity_of (if v then record { state = Loading; len = if fresh then n else p.len; memory = overlaid p.memory 0 (take n octets) } else old_or_new fresh p (with_state p Error)) ≡ capacity_of p)
    [ true ↦ length-overlaid p.memory 0 (take n octets) | false ↦ old_or_new_capacity fresh p (with_state p Error) refl ]

-- a memory write changes the object in whose memory the address lies, if any
changed_capacities : (nv : NonVolatile) (a : ℕ) (change : Loadable → ℕ → Loadable) → ((p : Loadable) (at : ℕ) → capacity_of (change p at) ≡ capacity_of p) → HasCapacities nv → HasCapacities (at_address nv a change)
changed_capacities nv a change k h =
    elim (object_at a) as (λ found. HasCapacities (elim found as (λ _. NonVolatile) [ None ↦ nv | Some o ↦ with_loadable nv o (change (loadable nv o) (a - segment_base o)) ]))
    [ None ↦ h | Some o ↦ same_capacities nv o (change (loadable nv o) (a - segment_base o)) (k (loadable nv o) (a - segment_base o)) h ]

whole_capacities : (nv : NonVolatile) (e : Effect) → HasCapacities nv → HasCapacities (whole nv e)
whole_capacities nv (Loads o e) h = same_capacities nv o (load_step (loadable nv o) e) (load_capacity (loadable nv o) e) h
whole_capacities nv (Stores a octets) h = changed_capacities nv a (λ p at. memory_written p at octets) (λ p at. laid_capacity (takes_write p at (length octets)) p at octets) h
whole_capacities nv Nothing h = h

pub torn_capacities : (nv : NonVolatile) (e : Effect) (fresh : Bool) (octets : List ℕ) → HasCapacities nv → HasCapacities (torn nv e fresh octets)
torn_capacities nv (Loads o e) fresh octets h = same_capacities nv o (load_torn (loadable nv o) e fresh octets) (torn_capacity (loadable nv o) e fresh octets) h
torn_capacities nv (Stores a asked) fresh octets h =
    changed_capacities nv a (λ p at. memory_torn p at (length asked) octets) (λ p at. laid_capacity (takes_write p at (length asked)) p at (take (length asked) octets)) h
torn_capacities nv Nothing fresh octets h = h

-- however an effect is taken, each object's memory keeps its capacity
pub kept_capacities : (nv : NonVolatile) (e : Effect) (outcome : Outcome) → HasCapacities nv → HasCapacities (kept_after nv e outcome)
kept_capacities nv e Whole h = whole_capacities nv e h
kept_capacities nv e (Torn fresh octets) h = torn_capacities nv e fresh octets h
kept_capacities nv (Loads o e) (Worn octets) h = whole_capacities nv (Loads o e) h
kept_capacities nv (Stores a asked) (Worn octets) h = torn_capacities nv (Stores a asked) true octets h
kept_capacities nv Nothing (Worn octets) h = h
