-- While a device runs, what it keeps doesn't change, and so its index stays one of its tables.
use Rattle.std.proofs.Common.{ℕ, ◌≡◌, ◌-◌, ◌≤◌, Bool, true, false, ◌&&◌, List, ◌++◌, length, take, drop, replicate, Some, None, refl, sym, ap, subst, ◌∙◌, arith, if◌then◌else◌}
use Rattle.std.proofs.lemmas.Bool.{false≢true, and_parts}
use Rattle.std.proofs.lemmas.List.{length-take}
use Rattle.knx_model.specs.declared.loading.LoadState.{LoadState}
use Rattle.knx_model.specs.declared.loading.LoadState.TheVariants.{Unloaded, Loaded, Loading, Error}
use Rattle.knx_model.specs.declared.loading.LoadEvent.{LoadEvent}
use Rattle.knx_model.specs.declared.loading.LoadEvent.TheVariants.{NoOperation, StartLoading, LoadCompleted, Allocate, Unload, Undefined}
use Rattle.knx_model.specs.declared.loading.LoadableObject.{LoadableObject}
use Rattle.knx_model.specs.declared.loading.LoadableObject.TheVariants.{AddressTable, AssociationTable, GroupObjects, Application}
use Rattle.knx_model.specs.Loading.{Loadable, octets_of, is_loading, is_loaded, with_state, with_memory, overlaid, started, completed, allocates, load_step, load_torn, old_or_new, takes_write, memory_written, memory_torn}
use Rattle.knx_model.specs.Device.{NonVolatile, Effect, Loads, Stores, Nothing, loadable, with_loadable, segment_base, object_at, at_address, whole, torn, effect_in, all_loaded, HasCapacities}
use Rattle.knx_model.specs.DeviceFrames.{Outcome, Whole, Torn, Worn, kept_after}
use Rattle.device_sim.specs.declared.wear.Memory.{Memory}
use Rattle.device_sim.specs.Indexed.{IsIndexed}
use Rattle.device_sim.specs.Wear.{outcome, served_kept}

-- ---- one object that is Loaded before and after

loaded_is : (state : LoadState) → is_loaded state ≡ true → state ≡ Loaded
loaded_is Unloaded h = absurd (false≢true h)
loaded_is Loaded h = refl
loaded_is Loading h = absurd (false≢true h)
loaded_is Error h = absurd (false≢true h)

not_loading : (state : LoadState) → is_loaded state ≡ true → is_loading state ≡ false
not_loading state h = ap is_loading (loaded_is state h)

no_write : (p : Loadable) (at n : ℕ) → is_loaded p.state ≡ true → takes_write p at n ≡ false
no_write p at n h = rw (not_loading p.state h) refl

unchanged : (test : Bool) (p q : Loadable) → test ≡ false → (if test then q else p) ≡ p
unchanged true p q h = absurd (false≢true (sym h))
unchanged false p q h = refl

-- load completed leaves a Loaded object
completed_same : (p : Loadable) → is_loaded p.state ≡ true → with_state p (completed p.state) ≡ p
completed_same p h = ap (λ (state : LoadState). with_state p state) (ap completed (loaded_is p.state h) ∙ sym (loaded_is p.state h))

either_stopped : (test : Bool) (p q : Loadable) → is_loaded p.state ≡ false → is_loaded q.state ≡ false → is_loaded (if test then p else q).state ≡ false
either_stopped true p q e f = e
either_stopped false p q e f = f

step_same : (p : Loadable) (e : LoadEvent) → is_loaded p.state ≡ true → is_loaded (load_step p e).state ≡ true → load_step p e ≡ p
step_same p NoOperation was is = refl
step_same p StartLoading was is = absurd (false≢true (sym (ap (λ (state : LoadState). is_loaded (started state)) (loaded_is p.state was)) ∙ is))
step_same p LoadCompleted was is = completed_same p was
step_same p (Allocate n fill) was is =
    absurd (false≢true (sym (either_stopped (allocates p n) (record { state = Loading; len = n; memory = replicate n fill ++ drop n p.memory }) (with_state p Error) refl refl) ∙ is))
step_same p Unload was is = absurd (false≢true is)
step_same p Undefined was is = absurd (false≢true is)

either_same : (fresh : Bool) (p q : Loadable) → (is_loaded q.state ≡ true → q ≡ p) → is_loaded (old_or_new fresh p q).state ≡ true → old_or_new fresh p q ≡ p
either_same true p q same is = same is
either_same false p q same is = refl

torn_same : (p : Loadable) (e : LoadEvent) (fresh : Bool) (octets : List ℕ) → is_loaded p.state ≡ true → is_loaded (load_torn p e fresh octets).state ≡ true → load_torn p e fresh octets ≡ p
torn_same p NoOperation fresh octets was is = refl
torn_same p StartLoading fresh octets was is = either_same fresh p (load_step p StartLoading) (step_same p StartLoading was) is
torn_same p LoadCompleted fresh octets was is = either_same fresh p (load_step p LoadCompleted) (step_same p LoadCompleted was) is
torn_same p Unload fresh octets was is = either_same fresh p (load_step p Unload) (step_same p Unload was) is
torn_same p Undefined fresh octets was is = either_same fresh p (load_step p Undefined) (step_same p Undefined was) is
torn_same p (Allocate n fill) fresh octets was is = filling (allocates p n) is
  where
    filling : (test : Bool) → is_loaded (if test then record { state = Loading; len = if fresh then n else p.len; memory = overlaid p.memory 0 (take n octets) } else old_or_new fresh p (with_state p Error)).state ≡ true
        → (if test then record { state = Loading; len = if fresh then n else p.len; memory = overlaid p.memory 0 (take n octets) } else old_or_new fresh p (with_state p Error)) ≡ p
    filling true e = absurd (false≢true e)
    filling false e = either_same fresh p (with_state p Error) (λ stopped. absurd (false≢true stopped)) e

-- ---- all four

each_loaded : (nv : NonVolatile) (o : LoadableObject) → all_loaded nv ≡ true → is_loaded (loadable nv o).state ≡ true
each_loaded nv o h =
    let last = and_parts (is_loaded nv.address_table.state && is_loaded nv.association_table.state && is_loaded nv.group_objects.state) (is_loaded nv.application.state) h in
    let third = and_parts (is_loaded nv.address_table.state && is_loaded nv.association_table.state) (is_loaded nv.group_objects.state) last.0 in
    let first = and_parts (is_loaded nv.address_table.state) (is_loaded nv.association_table.state) third.0 in
    elim o as (λ o. is_loaded (loadable nv o).state ≡ true) [ AddressTable ↦ first.0 | AssociationTable ↦ first.1 | GroupObjects ↦ third.1 | Application ↦ last.1 ]

with_itself : (nv : NonVolatile) (o : LoadableObject) (p : Loadable) → p ≡ loadable nv o → with_loadable nv o p ≡ nv
with_itself nv o p same = ap (with_loadable nv o) same ∙ elim o as (λ o. with_loadable nv o (loadable nv o) ≡ nv) [ AddressTable ↦ refl | AssociationTable ↦ refl | GroupObjects ↦ refl | Application ↦ refl ]

taken_back : (nv : NonVolatile) (o : LoadableObject) (p : Loadable) → loadable (with_loadable nv o p) o ≡ p
taken_back nv AddressTable p = refl
taken_back nv AssociationTable p = refl
taken_back nv GroupObjects p = refl
taken_back nv Application p = refl

-- the object that changed is Loaded too
changed_loaded : (nv : NonVolatile) (o : LoadableObject) (p : Loadable) → all_loaded (with_loadable nv o p) ≡ true → is_loaded p.state ≡ true
changed_loaded nv o p h = sym (ap (λ (q : Loadable). is_loaded q.state) (taken_back nv o p)) ∙ each_loaded (with_loadable nv o p) o h

written_nowhere : (nv : NonVolatile) (a : ℕ) (change : Loadable → ℕ → Loadable) → ((p : Loadable) (at : ℕ) → is_loaded p.state ≡ true → change p at ≡ p) → all_loaded nv ≡ true → at_address nv a change ≡ nv
written_nowhere nv a change same h =
    elim (object_at a) as (λ found. (elim found as (λ _. NonVolatile) [ None ↦ nv | Some o ↦ with_loadable nv o (change (loadable nv o) (a - segment_base o)) ]) ≡ nv)
    [ None ↦ refl | Some o ↦ with_itself nv o (change (loadable nv o) (a - segment_base o)) (same (loadable nv o) (a - segment_base o) (each_loaded nv o h)) ]

whole_same : (nv : NonVolatile) (e : Effect) → all_loaded nv ≡ true → all_loaded (whole nv e) ≡ true → whole nv e ≡ nv
whole_same nv (Loads o e) was is = with_itself nv o (load_step (loadable nv o) e) (step_same (loadable nv o) e (each_loaded nv o was) (changed_loaded nv o (load_step (loadable nv o) e) is))
whole_same nv (Stores a octets) was is = written_nowhere nv a (λ p at. memory_written p at octets) (λ p at h. unchanged (takes_write p at (length octets)) p (with_memory p (overlaid p.memory at octets)) (no_write p at (length octets) h)) was
whole_same nv Nothing was is = refl

torn_kept_same : (nv : NonVolatile) (e : Effect) (fresh : Bool) (octets : List ℕ) → all_loaded nv ≡ true → all_loaded (torn nv e fresh octets) ≡ true → torn nv e fresh octets ≡ nv
torn_kept_same nv (Loads o e) fresh octets was is =
    with_itself nv o (load_torn (loadable nv o) e fresh octets) (torn_same (loadable nv o) e fresh octets (each_loaded nv o was) (changed_loaded nv o (load_torn (loadable nv o) e fresh octets) is))
torn_kept_same nv (Stores a asked) fresh octets was is =
    written_nowhere nv a (λ p at. memory_torn p at (length asked) octets) (λ p at h. unchanged (takes_write p at (length asked)) p (with_memory p (overlaid p.memory at (take (length asked) octets))) (no_write p at (length asked) h)) was
torn_kept_same nv Nothing fresh octets was is = refl

kept_same : (nv : NonVolatile) (e : Effect) (outcome : Outcome) → all_loaded nv ≡ true → all_loaded (kept_after nv e outcome) ≡ true → kept_after nv e outcome ≡ nv
kept_same nv e Whole was is = whole_same nv e was is
kept_same nv e (Torn fresh octets) was is = torn_kept_same nv e fresh octets was is
kept_same nv (Loads o e) (Worn octets) was is = whole_same nv (Loads o e) was is
kept_same nv (Stores a asked) (Worn octets) was is = torn_kept_same nv (Stores a asked) true octets was is
kept_same nv Nothing (Worn octets) was is = refl

-- ---- the index

-- the index of a device that runs is one of its tables after an effect too
still_indexed : (nv new : NonVolatile) (e : Effect) (outcome : Outcome) (index : List (ℕ × ℕ)) → new ≡ kept_after nv e outcome → IsIndexed nv index → all_loaded nv ≡ true → IsIndexed new index
still_indexed nv new e outcome index is h was = record {
  running = λ runs.
      let same : nv ≡ new = sym (is ∙ kept_same nv e outcome was (sym (ap all_loaded is) ∙ runs)) in
      (subst (λ kept. IsIndexed kept index) same h).running runs;
}

pub served_indexed : (nv new : NonVolatile) (octets : List ℕ) (memory : Memory) (index : List (ℕ × ℕ)) → new ≡ served_kept nv octets memory → IsIndexed nv index → all_loaded nv ≡ true → IsIndexed new index
served_indexed nv new octets memory index is h was = still_indexed nv new (effect_in octets) (outcome memory (effect_in octets)) index is h was

pub torn_indexed : (nv new : NonVolatile) (e : Effect) (fresh : Bool) (octets : List ℕ) (index : List (ℕ × ℕ)) → new ≡ torn nv e fresh octets → IsIndexed nv index → all_loaded nv ≡ true → IsIndexed new index
torn_indexed nv new e fresh octets index is h was = still_indexed nv new e (Torn fresh octets) index is h was

-- the association table is one of at most 8,192 octets
pub table_fits : (nv : NonVolatile) → HasCapacities nv → length (octets_of nv.association_table) ≤ 8192
table_fits nv h = omega (arith, length-take nv.association_table.len nv.association_table.memory, h.assoc)
