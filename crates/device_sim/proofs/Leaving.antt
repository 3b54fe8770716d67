-- What a frame leaves of what a device keeps.
use Rattle.std.proofs.Common.{ℕ, ◌≡◌, ◌-◌, List, length, Bool, true, false, not, ◌&&◌, Option, Some, None, refl, ap, ◌∙◌, if◌then◌else◌}
use Rattle.knx_model.specs.declared.connection.DeviceTook.{DeviceTook}
use Rattle.knx_model.specs.declared.connection.DeviceTook.TheVariants as took
use Rattle.knx_model.specs.declared.device.Took.{Took}
use Rattle.knx_model.specs.declared.device.Took.TheVariants.{NotMine, TooLong, Taken, Off}
use Rattle.knx_model.specs.declared.device.WriteKind.{WriteKind}
use Rattle.knx_model.specs.declared.device.WriteKind.TheVariants as kind
use Rattle.knx_model.specs.declared.frames.cemi.Ldata.{Ldata}
use Rattle.knx_model.specs.declared.loading.LoadEvent.{LoadEvent}
use Rattle.knx_model.specs.declared.loading.LoadEvent.TheVariants.{NoOperation, StartLoading, LoadCompleted, Allocate, Unload, Undefined}
use Rattle.knx_model.specs.declared.loading.LoadableObject.{LoadableObject}
use Rattle.knx_model.specs.declared.loading.LoadableObject.TheVariants.{AddressTable, AssociationTable, GroupObjects, Application}
use Rattle.knx_model.specs.DeviceConnection.{DeviceEnd}
use Rattle.knx_model.specs.Loading.{Loadable, takes_write, with_memory, overlaid, memory_written}
use Rattle.knx_model.specs.Device.{NonVolatile, Effect, Loads, Stores, Nothing, loadable, with_loadable, segment_base, object_at, whole, is_write, effect_in}
use Rattle.knx_model.specs.DeviceState.{DeviceState}
use Rattle.knx_model.specs.DeviceFrames.{Outcome, Whole, took_of, takes, takes_so, connection_took, is_taken, effect_delivered, effect_of_frame, kept_after, write_kind, would_write}
use Rattle.device_sim.specs.Delivery.{Delivers}
use Rattle.device_sim.proofs.Taken.{kept_is, effect_of_nothing, after_group, group_keeps}

-- ---- group telegrams

-- what a group telegram leaves as it was
pub record Stays (d e : DeviceState) : Type 0 where
  pub kept : ◌≡◌ {A = NonVolatile} e.kept d.kept
  pub power : e.power ≡ d.power
  pub connection : ◌≡◌ {A = DeviceEnd} e.connection d.connection

same_device : (d : DeviceState) → Stays d d
same_device d = record { kept = refl; power = refl; connection = refl }

group_stays_so : (d : DeviceState) (frame : Ldata) (now : ℕ) (t : Took) → frame.group ≡ true → Stays d (takes_so d frame now Whole t)
group_stays_so d frame now Taken h = record {
  kept = ap (λ (x : DeviceState). x.kept) (after_group d frame now Whole h) ∙ ap (λ (x : DeviceState). x.kept) (group_keeps d frame);
  power = ap (λ (x : DeviceState). x.power) (after_group d frame now Whole h) ∙ ap (λ (x : DeviceState). x.power) (group_keeps d frame);
  connection = ap (λ (x : DeviceState). x.connection) (after_group d frame now Whole h) ∙ ap (λ (x : DeviceState). x.connection) (group_keeps d frame);
}
group_stays_so d frame now NotMine h = same_device d
group_stays_so d frame now TooLong h = same_device d
group_stays_so d frame now Off h = same_device d

-- a group telegram leaves what is kept, power and connection
pub group_stays : (d : DeviceState) (frame : Ldata) (now : ℕ) → frame.group ≡ true → Stays d (takes d frame now Whole)
group_stays d frame now h = group_stays_so d frame now (took_of d frame) h

-- ---- delivered services

delivers_so : (t : Took) (g : Bool) (answer : DeviceTook) (apdu ack : List ℕ) → t ≡ Taken → g ≡ false → answer ≡ took.Apdu apdu ack → (if is_taken t && not g then effect_delivered answer else Nothing) ≡ effect_in apdu
delivers_so t g answer apdu ack a b c = rw a (rw b (rw c refl))

-- where the connection delivers a service, its effect acts on what is kept
pub delivered : (d : DeviceState) (frame : Ldata) (now : ℕ) (outcome : Outcome) (apdu : List ℕ) → Delivers d frame apdu → ◌≡◌ {A = NonVolatile} (takes d frame now outcome).kept (kept_after d.kept (effect_in apdu) outcome)
delivered d frame now outcome apdu h =
    kept_is d frame now outcome ∙ ap (λ (e : Effect). kept_after d.kept e outcome) (delivers_so (took_of d frame) frame.group (connection_took d frame) apdu h.2.0 h.0 h.1 h.2.1)

without : (t : Took) (g : Bool) (answer : DeviceTook) → ((apdu : List ℕ) → ¬ ((t ≡ Taken) × (g ≡ false) × ((ack : List ℕ) × (answer ≡ took.Apdu apdu ack)))) → (if is_taken t && not g then effect_delivered answer else Nothing) ≡ Nothing
without Taken true answer h = refl
without Taken false took.Dropped h = refl
without Taken false took.Connected h = refl
without Taken false (took.Apdu apdu ack) h = absurd (h apdu (refl, refl, (ack, refl)))
without Taken false (took.Again ack) h = refl
without Taken false (took.Nak nak) h = refl
without Taken false took.Acked h = refl
without Taken false (took.Closed answer) h = refl
without NotMine g answer h = refl
without TooLong g answer h = refl
without Off g answer h = refl

-- where it delivers none, all that is kept stays
pub undelivered : (d : DeviceState) (frame : Ldata) (now : ℕ) (outcome : Outcome) → ((apdu : List ℕ) → ¬ Delivers d frame apdu) → ◌≡◌ {A = NonVolatile} (takes d frame now outcome).kept d.kept
undelivered d frame now outcome h =
    kept_is d frame now outcome ∙ ap (λ (e : Effect). kept_after d.kept e outcome) (without (took_of d frame) frame.group (connection_took d frame) h) ∙ effect_of_nothing d.kept outcome

-- ---- writes

same_loadable : (nv : NonVolatile) (o : LoadableObject) → with_loadable nv o (loadable nv o) ≡ nv
same_loadable nv AddressTable = refl
same_loadable nv AssociationTable = refl
same_loadable nv GroupObjects = refl
same_loadable nv Application = refl

some_kind : (k : WriteKind) (nv old : NonVolatile) → Some k ≡ None → nv ≡ old
some_kind k nv old h = absurd (cc)

not_written : (nv : NonVolatile) (o : LoadableObject) (p : Loadable) (v : Bool) → (if v then Some kind.Memory else None) ≡ None → with_loadable nv o (if v then p else loadable nv o) ≡ nv
not_written nv o p true h = some_kind kind.Memory (with_loadable nv o p) nv h
not_written nv o p false h = same_loadable nv o

no_store : (nv : NonVolatile) (a : ℕ) (octets : List ℕ) (found : Option LoadableObject)
    → (if (elim found as (λ _. Bool) [ None ↦ false | Some o ↦ takes_write (loadable nv o) (a - segment_base o) (length octets) ]) then Some kind.Memory else None) ≡ None
    → (elim found as (λ _. NonVolatile) [ None ↦ nv | Some o ↦ with_loadable nv o (memory_written (loadable nv o) (a - segment_base o) octets) ]) ≡ nv
no_store nv a octets None h = refl
no_store nv a octets (Some o) h =
    not_written nv o (with_memory (loadable nv o) (overlaid (loadable nv o).memory (a - segment_base o) octets)) (takes_write (loadable nv o) (a - segment_base o) (length octets)) h

no_load : (nv : NonVolatile) (o : LoadableObject) (event : LoadEvent) → (if is_write nv (Loads o event) then write_kind (Loads o event) else None) ≡ None → whole nv (Loads o event) ≡ nv
no_load nv o NoOperation h = same_loadable nv o
no_load nv o StartLoading h = some_kind kind.Load (whole nv (Loads o StartLoading)) nv h
no_load nv o LoadCompleted h = some_kind kind.Load (whole nv (Loads o LoadCompleted)) nv h
no_load nv o (Allocate size fill) h = some_kind kind.Load (whole nv (Loads o (Allocate size fill))) nv h
no_load nv o Unload h = some_kind kind.Load (whole nv (Loads o Unload)) nv h
no_load nv o Undefined h = some_kind kind.Load (whole nv (Loads o Undefined)) nv h

-- an effect that is no write changes nothing
no_write : (nv : NonVolatile) (e : Effect) → (if is_write nv e then write_kind e else None) ≡ None → whole nv e ≡ nv
no_write nv (Loads o event) h = no_load nv o event h
no_write nv (Stores a octets) h = no_store nv a octets (object_at a) h
no_write nv Nothing h = refl

pub unwritten : (d : DeviceState) (frame : Ldata) (now : ℕ) → would_write d frame ≡ None → ◌≡◌ {A = NonVolatile} (takes d frame now Whole).kept d.kept
unwritten d frame now h = kept_is d frame now Whole ∙ no_write d.kept (effect_of_frame d frame) h

-- what the effect of a write is
is_store : (v : Bool) (e : Effect) → (if v then write_kind e else None) ≡ Some kind.Memory → (address : ℕ) × ((octets : List ℕ) × (e ≡ Stores address octets))
is_store true (Loads o event) h = absurd (cc)
is_store true (Stores a octets) h = (a, (octets, refl))
is_store true Nothing h = absurd (cc)
is_store false e h = absurd (cc)

is_load : (v : Bool) (e : Effect) → (if v then write_kind e else None) ≡ Some kind.Load → (o : LoadableObject) × ((event : LoadEvent) × (e ≡ Loads o event))
is_load true (Loads o event) h = (o, (event, refl))
is_load true (Stores a octets) h = absurd (cc)
is_load true Nothing h = absurd (cc)
is_load false e h = absurd (cc)

pub memory_write : (d : DeviceState) (frame : Ldata) → would_write d frame ≡ Some kind.Memory → (address : ℕ) × ((octets : List ℕ) × (effect_of_frame d frame ≡ Stores address octets))
memory_write d frame h = is_store (is_write d.kept (effect_of_frame d frame)) (effect_of_frame d frame) h

pub load_write : (d : DeviceState) (frame : Ldata) → would_write d frame ≡ Some kind.Load → (o : LoadableObject) × ((event : LoadEvent) × (effect_of_frame d frame ≡ Loads o event))
load_write d frame h = is_load (is_write d.kept (effect_of_frame d frame)) (effect_of_frame d frame) h
