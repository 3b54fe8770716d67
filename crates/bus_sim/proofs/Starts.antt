-- A run on which nothing has happened.
use Rattle.std.proofs.Common.{◌≡◌, ◌≢◌, ℕ, ◌==◌, Bool, true, false, List, [], ◌∷◌, Option, Some, None, refl, ap, sym, subst, ◌∙◌, arith, if◌then◌else◌}
use Rattle.std.specs.Prelude.{IfSome, ◌-◌, ◌≤◌, length, replicate, ◌%◌}
use Rattle.std.proofs.lemmas.List.{get_or-replicate, length-append, length-replicate}
use Rattle.knx_model.specs.declared.address.IndAddr.{IndAddr}
use Rattle.knx_model.specs.declared.config.Image.{Image}
use Rattle.knx_model.specs.declared.loading.LoadableObject.TheVariants.{AddressTable, AssociationTable, GroupObjects, Application}
use Rattle.knx_model.specs.Device.{Fits, HasCapacities, capacity}
use Rattle.knx_model.specs.DeviceState.{DeviceState, blank_object, loaded_object}
use Rattle.knx_model.specs.Loading.{capacity_of}
use Rattle.line_model.specs.Fresh.{IsFresh, IsAtRest}
use Rattle.line_model.specs.Lines.{Script}
use Rattle.line_model.specs.Owed.{Owed}
use Rattle.line_model.specs.StartOf.{line_of}
use Rattle.line_sim.specs.Line.{LineNow, IsNow}
use Rattle.script_index.specs.declared.index.ScriptIndex.{ScriptIndex}
use Rattle.script_index.specs.Stands.{StandsFor}
use Rattle.bus_sim.specs.declared.beginning.Beginning.{Beginning}
use Rattle.bus_sim.specs.Begun.{CanLoad, begins, device_begun, said, start_of}
use Rattle.bus_sim.specs.Counted.{CountsNow, AreCounts, counts_at, counts_in, none_counted, nothing_counted}
use Rattle.bus_sim.specs.Held.{IsHeld, IsLoaded}
use Rattle.bus_sim.proofs.Numbered.{begin_numbered}

none_some : {A : Type 0} {x : A} → None ≡ Some x → ⊥
none_some e = cc

same_number : (a b : ℕ) → (a == b) ≡ true → a ≡ b
same_number a b e = grind arith

-- its memories are as long as their capacities
blank_capacity : (size : ℕ) → capacity_of (blank_object size) ≡ size
unfolding blank_object
blank_capacity size = length-replicate {A = ℕ} size 0

loaded_capacity : (size : ℕ) (list : List ℕ) → length list ≤ size → capacity_of (loaded_object size list) ≡ size
loaded_capacity size list fits = omega (arith, length-append list (replicate (size - length list) 0), length-replicate {A = ℕ} (size - length list) 0, fits)

begins_with_memories : (script : Script) (address : IndAddr) (image : Option Image) → IfSome image Fits → HasCapacities (begins script address image).kept
begins_with_memories script address None fits =
    record { addr = blank_capacity (capacity AddressTable); assoc = blank_capacity (capacity AssociationTable); objs = blank_capacity (capacity GroupObjects); params = blank_capacity (capacity Application) }
begins_with_memories script address (Some image) fits = record {
  addr = loaded_capacity (capacity AddressTable) image.addr fits.addr;
  assoc = loaded_capacity (capacity AssociationTable) image.assoc fits.assoc;
  objs = loaded_capacity (capacity GroupObjects) image.objs fits.objs;
  params = loaded_capacity (capacity Application) image.params fits.params;
}

begins_at_rest : (script : Script) (address : IndAddr) (image : Option Image) (a : ℕ) → IfSome image Fits → a ≡ address.raw → IsAtRest a (begins script address image)
begins_at_rest script address None a fits e = record { capacities = begins_with_memories script address None fits; named = sym e; unconnected = refl; nothing_unsent = refl; nothing_got = refl }
begins_at_rest script address (Some image) a fits e = record { capacities = begins_with_memories script address (Some image) fits; named = sym e; unconnected = refl; nothing_unsent = refl; nothing_got = refl }

all_at_rest : (script : Script) (tunnel : IndAddr) (devices : List (IndAddr × Option Image)) (a : ℕ) (d : DeviceState) → CanLoad tunnel devices → device_begun script devices a ≡ Some d → IsAtRest a d
all_at_rest script tunnel [] a d can e = absurd (none_some e)
all_at_rest script tunnel (x ∷ devices) a d can e = by_test (a == x.0.raw) refl e (all_at_rest script tunnel devices a d can.1)
  where
    by_test : (t : Bool) → (a == x.0.raw) ≡ t → (if t then Some (begins script x.0 x.1) else device_begun script devices a) ≡ Some d → (device_begun script devices a ≡ Some d → IsAtRest a d) → IsAtRest a d
    by_test true f e rest = let same : begins script x.0 x.1 ≡ d = cc in subst (IsAtRest a) same (begins_at_rest script x.0 x.1 a can.0.image (same_number a x.0.raw f))
    by_test false f e rest = rest e

-- there is none of another line
none_elsewhere : (script : Script) (tunnel : IndAddr) (devices : List (IndAddr × Option Image)) (a : ℕ) → CanLoad tunnel devices → line_of a ≢ line_of tunnel.raw → device_begun script devices a ≡ None
none_elsewhere script tunnel [] a can off = refl
none_elsewhere script tunnel (x ∷ devices) a can off = by_test (a == x.0.raw) refl (none_elsewhere script tunnel devices a can.1 off)
  where
    by_test : (t : Bool) → (a == x.0.raw) ≡ t → device_begun script devices a ≡ None → (if t then Some (begins script x.0 x.1) else device_begun script devices a) ≡ None
    by_test true f rest = absurd (off (ap line_of (same_number a x.0.raw f) ∙ can.0.line))
    by_test false f rest = rest

zero_at : (line address : ℕ) → counts_at (nothing_counted line) address ≡ none_counted
zero_at line address = by_test (line_of address == line)
  where
    by_test : (t : Bool) → (if t then counts_in (replicate 256 none_counted) (address % 256) else none_counted) ≡ none_counted
    by_test true = get_or-replicate 256 (address % 256) none_counted none_counted (omega arith)
    by_test false = refl

pub fresh_start : (b : Beginning) → CanLoad b.tunnel b.devices → IsFresh (start_of b)
fresh_start b can = record { tunnel = refl; echo = refl; devices = λ a d e. all_at_rest (said b) b.tunnel b.devices a d can e }

pub held_start : (b : Beginning) (es : List _) (index : ScriptIndex) (n : LineNow) (counts : CountsNow) (owed : List Owed) → IsLoaded b → es ≡ [] → StandsFor index (said b) → IsNow n (start_of b) → counts ≡ nothing_counted (line_of b.tunnel.raw) → owed ≡ []
    → IsHeld (record { begun = b; events = es }) index n counts owed
held_start b es index n counts owed loaded none stands is zero free = subst (λ es. IsHeld (record { begun = b; events = es }) index n counts owed) (sym none) (record {
  loaded = loaded;
  pictured = is;
  indexed = stands;
  counted = subst (λ (c : CountsNow). AreCounts c (start_of b) []) (sym zero) (record { devices = λ a on. zero_at (line_of b.tunnel.raw) a; connects = refl });
  on_line = ap (λ (c : CountsNow). c.line) zero;
  called = free;
  placed = λ a off. none_elsewhere (said b) b.tunnel b.devices a loaded.can (λ same. off (same ∙ sym (ap (λ (c : CountsNow). c.line) zero)));
  few = omega arith;
  keeps = record { fresh = fresh_start b loaded.can; legal = tt; follows = tt };
  numbered = begin_numbered b.clients b.tunnel;
})
