-- A device that takes a group telegram acts right.
use Rattle.std.proofs.Common.{ℕ, ◌≡◌, ◌<◌, List, ◌++◌, Bool, true, false, not, ◌&&◌, ◌==◌, Option, Some, None, refl, sym, ap, subst, ◌∙◌, arith, if◌then◌else◌, zero-add, append-nil}
use Rattle.std.specs.Prelude.{nat_le}
use Rattle.std.specs.Option.{option_map_or}
use Rattle.std.proofs.lemmas.List.FromFn.{get_or-map-range_with_len}
use Rattle.knx_model.specs.declared.config.Image.{Image}
use Rattle.knx_model.specs.declared.config.ObjSpec.{ObjSpec}
use Rattle.knx_model.specs.declared.device.Took.{Took}
use Rattle.knx_model.specs.declared.device.Took.TheVariants.{NotMine, TooLong, Taken, Off}
use Rattle.knx_model.specs.declared.frames.cemi.Ldata.{Ldata}
use Rattle.knx_model.specs.declared.frames.value.Value.{Value}
use Rattle.knx_model.specs.declared.script.GroupService.{GroupService}
use Rattle.knx_model.specs.declared.script.GroupService.TheVariants.{Read, Write, Response}
use Rattle.knx_model.specs.Acts.{is_written, is_linked_in, object_in_table, objects, is_object_number, accepts, answerer}
use Rattle.knx_model.specs.ApduReading.{service_in}
use Rattle.knx_model.specs.Device.{runs}
use Rattle.knx_model.specs.DeviceFrames.{Whole, took_of, takes, takes_so, taken_alone, is_too_long, taken_group, group_service, telegram_acted, telegram_taken, answered_by, with_response}
use Rattle.knx_model.specs.DeviceState.{DeviceState, value_of, value_at, value_in_image, value_or_zero, slot, written_values}
use Rattle.telegram_law.proofs.Long.{no_service}
use Rattle.knx_model.specs.Tables.{at_place}
use Rattle.line_model.specs.Telegrams.{value_after, brought, response_of, responses, ActsRight, ActsByImage}

abbrev with_last : DeviceState → Ldata → DeviceState
with_last d frame = record d { last = Some frame }

-- ---- values

slot_after : (writes : ℕ → Bool) (value : Value) (values : List (Option Value)) (o : ℕ) → o < 256 → slot (written_values writes value values) o ≡ (if writes o then Some value else slot values o)
unfolding written_values
slot_after writes value values o h = get_or-map-range_with_len (λ (n : ℕ). if writes n then Some value else slot values n) 0 256 o o None h (zero-add o)

-- an object of the table
has_value : (b : Bool) (service : GroupService) (value : Value) (old new : Option Value) (size : ℕ) → brought service ≡ Some value → new ≡ (if b then Some value else old) → Some (value_or_zero new size) ≡ value_after b service (Some (value_or_zero old size))
has_value true service value old new size e h = ap (λ (v : Option Value). Some (value_or_zero v size)) h ∙ sym e
has_value false service value old new size e h = ap (λ (v : Option Value). Some (value_or_zero v size)) h

absent : (linked : Bool) (service : GroupService) → None ≡ value_after (linked && false) service None
absent true service = refl
absent false service = refl

-- of a number that is an object's or not
value_is : (linked : Bool) (takes_it : ObjSpec → Bool) (spec : Option ObjSpec) (service : GroupService) (value : Value) (old new : List (Option Value)) (o : ℕ) → brought service ≡ Some value
    → ((object : ObjSpec) → spec ≡ Some object → slot new o ≡ (if linked && takes_it object then Some value else slot old o))
    → value_at new o spec ≡ value_after (linked && option_map_or takes_it spec false) service (value_at old o spec)
value_is linked takes_it None service value old new o e h = absent linked service
value_is linked takes_it (Some object) service value old new o e h = has_value (linked && takes_it object) service value (slot old o) (slot new o) object.size e (h object refl)

small : (b : Bool) (o : ℕ) (found : Option ObjSpec) (object : ObjSpec) → (nat_le 1 o && nat_le o 255) ≡ b → (if b then found else None) ≡ Some object → o < 256
small false o found object e h = cc
small true o found object e h = grind arith

is_small : (image : Image) (o : ℕ) (object : ObjSpec) → object_in_table image.objs o ≡ Some object → o < 256
is_small image o object h = small (is_object_number o) o (at_place (objects image.objs) o) object refl h

-- ---- a running device

-- with the same content, the value of an object is by its values
seen : (d e : DeviceState) (image : Image) (o : ℕ) → e.kept ≡ d.kept → runs d.kept ≡ Some image → value_of e o ≡ value_at e.values o (object_in_table image.objs o)
seen d e image o k r = ap (λ (x : Option Image). value_in_image e.values o x) (ap runs k ∙ r)

-- a read is written nowhere
unread : (linked : Bool) (spec : Option ObjSpec) (old : Option Value) → value_after (linked && option_map_or (accepts Read) spec false) Read old ≡ old
unread false spec old = refl
unread true None old = refl
unread true (Some object) old = refl

responded : (d : DeviceState) (group : ℕ) (value : Option Value) (frame : Ldata) (o : ℕ) → value_of (with_last (with_response d group value) frame) o ≡ value_of d o
responded d group None frame o = refl
responded d group (Some value) frame o = refl

answered : (d : DeviceState) (group : ℕ) (object : Option ℕ) (frame : Ldata) (o : ℕ) → value_of (with_last (answered_by d group object) frame) o ≡ value_of d o
answered d group None frame o = refl
answered d group (Some n) frame o = responded d group (value_of d n) frame o

response_unsent : (d : DeviceState) (group : ℕ) (value : Option Value) → (with_response d group value).unsent ≡ d.unsent ++ response_of d group value
response_unsent d group None = sym (append-nil d.unsent)
response_unsent d group (Some value) = refl

answer_unsent : (d : DeviceState) (group : ℕ) (object : Option ℕ) → (answered_by d group object).unsent ≡ d.unsent ++ responses d group object
answer_unsent d group None = sym (append-nil d.unsent)
answer_unsent d group (Some n) = response_unsent d group (value_of d n)

-- the value that a write or a response brings
writes_right : (d e : DeviceState) (image : Image) (group : ℕ) (service : GroupService) (value : Value) → brought service ≡ Some value → answerer image group service ≡ None
    → e.kept ≡ d.kept → e.values ≡ written_values (is_written image group service) value d.values → e.unsent ≡ d.unsent → runs d.kept ≡ Some image
    → ActsRight (is_written image group service) (answerer image group service) group service d e
writes_right d e image group service value b a k v u r = record {
  values = λ o. seen d e image o k r
      ∙ value_is (is_linked_in image.addr image.assoc group o) (accepts service) (object_in_table image.objs o) service value d.values e.values o b
      (λ object there. ap (λ (vs : List (Option Value)). slot vs o) v ∙ slot_after (is_written image group service) value d.values o (is_small image o object there)
      ∙ ap (λ (x : Option ObjSpec). if is_linked_in image.addr image.assoc group o && option_map_or (accepts service) x false then Some value else slot d.values o) there)
      ∙ ap (λ (x : Option Value). value_after (is_written image group service o) service x) (sym (seen d d image o refl r));
  unsent = u ∙ sym (append-nil d.unsent) ∙ ap (λ (x : Option ℕ). d.unsent ++ responses d group x) (sym a);
}

tells_right : (d : DeviceState) (image : Image) (group : ℕ) (service : GroupService) (frame : Ldata) → runs d.kept ≡ Some image
    → ActsRight (is_written image group service) (answerer image group service) group service d (with_last (telegram_acted d image group service) frame)
tells_right d image group Read frame r = record {
  values = λ o. answered d group (answerer image group Read) frame o ∙ sym (unread (is_linked_in image.addr image.assoc group o) (object_in_table image.objs o) (value_of d o));
  unsent = answer_unsent d group (answerer image group Read);
}
tells_right d image group (Write value) frame r = writes_right d (with_last (telegram_acted d image group (Write value)) frame) image group (Write value) value refl refl refl refl refl r
tells_right d image group (Response value) frame r = writes_right d (with_last (telegram_acted d image group (Response value)) frame) image group (Response value) value refl refl refl refl refl r

does_nothing : (d : DeviceState) (group : ℕ) (image : Option Image) → ActsByImage group None image d d
does_nothing d group None = record { values = λ o. refl; unsent = refl }
does_nothing d group (Some image) = record { values = λ o. refl; unsent = refl }

-- whether it runs or not, and whatever the service
acts_so : (d : DeviceState) (group : ℕ) (image : Option Image) (service : Option GroupService) (frame : Ldata) → runs d.kept ≡ image
    → ActsByImage group service image d (with_last (telegram_taken d group image service) frame)
acts_so d group None service frame r = record { values = λ o. refl; unsent = refl }
acts_so d group (Some image) None frame r = record { values = λ o. refl; unsent = refl }
acts_so d group (Some image) (Some service) frame r = tells_right d image group service frame r

-- ---- a frame that comes to it: a standard device takes no long one

abbrev took_or : Bool → Took
took_or true = TooLong
took_or false = Taken

-- which of the answers it is
took_so : (power group here long : Bool) → power ≡ true → group ≡ true
    → (if not power then Off else (if not group && not here then NotMine else (if long then TooLong else Taken))) ≡ took_or long
took_so true true here true p g = refl
took_so true true here false p g = refl
took_so true false here long p g = cc
took_so false group here long p g = cc

took_is : (d : DeviceState) (frame : Ldata) → d.power ≡ true → frame.group ≡ true → took_of d frame ≡ took_or (is_too_long d.frames frame)
took_is d frame p g = took_so d.power frame.group (frame.destination == d.address.raw) (is_too_long d.frames frame) p g

after_group : (d : DeviceState) (frame : Ldata) (now : ℕ) (b : Bool) → b ≡ true → record (if b then taken_group d frame else taken_alone d frame now Whole) { last = Some frame } ≡ with_last (taken_group d frame) frame
after_group d frame now true e = refl
after_group d frame now false e = cc

came_so : (d : DeviceState) (frame : Ldata) (now : ℕ) (long : Bool) → is_too_long d.frames frame ≡ long → d.power ≡ true → frame.group ≡ true
    → ActsByImage frame.destination (group_service (service_in frame.tpdu)) (runs d.kept) d (takes d frame now Whole)
came_so d frame now true l p g =
    let took = took_is d frame p g ∙ ap took_or l in
    let stays : takes d frame now Whole ≡ d = ap (takes_so d frame now Whole) took in
    let P : DeviceState → Type 0 = ActsByImage frame.destination (group_service (service_in frame.tpdu)) (runs d.kept) d in
    let Q : Option GroupService → Type 0 = λ service. ActsByImage frame.destination service (runs d.kept) d d in
    subst P (sym stays) (subst Q (sym (no_service d.frames frame l)) (does_nothing d frame.destination (runs d.kept)))
came_so d frame now false l p g =
    let took = took_is d frame p g ∙ ap took_or l in
    let taken : takes d frame now Whole ≡ with_last (taken_group d frame) frame = ap (takes_so d frame now Whole) took ∙ after_group d frame now frame.group g in
    let P : DeviceState → Type 0 = ActsByImage frame.destination (group_service (service_in frame.tpdu)) (runs d.kept) d in
    subst P (sym taken) (acts_so d frame.destination (runs d.kept) (group_service (service_in frame.tpdu)) frame refl)

-- a device with power that gets a group telegram
pub acts_right : (d : DeviceState) (frame : Ldata) (now : ℕ) → d.power ≡ true → frame.group ≡ true
    → ActsByImage frame.destination (group_service (service_in frame.tpdu)) (runs d.kept) d (takes d frame now Whole)
acts_right d frame now p g = came_so d frame now (is_too_long d.frames frame) refl p g
