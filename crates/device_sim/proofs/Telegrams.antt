-- What a group telegram does to the values of a device, and what a device answers to it.
use Rattle.std.proofs.Common.{ℕ, ◌≡◌, ◌<◌, List, [], ◌∷◌, ◌++◌, length, Bool, true, false, ◌&&◌, Option, Some, None, refl, sym, ap, ◌∙◌, if◌then◌else◌, zero-add}
use Rattle.std.specs.Option.{option_map_or}
use Rattle.std.proofs.lemmas.List.FromFn.{get_or-map-range_with_len, fill_by_all}
use Rattle.knx_model.specs.declared.config.Image.{Image}
use Rattle.knx_model.specs.declared.config.ObjSpec.{ObjSpec}
use Rattle.knx_model.specs.declared.device.Took.TheVariants.{Taken}
use Rattle.knx_model.specs.declared.frames.cemi.Ldata.{Ldata}
use Rattle.knx_model.specs.declared.frames.value.Value.{Value}
use Rattle.knx_model.specs.declared.script.GroupService.{GroupService}
use Rattle.knx_model.specs.declared.script.GroupService.TheVariants.{Read, Write, Response}
use Rattle.knx_model.specs.Acts.{is_written, is_linked_in, object_in_table, accepts, answerer}
use Rattle.knx_model.specs.ApduReading.{service_in}
use Rattle.knx_model.specs.Device.{NonVolatile, runs}
use Rattle.knx_model.specs.DeviceState.{DeviceState, value_of, value_at, value_in_image, value_or_zero, slot, written_values}
use Rattle.knx_model.specs.DeviceFrames.{Whole, took_of, takes, group_service, own_frame, response_octets, telegram_acted, answered_by, with_response}
use Rattle.device_sim.specs.Delivery.{carried}
use Rattle.device_sim.proofs.Leaving.{group_stays}

-- ---- values

slot_after : (writes : ℕ → Bool) (value : Value) (values : List (Option Value)) (o : ℕ) → o < 256 → slot (written_values writes value values) o ≡ (if writes o then Some value else slot values o)
unfolding written_values
slot_after writes value values o h = get_or-map-range_with_len (λ (n : ℕ). if writes n then Some value else slot values n) 0 256 o o None h (zero-add o)

chosen_value : (b : Bool) (value : Value) (old new : Option Value) (size : ℕ) → new ≡ (if b then Some value else old) → Some (value_or_zero new size) ≡ (if b then Some value else Some (value_or_zero old size))
chosen_value true value old new size h = ap (λ (v : Option Value). Some (value_or_zero v size)) h
chosen_value false value old new size h = ap (λ (v : Option Value). Some (value_or_zero v size)) h

value_after : (linked : Bool) (takes_it : ObjSpec → Bool) (spec : Option ObjSpec) (value : Value) (old new : List (Option Value)) (o : ℕ) → slot new o ≡ (if linked && option_map_or takes_it spec false then Some value else slot old o) → value_at new o spec ≡ (if linked && option_map_or takes_it spec false then Some value else value_at old o spec)
value_after false takes_it None value old new o h = refl
value_after true takes_it None value old new o h = refl
value_after false takes_it (Some object) value old new o h = ap (λ (v : Option Value). Some (value_or_zero v object.size)) h
value_after true takes_it (Some object) value old new o h = chosen_value (takes_it object) value (slot old o) (slot new o) object.size h

-- a read is written nowhere
unread : (linked : Bool) (spec : Option ObjSpec) (value other : Option Value) → (if linked && option_map_or (accepts Read) spec false then value else other) ≡ other
unread false spec value other = refl
unread true None value other = refl
unread true (Some object) value other = refl

responded : (d : DeviceState) (group : ℕ) (value : Option Value) → ◌≡◌ {A = List (Option Value)} (with_response d group value).values d.values
responded d group None = refl
responded d group (Some value) = refl

answered_values : (d : DeviceState) (group : ℕ) (object : Option ℕ) → ◌≡◌ {A = List (Option Value)} (answered_by d group object).values d.values
answered_values d group None = refl
answered_values d group (Some o) = responded d group (value_of d o)

acted_value : (d : DeviceState) (image : Image) (group : ℕ) (service : GroupService) (o : ℕ) → o < 256 → value_at (telegram_acted d image group service).values o (object_in_table image.objs o) ≡ (if is_written image group service o then carried service else value_at d.values o (object_in_table image.objs o))
acted_value d image group Read o h =
    ap (λ (values : List (Option Value)). value_at values o (object_in_table image.objs o)) (answered_values d group (answerer image group Read))
    ∙ sym (unread (is_linked_in image.addr image.assoc group o) (object_in_table image.objs o) None (value_at d.values o (object_in_table image.objs o)))
acted_value d image group (Write value) o h =
    value_after (is_linked_in image.addr image.assoc group o) (accepts (Write value)) (object_in_table image.objs o) value d.values (telegram_acted d image group (Write value)).values o (slot_after (is_written image group (Write value)) value d.values o h)
acted_value d image group (Response value) o h =
    value_after (is_linked_in image.addr image.assoc group o) (accepts (Response value)) (object_in_table image.objs o) value d.values (telegram_acted d image group (Response value)).values o (slot_after (is_written image group (Response value)) value d.values o h)

values_after : (d : DeviceState) (frame : Ldata) (now : ℕ) (image : Image) (service : GroupService) → took_of d frame ≡ Taken → frame.group ≡ true → runs d.kept ≡ Some image → group_service (service_in frame.tpdu) ≡ Some service → ◌≡◌ {A = List (Option Value)} (takes d frame now Whole).values (telegram_acted d image frame.destination service).values
values_after d frame now image service t g r s = rw t (rw g (rw r (rw s refl)))

-- at a group telegram an object has the carried value where it is written, and else the value that it had
pub telegram_value : (d : DeviceState) (frame : Ldata) (now : ℕ) (image : Image) (service : GroupService) (o : ℕ) → took_of d frame ≡ Taken → frame.group ≡ true → runs d.kept ≡ Some image → group_service (service_in frame.tpdu) ≡ Some service → o < 256 → value_of (takes d frame now Whole) o ≡ (if is_written image frame.destination service o then carried service else value_of d o)
telegram_value d frame now image service o t g r s h =
    let kept : ◌≡◌ {A = NonVolatile} (takes d frame now Whole).kept d.kept = (group_stays d frame now g).kept in
    let here : value_of (takes d frame now Whole) o ≡ value_in_image (takes d frame now Whole).values o (Some image) = ap (λ (kept : NonVolatile). value_in_image (takes d frame now Whole).values o (runs kept)) kept ∙ ap (λ (runs : Option Image). value_in_image (takes d frame now Whole).values o runs) r in
    let before : value_of d o ≡ value_at d.values o (object_in_table image.objs o) = ap (λ (runs : Option Image). value_in_image d.values o runs) r in
    here
    ∙ ap (λ (values : List (Option Value)). value_at values o (object_in_table image.objs o)) (values_after d frame now image service t g r s)
    ∙ acted_value d image frame.destination service o h
    ∙ ap (λ (v : Option Value). if is_written image frame.destination service o then carried service else v) (sym before)

-- ---- devices that don't run, and reads

pub not_running : (d : DeviceState) (frame : Ldata) (now : ℕ) → took_of d frame ≡ Taken → frame.group ≡ true → runs d.kept ≡ None → takes d frame now Whole ≡ record d { last = Some frame }
not_running d frame now t g r = rw t (rw g (rw r refl))

telegram_is : (d : DeviceState) (frame : Ldata) (now : ℕ) (image : Image) (service : GroupService) → took_of d frame ≡ Taken → frame.group ≡ true → runs d.kept ≡ Some image → group_service (service_in frame.tpdu) ≡ Some service → takes d frame now Whole ≡ record (telegram_acted d image frame.destination service) { last = Some frame }
telegram_is d frame now image service t g r s = rw t (rw g (rw r (rw s refl)))

pub read_unanswered : (d : DeviceState) (frame : Ldata) (now : ℕ) (image : Image) → took_of d frame ≡ Taken → frame.group ≡ true → runs d.kept ≡ Some image → group_service (service_in frame.tpdu) ≡ Some Read → answerer image frame.destination Read ≡ None → takes d frame now Whole ≡ record d { last = Some frame }
read_unanswered d frame now image t g r s a =
    telegram_is d frame now image Read t g r s ∙ ap (λ (o : Option ℕ). record (answered_by d frame.destination o) { last = Some frame }) a

pub read_answered : (d : DeviceState) (frame : Ldata) (now : ℕ) (image : Image) (o : ℕ) (value : Value) → took_of d frame ≡ Taken → frame.group ≡ true → runs d.kept ≡ Some image → group_service (service_in frame.tpdu) ≡ Some Read → answerer image frame.destination Read ≡ Some o → value_of d o ≡ Some value
    → takes d frame now Whole ≡ record d { unsent = d.unsent ++ own_frame d.address true frame.destination (response_octets value) ∷ []; last = Some frame }
read_answered d frame now image o value t g r s a v =
    telegram_is d frame now image Read t g r s
    ∙ (ap (λ (found : Option ℕ). record (answered_by d frame.destination found) { last = Some frame }) a
    ∙ ap (λ (known : Option Value). record (with_response d frame.destination known) { last = Some frame }) v)

-- ---- values that nothing is written to

unwritten_values : (writes : ℕ → Bool) (value : Value) (values : List (Option Value)) → length values ≡ 256 → ((o : ℕ) → o < 256 → writes o ≡ false) → written_values writes value values ≡ values
unfolding written_values
unwritten_values writes value values l h = sym (fill_by_all (λ (o : ℕ). if writes o then Some value else slot values o) values 256 None l (λ k lt. rw (h k lt) refl))

unwritten_acted : (d : DeviceState) (image : Image) (group : ℕ) (service : GroupService) (value : Value) → carried service ≡ Some value → length d.values ≡ 256 → ((o : ℕ) → o < 256 → is_written image group service o ≡ false) → telegram_acted d image group service ≡ d
unwritten_acted d image group Read value c l h = absurd (cc)
unwritten_acted d image group (Write v) value c l h = ap (λ (values : List (Option Value)). record d { values = values }) (unwritten_values (is_written image group (Write v)) v d.values l h)
unwritten_acted d image group (Response v) value c l h = ap (λ (values : List (Option Value)). record d { values = values }) (unwritten_values (is_written image group (Response v)) v d.values l h)

-- a value that no object takes changes nothing
pub nothing_written : (d : DeviceState) (frame : Ldata) (now : ℕ) (image : Image) (service : GroupService) (value : Value) → took_of d frame ≡ Taken → frame.group ≡ true → runs d.kept ≡ Some image → group_service (service_in frame.tpdu) ≡ Some service → carried service ≡ Some value → length d.values ≡ 256
    → ((o : ℕ) → o < 256 → is_written image frame.destination service o ≡ false) → takes d frame now Whole ≡ record d { last = Some frame }
nothing_written d frame now image service value t g r s c l h =
    telegram_is d frame now image service t g r s ∙ ap (λ (e : DeviceState). record e { last = Some frame }) (unwritten_acted d image frame.destination service value c l h)

-- the values after those objects were written that the tables say
pub written_acted : (d : DeviceState) (image : Image) (group : ℕ) (service : GroupService) (value : Value) (set : ℕ → Bool) (values : List (Option Value)) → ((o : ℕ) → set o ≡ is_written image group service o) → values ≡ written_values set value d.values → carried service ≡ Some value
    → ◌≡◌ {A = DeviceState} (record d { values = values }) (telegram_acted d image group service)
written_acted d image group Read value set values h e c = absurd (cc)
written_acted d image group (Write v) value set values h e c =
    let same : value ≡ v = cc in
    ap (λ (new : List (Option Value)). record d { values = new }) (e ∙ ((λ i. written_values (λ o. h o i) value d.values) ∙ ap (λ (x : Value). written_values (is_written image group (Write v)) x d.values) same))
written_acted d image group (Response v) value set values h e c =
    let same : value ≡ v = cc in
    ap (λ (new : List (Option Value)). record d { values = new }) (e ∙ ((λ i. written_values (λ o. h o i) value d.values) ∙ ap (λ (x : Value). written_values (is_written image group (Response v)) x d.values) same))
