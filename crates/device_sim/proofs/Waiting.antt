-- What a frame leaves of the frames that wait and, where it is for the device alone, of the values.
use Rattle.std.proofs.Common.{ℕ, ◌≡◌, List, [], ◌∷◌, ◌++◌, append-nil, append_assoc, Bool, true, false, Option, Some, None, refl, sym, ap, ◌∙◌, if◌then◌else◌}
use Rattle.std.proofs.lemmas.Bool.{and_from}
use Rattle.knx_model.specs.declared.address.IndAddr.{IndAddr}
use Rattle.knx_model.specs.declared.connection.DeviceTook.{DeviceTook}
use Rattle.knx_model.specs.declared.connection.DeviceTook.TheVariants as took
use Rattle.knx_model.specs.declared.config.Image.{Image}
use Rattle.knx_model.specs.declared.device.Took.{Took}
use Rattle.knx_model.specs.declared.device.Took.TheVariants.{NotMine, TooLong, Taken, Off}
use Rattle.knx_model.specs.declared.frames.cemi.Ldata.{Ldata}
use Rattle.knx_model.specs.declared.frames.value.Value.{Value}
use Rattle.knx_model.specs.declared.loading.LoadState.{LoadState}
use Rattle.knx_model.specs.declared.loading.LoadState.TheVariants.{Unloaded, Loaded, Loading, Error}
use Rattle.knx_model.specs.declared.script.GroupService.{GroupService}
use Rattle.knx_model.specs.declared.script.GroupService.TheVariants.{Read, Write, Response}
use Rattle.knx_model.specs.Acts.{answerer}
use Rattle.knx_model.specs.ApduReading.{service_in}
use Rattle.knx_model.specs.DeviceConnection.{device_after}
use Rattle.knx_model.specs.Device.{NonVolatile, runs, effect_in, answer_in}
use Rattle.knx_model.specs.DeviceState.{DeviceState, moved, zero_values, same_state, same_states, value_of}
use Rattle.knx_model.specs.DeviceFrames.{Whole, own_frame, took_of, takes, takes_so, taken_alone, taken_group, acted, queued_to, connection_took, sender, kept_after, group_service, telegram_acted, telegram_taken, answered_by, with_response}
use Rattle.device_sim.specs.Delivery.{Joins}
use Rattle.device_sim.specs.Sending.{and_frame, answered_frame}
use Rattle.device_sim.proofs.Answered.{queued_if_is, with_answer_is}

-- ---- frames that wait

none_joins : (frames : List Ldata) → Joins frames frames
none_joins frames = record { more = []; behind = sym (append-nil frames) }

one_joins : (frames : List Ldata) (frame : Ldata) → Joins frames (frames ++ frame ∷ [])
one_joins frames frame = record { more = frame ∷ []; behind = refl }

frame_joins : (frames : List Ldata) (address to : IndAddr) (tpdu : Option (List ℕ)) → Joins frames (and_frame frames address to tpdu)
frame_joins frames address to None = none_joins frames
frame_joins frames address to (Some tpdu) = one_joins frames (own_frame address false to.raw tpdu)

then_joins : (first second third : List Ldata) → Joins first second → Joins second third → Joins first third
then_joins first second third f g = record { more = f.more ++ g.more; behind = g.behind ∙ (ap (λ (xs : List Ldata). xs ++ g.more) f.behind ∙ append_assoc first f.more g.more) }

same_joins : (first second third : List Ldata) → third ≡ second → Joins first second → Joins first third
same_joins first second third e f = record { more = f.more; behind = e ∙ f.behind }

acted_joins : (d : DeviceState) (from : IndAddr) (now : ℕ) (answer : DeviceTook) → ¬ (answer ≡ took.Connected) → Joins d.unsent (acted d from now Whole answer).unsent
acted_joins d from now took.Dropped h = none_joins d.unsent
acted_joins d from now took.Connected h = absurd (h refl)
acted_joins d from now (took.Apdu apdu ack) h =
    let m : DeviceState = moved (queued_to d from ack) (kept_after d.kept (effect_in apdu) Whole) in
    then_joins d.unsent m.unsent (acted d from now Whole (took.Apdu apdu ack)).unsent (one_joins d.unsent (own_frame d.address false from.raw ack))
    (same_joins m.unsent (and_frame m.unsent m.address from (answered_frame m.connection (answer_in d.frames d.kept apdu))) (acted d from now Whole (took.Apdu apdu ack)).unsent
    (ap (λ (x : DeviceState). x.unsent) (with_answer_is m from now (answer_in d.frames d.kept apdu)))
    (frame_joins m.unsent m.address from (answered_frame m.connection (answer_in d.frames d.kept apdu))))
acted_joins d from now (took.Again ack) h = one_joins d.unsent (own_frame d.address false from.raw ack)
acted_joins d from now (took.Nak nak) h = one_joins d.unsent (own_frame d.address false from.raw nak)
acted_joins d from now took.Acked h = none_joins d.unsent
acted_joins d from now (took.Closed answer) h =
    same_joins d.unsent (and_frame d.unsent d.address from answer) (acted d from now Whole (took.Closed answer)).unsent (ap (λ (x : DeviceState). x.unsent) (queued_if_is d from answer)) (frame_joins d.unsent d.address from answer)

response_joins : (d : DeviceState) (group : ℕ) (value : Option Value) → Joins d.unsent (with_response d group value).unsent
response_joins d group None = none_joins d.unsent
response_joins d group (Some value) = record { more = _; behind = refl }

answer_joins : (d : DeviceState) (group : ℕ) (object : Option ℕ) → Joins d.unsent (answered_by d group object).unsent
answer_joins d group None = none_joins d.unsent
answer_joins d group (Some o) = response_joins d group (value_of d o)

telegram_joins : (d : DeviceState) (image : Image) (group : ℕ) (service : GroupService) → Joins d.unsent (telegram_acted d image group service).unsent
telegram_joins d image group Read = answer_joins d group (answerer image group Read)
telegram_joins d image group (Write value) = none_joins d.unsent
telegram_joins d image group (Response value) = none_joins d.unsent

taken_joins : (d : DeviceState) (group : ℕ) (image : Option Image) (service : Option GroupService) → Joins d.unsent (telegram_taken d group image service).unsent
taken_joins d group None service = none_joins d.unsent
taken_joins d group (Some image) None = none_joins d.unsent
taken_joins d group (Some image) (Some service) = telegram_joins d image group service

either_joins : (d : DeviceState) (frame : Ldata) (now : ℕ) (g : Bool) → ¬ ((g ≡ false) × (connection_took d frame ≡ took.Connected)) → Joins d.unsent (if g then taken_group d frame else taken_alone d frame now Whole).unsent
either_joins d frame now true h = taken_joins d frame.destination (runs d.kept) (group_service (service_in frame.tpdu))
either_joins d frame now false h = acted_joins (record d { connection = device_after d.connection (sender frame) now (connection_took d frame) }) (sender frame) now (connection_took d frame) (λ e. h (refl, e))

joins_so : (d : DeviceState) (frame : Ldata) (now : ℕ) (t : Took) → ¬ ((frame.group ≡ false) × (connection_took d frame ≡ took.Connected)) → Joins d.unsent (takes_so d frame now Whole t).unsent
joins_so d frame now Taken h = either_joins d frame now frame.group h
joins_so d frame now NotMine h = none_joins d.unsent
joins_so d frame now TooLong h = none_joins d.unsent
joins_so d frame now Off h = none_joins d.unsent

-- what a frame makes the device send joins behind what waits, but at T_Connect
pub takes_joins : (d : DeviceState) (frame : Ldata) (now : ℕ) → ¬ ((frame.group ≡ false) × (connection_took d frame ≡ took.Connected)) → Joins d.unsent (takes d frame now Whole).unsent
takes_joins d frame now h = joins_so d frame now (took_of d frame) h

pub connected_drops : (d : DeviceState) (frame : Ldata) (now : ℕ) → took_of d frame ≡ Taken → frame.group ≡ false → connection_took d frame ≡ took.Connected → (takes d frame now Whole).unsent ≡ []
connected_drops d frame now t g c = rw t (rw g (rw c refl))

-- ---- values

same_state_as_itself : (s : LoadState) → same_state s s ≡ true
same_state_as_itself Unloaded = refl
same_state_as_itself Loaded = refl
same_state_as_itself Loading = refl
same_state_as_itself Error = refl

same_states_as_themselves : (nv : NonVolatile) → same_states nv nv ≡ true
same_states_as_themselves nv =
    and_from _ _ (and_from _ _ (and_from _ _ (same_state_as_itself nv.address_table.state) (same_state_as_itself nv.association_table.state)) (same_state_as_itself nv.group_objects.state)) (same_state_as_itself nv.application.state)

abbrev or_zero : Bool → List (Option Value) → List (Option Value)
or_zero same values = if same then values else zero_values

kept_values : (nv : NonVolatile) (values : List (Option Value)) → values ≡ or_zero (same_states nv nv) values
kept_values nv values = sym (ap (λ (same : Bool). or_zero same values) (same_states_as_themselves nv))

so_kept : (nv later : NonVolatile) (values new : List (Option Value)) → new ≡ values → ◌≡◌ {A = NonVolatile} later nv → new ≡ or_zero (same_states nv later) values
so_kept nv later values new v k = v ∙ (kept_values nv values ∙ ap (λ (other : NonVolatile). or_zero (same_states nv other) values) (sym k))

acted_values : (d : DeviceState) (from : IndAddr) (now : ℕ) (answer : DeviceTook) → (acted d from now Whole answer).values ≡ or_zero (same_states d.kept (acted d from now Whole answer).kept) d.values
acted_values d from now took.Dropped = kept_values d.kept d.values
acted_values d from now took.Connected = kept_values d.kept d.values
acted_values d from now (took.Apdu apdu ack) =
    let m : DeviceState = moved (queued_to d from ack) (kept_after d.kept (effect_in apdu) Whole) in
    ap (λ (x : DeviceState). x.values) (with_answer_is m from now (answer_in d.frames d.kept apdu))
    ∙ ap (λ (x : DeviceState). or_zero (same_states d.kept x.kept) d.values) (sym (with_answer_is m from now (answer_in d.frames d.kept apdu)))
acted_values d from now (took.Again ack) = kept_values d.kept d.values
acted_values d from now (took.Nak nak) = kept_values d.kept d.values
acted_values d from now took.Acked = kept_values d.kept d.values
acted_values d from now (took.Closed answer) =
    so_kept d.kept (acted d from now Whole (took.Closed answer)).kept d.values (acted d from now Whole (took.Closed answer)).values
    (ap (λ (x : DeviceState). x.values) (queued_if_is d from answer)) (ap (λ (x : DeviceState). x.kept) (queued_if_is d from answer))

values_so : (d : DeviceState) (frame : Ldata) (now : ℕ) (t : Took) → frame.group ≡ false → (takes_so d frame now Whole t).values ≡ or_zero (same_states d.kept (takes_so d frame now Whole t).kept) d.values
values_so d frame now Taken h = rw h (acted_values (record d { connection = device_after d.connection (sender frame) now (connection_took d frame) }) (sender frame) now (connection_took d frame))
values_so d frame now NotMine h = kept_values d.kept d.values
values_so d frame now TooLong h = kept_values d.kept d.values
values_so d frame now Off h = kept_values d.kept d.values

-- a frame for the device alone leaves the values, or makes all zero where it changes a load state
pub alone_values : (d : DeviceState) (frame : Ldata) (now : ℕ) → frame.group ≡ false → (takes d frame now Whole).values ≡ (if same_states d.kept (takes d frame now Whole).kept then d.values else zero_values)
alone_values d frame now h = values_so d frame now (took_of d frame) h
