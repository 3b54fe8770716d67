-- What an event of its own makes of a device: a sending, a repeat, a closing, a cut and power that comes back.
use Rattle.std.proofs.Common.{◌≡◌, ℕ, List, [], ◌∷◌, Bool, true, false, ◌==◌, refl, sym, ap, ◌∙◌, arith, inl, inr, Option, Some, None, if◌then◌else◌}
use Rattle.std.proofs.lemmas.Bool.{or_left, cases_Bool}
use Rattle.knx_model.specs.declared.frames.cemi.Ldata.{Ldata}
use Rattle.knx_model.specs.declared.address.IndAddr.{IndAddr}
use Rattle.knx_model.specs.ApduReading.{option_map}
use Rattle.knx_model.specs.DeviceConnection.{DeviceEnd, Closed, Idle, Answering, partner_of}
use Rattle.knx_model.specs.DeviceState.{DeviceState, at_rest, cut, switched_on, zero_values}
use Rattle.knx_model.specs.DeviceSending.{pops, repeats, shut, shut_from}
use Rattle.line_model.specs.World.{World, DevSend, DevRepeat, DevClose, Cut, On, AtGateway, Devices, changed, all_take, others_take, is_among, waiting_at, now, step}
use Rattle.line_model.proofs.Reached.{left_out_of, where_lost}

-- ---- an event of its own

itself : (a : ℕ) → (a == a) ≡ true
itself a = grind arith

at_itself : (device : ℕ) (change : DeviceState → DeviceState) (devices : Devices) → changed device change devices device ≡ option_map change (devices device)
at_itself device change devices = where_lost (device == device) (option_map change (devices device)) (devices device) (itself device)

mapped : (change : DeviceState → DeviceState) (x y : Option DeviceState) (old d : DeviceState) → x ≡ Some old → y ≡ option_map change x → y ≡ Some d → change old ≡ d
mapped change x y old d is from h = cc

-- what it makes of the device

pub repeats_so : (w : World) (device : ℕ) (gateway : AtGateway) → (step w (DevRepeat device gateway)).devices device ≡ option_map (λ d. repeats d (now w)) (w.devices device)
repeats_so w device gateway = at_itself device (λ d. repeats d (now w)) w.devices

pub shuts_so : (w : World) (device : ℕ) → (step w (DevClose device)).devices device ≡ option_map shut (w.devices device)
shuts_so w device = at_itself device shut w.devices

pub cuts_so : (w : World) (device : ℕ) → (step w (Cut device)).devices device ≡ option_map cut (w.devices device)
cuts_so w device = at_itself device cut w.devices

pub goes_on_so : (w : World) (device : ℕ) → (step w (On device)).devices device ≡ option_map switched_on (w.devices device)
goes_on_so w device = at_itself device switched_on w.devices

-- power comes back

comes_back : (w : World) (device : ℕ) (old d : DeviceState) → w.devices device ≡ Some old → (step w (On device)).devices device ≡ Some d → switched_on old ≡ d
comes_back w device old d is h = mapped switched_on (w.devices device) _ old d is (at_itself device switched_on w.devices) h

has_power : (old : DeviceState) → (switched_on old).power ≡ true
has_power old = elim (cases_Bool old.power) [
  | inl on ↦ ap (λ (b : Bool). (if b then old else record (at_rest old) { power = true }).power) on ∙ on
  | inr off ↦ ap (λ (b : Bool). (if b then old else record (at_rest old) { power = true }).power) off
]

some_old : (change : DeviceState → DeviceState) (x y : Option DeviceState) (d : DeviceState) → y ≡ option_map change x → y ≡ Some d → (old : DeviceState) × (x ≡ Some old)
some_old change None y d from h = cc
some_old change (Some old) y d from h = (old, refl)

pub power_is_back : (w : World) (device : ℕ) (d : DeviceState) → (step w (On device)).devices device ≡ Some d → d.power ≡ true
power_is_back w device d h =
    let old = some_old switched_on (w.devices device) _ d (at_itself device switched_on w.devices) h in
    ap (λ (x : DeviceState). x.power) (sym (comes_back w device old.0 d old.1 h)) ∙ has_power old.0

pub power_finds : (w : World) (device : ℕ) (old d : DeviceState) → w.devices device ≡ Some old → old.power ≡ false → (step w (On device)).devices device ≡ Some d
    → (d.kept ≡ old.kept) × (d.connection ≡ Closed) × (d.values ≡ zero_values) × (d.unsent ≡ [])
power_finds w device old d is off h =
    let rests : record (at_rest old) { power = true } ≡ d = sym (ap (λ (b : Bool). if b then old else record (at_rest old) { power = true }) off) ∙ comes_back w device old d is h in
    (ap (λ (x : DeviceState). x.kept) (sym rests), ap (λ (x : DeviceState). x.connection) (sym rests), ap (λ (x : DeviceState). x.values) (sym rests), ap (λ (x : DeviceState). x.unsent) (sym rests))

pub power_stays : (w : World) (device : ℕ) (old : DeviceState) → w.devices device ≡ Some old → old.power ≡ true → (step w (On device)).devices device ≡ Some old
power_stays w device old is on =
    at_itself device switched_on w.devices ∙ ap (option_map switched_on) is ∙ ap (λ (b : Bool). Some (if b then old else record (at_rest old) { power = true })) on

-- a closing

closed_of : (d : DeviceState) (partner : Option IndAddr) (end : DeviceEnd) → d.connection ≡ end → partner_of end ≡ partner → (shut_from d partner).connection ≡ Closed
closed_of d (Some partner) end is of = refl
closed_of d None Closed is of = is
closed_of d None (Idle s) is of = cc
closed_of d None (Answering s a) is of = cc

keeps_of : (d : DeviceState) (partner : Option IndAddr) → ((shut_from d partner).kept ≡ d.kept) × ((shut_from d partner).values ≡ d.values)
keeps_of d None = (refl, refl)
keeps_of d (Some partner) = (refl, refl)

closes_so : (w : World) (device : ℕ) (old d : DeviceState) → w.devices device ≡ Some old → (step w (DevClose device)).devices device ≡ Some d → shut old ≡ d
closes_so w device old d is h = mapped shut (w.devices device) _ old d is (at_itself device shut w.devices) h

pub closing_closes : (w : World) (device : ℕ) (d : DeviceState) → (step w (DevClose device)).devices device ≡ Some d → d.connection ≡ Closed
closing_closes w device d h =
    let old = some_old shut (w.devices device) _ d (at_itself device shut w.devices) h in
    ap (λ (x : DeviceState). x.connection) (sym (closes_so w device old.0 d old.1 h)) ∙ closed_of old.0 (partner_of old.0.connection) old.0.connection refl refl

pub closing_keeps : (w : World) (device : ℕ) (old d : DeviceState) → w.devices device ≡ Some old → (step w (DevClose device)).devices device ≡ Some d → (d.kept ≡ old.kept) × (d.values ≡ old.values)
closing_keeps w device old d is h =
    let is_so = closes_so w device old d is h in
    let kept = keeps_of old (partner_of old.connection) in
    (ap (λ (x : DeviceState). x.kept) (sym is_so) ∙ kept.0, ap (λ (x : DeviceState). x.values) (sym is_so) ∙ kept.1)

-- a sending: its own telegram doesn't come to a device

own_lost : (it : ℕ) (left_out : List ℕ) → is_among (it ∷ left_out) it ≡ true
own_lost it left_out = or_left (it == it) (is_among left_out it) (itself it)

own_apart : (at : ℕ) (left_out : List ℕ) (it : ℕ) (frame : Option Ldata) (devices : Devices) → others_take at (it ∷ left_out) frame devices it ≡ devices it
own_apart at left_out it None devices = refl
own_apart at left_out it (Some frame) devices = elim (cases_Bool frame.group) [
  | inl group ↦ ap (λ (b : Bool). (if b then all_take at (it ∷ left_out) (Some frame) devices else devices) it) group ∙ left_out_of at (it ∷ left_out) (Some frame) devices it (own_lost it left_out)
  | inr alone ↦ ap (λ (b : Bool). (if b then all_take at (it ∷ left_out) (Some frame) devices else devices) it) alone
]

pub sends_so : (w : World) (device : ℕ) (gateway : AtGateway) (left_out : List ℕ) → (step w (DevSend device gateway left_out)).devices device ≡ option_map pops (w.devices device)
sends_so w device gateway left_out =
    at_itself device pops (others_take (now w) (device ∷ left_out) (waiting_at w device) w.devices) ∙ ap (option_map pops) (own_apart (now w) left_out device (waiting_at w device) w.devices)

pub sender_keeps : (w : World) (device : ℕ) (gateway : AtGateway) (left_out : List ℕ) (old d : DeviceState) → w.devices device ≡ Some old → (step w (DevSend device gateway left_out)).devices device ≡ Some d
    → (d.kept ≡ old.kept) × (d.values ≡ old.values)
sender_keeps w device gateway left_out old d is h =
    let is_so : pops old ≡ d = mapped pops (w.devices device) _ old d is (sends_so w device gateway left_out) h in
    (ap (λ (x : DeviceState). x.kept) (sym is_so), ap (λ (x : DeviceState). x.values) (sym is_so))
