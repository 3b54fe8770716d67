-- Each device of a line keeps the address at which it is, whatever happens.
use Rattle.std.proofs.Common.{ℕ, ◌≡◌, Bool, true, false, List, [], ◌∷◌, Option, Some, None, refl, ◌∙◌, subst}
use Rattle.std.specs.Prelude.{◌==◌, if◌then◌else◌}
use Rattle.knx_model.specs.declared.address.IndAddr.{IndAddr}
use Rattle.knx_model.specs.declared.frames.cemi.Ldata.{Ldata}
use Rattle.knx_model.specs.ApduReading.{option_map}
use Rattle.knx_model.specs.DeviceConnection.{partner_of}
use Rattle.knx_model.specs.DeviceFrames.{Outcome, Whole, Torn, Worn, takes, taken_again}
use Rattle.knx_model.specs.DeviceSending.{pops, repeats, shut, shut_from}
use Rattle.knx_model.specs.DeviceState.{DeviceState, at_rest, cut, switched_on}
use Rattle.line_model.specs.World.{World, Event, Bus, BusTorn, BusWorn, BusAgain, DevSend, DevRepeat, DevClose, Cut, On, Devices, all_take, changed, is_among, next_frame, now, one_takes, others_take, replay, step, waiting_at}
use Rattle.line_sim.proofs.Named.{takes_named, again_named}

-- the device at a place has the address of the place
abbrev pub Named : ℕ → Option DeviceState → Type 0
Named a place = (d : DeviceState) → place ≡ Some d → d.address.raw ≡ a

-- what a device becomes has its address
abbrev KeepsAddress : (DeviceState → DeviceState) → Type 0
KeepsAddress change = (d : DeviceState) → (change d).address.raw ≡ d.address.raw

changed_named : (change : DeviceState → DeviceState) (a : ℕ) (place : Option DeviceState) → KeepsAddress change → Named a place → Named a (option_map change place)
changed_named change a None same named d e = absurd cc
changed_named change a (Some old) same named d e =
    let is : change old ≡ d = cc in
    subst (λ (x : DeviceState). x.address.raw ≡ a) is (same old ∙ named old refl)

where_named : (b : Bool) (a : ℕ) (one other : Option DeviceState) → Named a one → Named a other → Named a (if b then one else other)
where_named true a one other h k = h
where_named false a one other h k = k

one_named : (device : ℕ) (change : DeviceState → DeviceState) (devices : Devices) (a : ℕ) → KeepsAddress change → Named a (devices a) → Named a (changed device change devices a)
one_named device change devices a same named = where_named (a == device) a (option_map change (devices a)) (devices a) (changed_named change a (devices a) same named) named

all_named : (t : ℕ) (left_out : List ℕ) (frame : Option Ldata) (devices : Devices) (a : ℕ) → Named a (devices a) → Named a (all_take t left_out frame devices a)
all_named t left_out None devices a named = named
all_named t left_out (Some frame) devices a named =
    where_named (is_among left_out a) a (devices a) (option_map (λ d. takes d frame t Whole) (devices a)) named (changed_named (λ d. takes d frame t Whole) a (devices a) (λ d. takes_named d frame t Whole) named)

taker_named : (t : ℕ) (outcome : Outcome) (frame : Option Ldata) (devices : Devices) (a : ℕ) → Named a (devices a) → Named a (one_takes t outcome frame devices a)
taker_named t outcome None devices a named = named
taker_named t outcome (Some frame) devices a named = one_named frame.destination (λ d. takes d frame t outcome) devices a (λ d. takes_named d frame t outcome) named

others_named : (t : ℕ) (left_out : List ℕ) (frame : Option Ldata) (devices : Devices) (a : ℕ) → Named a (devices a) → Named a (others_take t left_out frame devices a)
others_named t left_out None devices a named = named
others_named t left_out (Some frame) devices a named = by_test frame.group
  where
    by_test : (b : Bool) → Named a ((if b then all_take t left_out (Some frame) devices else devices) a)
    by_test true = all_named t left_out (Some frame) devices a named
    by_test false = named

shut_named : KeepsAddress shut
shut_named d = by_partner (partner_of d.connection)
  where
    by_partner : (partner : Option IndAddr) → (shut_from d partner).address.raw ≡ d.address.raw
    by_partner None = refl
    by_partner (Some partner) = refl

on_named : KeepsAddress switched_on
on_named d = by_power d.power
  where
    by_power : (b : Bool) → (if b then d else record (at_rest d) { power = true }).address.raw ≡ d.address.raw
    by_power true = refl
    by_power false = refl

step_named : (w : World) (e : Event) (a : ℕ) → Named a (w.devices a) → Named a ((step w e).devices a)
step_named w (Bus left_out) a named = all_named (now w) left_out (next_frame w) w.devices a named
step_named w (BusTorn fresh octets) a named = taker_named (now w) (Torn fresh octets) (next_frame w) w.devices a named
step_named w (BusWorn octets) a named = taker_named (now w) (Worn octets) (next_frame w) w.devices a named
step_named w (BusAgain device) a named = one_named device (λ d. taken_again d (now w)) w.devices a (λ d. again_named d (now w)) named
step_named w (DevSend device gateway left_out) a named =
    one_named device pops (others_take (now w) (device ∷ left_out) (waiting_at w device) w.devices) a (λ d. refl) (others_named (now w) (device ∷ left_out) (waiting_at w device) w.devices a named)
step_named w (DevRepeat device gateway) a named = one_named device (λ d. repeats d (now w)) w.devices a (λ d. refl) named
step_named w (DevClose device) a named = one_named device shut w.devices a shut_named named
step_named w (Cut device) a named = one_named device cut w.devices a (λ d. refl) named
step_named w (On device) a named = one_named device switched_on w.devices a on_named named
step_named w e a named = named

pub always_named : (start : World) (events : List Event) (a : ℕ) → Named a (start.devices a) → Named a ((replay start events).devices a)
always_named start [] a named = named
always_named start (e ∷ events) a named = step_named (replay start events) e a (always_named start events a named)
