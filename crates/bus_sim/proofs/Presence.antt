-- Which devices are on the bus stays so, whatever happens.
use Rattle.std.proofs.Common.{◌≡◌, ℕ, ◌==◌, Bool, true, false, List, ◌∷◌, is_some, Option, Some, None, refl, ap, ◌∙◌, if◌then◌else◌}
use Rattle.knx_model.specs.ApduReading.{option_map}
use Rattle.knx_model.specs.DeviceState.{DeviceState}
use Rattle.knx_model.specs.DeviceFrames.{Outcome, Whole, Torn, Worn, takes}
use Rattle.knx_model.specs.declared.frames.cemi.Ldata.{Ldata}
use Rattle.line_model.specs.World.{World, Event, Devices, Bus, BusTorn, BusWorn, BusAgain, DevSend, DevRepeat, DevClose, Cut, On, step, changed, all_take, one_takes, others_take, is_among, next_frame, waiting_at, now}

mapped : (f : DeviceState → DeviceState) (o : Option DeviceState) → is_some (option_map f o) ≡ is_some o
mapped f None = refl
mapped f (Some d) = refl

changed_one : (device : ℕ) (change : DeviceState → DeviceState) (devices : Devices) (a : ℕ) → is_some (changed device change devices a) ≡ is_some (devices a)
changed_one device change devices a = by_test (a == device)
  where
    by_test : (t : Bool) → is_some (if t then option_map change (devices a) else devices a) ≡ is_some (devices a)
    by_test true = mapped change (devices a)
    by_test false = refl

all_took : (now : ℕ) (left_out : List ℕ) (frame : Option Ldata) (devices : Devices) (a : ℕ) → is_some (all_take now left_out frame devices a) ≡ is_some (devices a)
all_took now left_out None devices a = refl
all_took now left_out (Some frame) devices a = by_test (is_among left_out a)
  where
    by_test : (t : Bool) → is_some (if t then devices a else option_map (λ d. takes d frame now Whole) (devices a)) ≡ is_some (devices a)
    by_test true = refl
    by_test false = mapped (λ d. takes d frame now Whole) (devices a)

one_took : (now : ℕ) (outcome : Outcome) (frame : Option Ldata) (devices : Devices) (a : ℕ) → is_some (one_takes now outcome frame devices a) ≡ is_some (devices a)
one_took now outcome None devices a = refl
one_took now outcome (Some frame) devices a = changed_one frame.destination (λ d. takes d frame now outcome) devices a

others_took : (now : ℕ) (left_out : List ℕ) (frame : Option Ldata) (devices : Devices) (a : ℕ) → is_some (others_take now left_out frame devices a) ≡ is_some (devices a)
others_took now left_out None devices a = refl
others_took now left_out (Some frame) devices a = by_test frame.group
  where
    by_test : (t : Bool) → is_some ((if t then all_take now left_out (Some frame) devices else devices) a) ≡ is_some (devices a)
    by_test true = all_took now left_out (Some frame) devices a
    by_test false = refl

pub presence : (w : World) (e : Event) (a : ℕ) → is_some ((step w e).devices a) ≡ is_some (w.devices a)
presence w (Bus left_out) a = all_took (now w) left_out (next_frame w) w.devices a
presence w (BusTorn fresh octets) a = one_took (now w) (Torn fresh octets) (next_frame w) w.devices a
presence w (BusWorn octets) a = one_took (now w) (Worn octets) (next_frame w) w.devices a
presence w (BusAgain device) a = changed_one device _ w.devices a
presence w (DevSend device gateway left_out) a =
    changed_one device _ (others_take (now w) (device ∷ left_out) (waiting_at w device) w.devices) a ∙ others_took (now w) (device ∷ left_out) (waiting_at w device) w.devices a
presence w (DevRepeat device gateway) a = changed_one device _ w.devices a
presence w (DevClose device) a = changed_one device _ w.devices a
presence w (Cut device) a = changed_one device _ w.devices a
presence w (On device) a = changed_one device _ w.devices a
presence w e a = refl

pub none_stays : (w : World) (e : Event) (a : ℕ) → w.devices a ≡ None → (step w e).devices a ≡ None
none_stays w e a none = by_option ((step w e).devices a) (presence w e a ∙ ap is_some none)
  where
    by_option : (o : Option DeviceState) → is_some o ≡ false → o ≡ None
    by_option None h = refl
    by_option (Some d) h = cc
