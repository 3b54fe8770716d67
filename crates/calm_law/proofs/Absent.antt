-- Where no device is at an address at the beginning none is there later.
use Rattle.std.proofs.Common.{◌≡◌, ℕ, List, [], ◌∷◌, Bool, true, false, cond, Option, Some, None, ap}
use Rattle.std.specs.Prelude.{◌==◌}
use Rattle.knx_model.specs.declared.frames.cemi.Ldata.{Ldata}
use Rattle.knx_model.specs.ApduReading.{option_map}
use Rattle.knx_model.specs.DeviceState.{DeviceState}
use Rattle.knx_model.specs.DeviceFrames.{Whole, takes}
use Rattle.knx_model.specs.DeviceSending.{pops, repeats, shut}
use Rattle.line_model.specs.Calm.{IsCalm, AreCalm}
use Rattle.line_model.specs.World.{World, Event, Devices, Send, From, Renew, Up, UpRefused, Down, LoseUp, LoseDown, Bus, BusTorn, BusWorn, BusAgain, DevSend, DevRepeat, DevClose, GwAgain, GwRepeat, GwClose, Cut, On, Pass, changed, all_take, others_take, is_among, next_frame, waiting_at, devices_after, replay}

either_none : (b : Bool) (x y : Option DeviceState) → x ≡ None → y ≡ None → cond b x y ≡ None
either_none true x y h g = h
either_none false x y h g = g

changed_none : (b : ℕ) (f : DeviceState → DeviceState) (devices : Devices) (a : ℕ) → devices a ≡ None → changed b f devices a ≡ None
changed_none b f devices a h = either_none (a == b) (option_map f (devices a)) (devices a) (ap (option_map f) h) h

all_none : (now : ℕ) (out : List ℕ) (o : Option Ldata) (devices : Devices) (a : ℕ) → devices a ≡ None → all_take now out o devices a ≡ None
all_none now out None devices a h = h
all_none now out (Some f) devices a h = either_none (is_among out a) (devices a) (option_map (λ d. takes d f now Whole) (devices a)) h (ap (option_map (λ d. takes d f now Whole)) h)

others_none : (now : ℕ) (out : List ℕ) (o : Option Ldata) (devices : Devices) (a : ℕ) → devices a ≡ None → others_take now out o devices a ≡ None
others_none now out None devices a h = h
others_none now out (Some f) devices a h = by_group f.group where
  by_group : (b : Bool) → (cond b (all_take now out (Some f) devices) devices) a ≡ None
  by_group true = all_none now out (Some f) devices a h
  by_group false = h

absent : (w : World) (e : Event) (a : ℕ) → IsCalm w e → w.devices a ≡ None → devices_after w e a ≡ None
absent w (Send octets) a c h = h
absent w (From endpoint octets) a c h = h
absent w Renew a c h = h
absent w (Up age) a c h = h
absent w (UpRefused age status) a c h = h
absent w (Down age) a c h = h
absent w (LoseUp age) a c h = h
absent w (LoseDown age) a c h = h
absent w (Bus left_out) a c h = all_none w.tunnel.now left_out (next_frame w) w.devices a h
absent w (BusTorn fresh octets) a c h = absurd c
absent w (BusWorn octets) a c h = absurd c
absent w (BusAgain device) a c h = absurd c
absent w (DevSend device gateway left_out) a c h = changed_none device pops (others_take w.tunnel.now (device ∷ left_out) (waiting_at w device) w.devices) a (others_none w.tunnel.now (device ∷ left_out) (waiting_at w device) w.devices a h)
absent w (DevRepeat device gateway) a c h = changed_none device (λ d. repeats d w.tunnel.now) w.devices a h
absent w (DevClose device) a c h = changed_none device shut w.devices a h
absent w GwAgain a c h = absurd c
absent w GwRepeat a c h = h
absent w GwClose a c h = h
absent w (Cut device) a c h = absurd c
absent w (On device) a c h = absurd c
absent w (Pass ms) a c h = h

pub all_absent : (start : World) (a : ℕ) → start.devices a ≡ None → (events : List Event) → AreCalm start events → (replay start events).devices a ≡ None
all_absent start a none [] c = none
all_absent start a none (e ∷ events) c = absent (replay start events) e a c.0 (all_absent start a none events c.1)
