-- On a calm line each device's memories keep their lengths.
use Rattle.std.proofs.Common.{◌≡◌, ℕ, List, ◌∷◌, Bool, true, false, Option, Some, None, refl, sym, subst, cond}
use Rattle.std.specs.Prelude.{◌==◌}
use Rattle.knx_model.specs.declared.address.IndAddr.{IndAddr}
use Rattle.knx_model.specs.declared.connection.DeviceTook.{DeviceTook}
use Rattle.knx_model.specs.declared.connection.DeviceTook.TheVariants as took
use Rattle.knx_model.specs.declared.device.Took.{Took}
use Rattle.knx_model.specs.declared.device.Took.TheVariants.{NotMine, TooLong, Taken, Off}
use Rattle.knx_model.specs.declared.frames.cemi.Ldata.{Ldata}
use Rattle.knx_model.specs.ApduReading.{option_map}
use Rattle.knx_model.specs.Device.{HasCapacities, effect_in, answer_in}
use Rattle.knx_model.specs.DeviceConnection.{device_answered, partner_of}
use Rattle.knx_model.specs.DeviceState.{DeviceState, moved}
use Rattle.knx_model.specs.DeviceFrames.{Whole, kept_after, queued_to, queued_if, with_answer, acted, took_of, takes, takes_so, taken_alone, connection_took, sender}
use Rattle.knx_model.specs.DeviceSending.{pops, repeats, shut, shut_from}
use Rattle.knx_model.proofs.Capacities.{kept_capacities}
use Rattle.line_model.specs.Calm.{IsCalm}
use Rattle.line_model.specs.World.{World, Event, Devices, Send, From, Renew, Up, UpRefused, Down, LoseUp, LoseDown, Bus, BusTorn, BusWorn, BusAgain, DevSend, DevRepeat, DevClose, GwAgain, GwRepeat, GwClose, Cut, On, Pass, changed, all_take, others_take, is_among, next_frame, waiting_at, devices_after}
use Rattle.calm_law.proofs.SessionRests.{group_taken}

abbrev Has : DeviceState → Type 0
Has d = HasCapacities d.kept

queued_has : (d : DeviceState) (to : IndAddr) (o : Option (List ℕ)) → Has d → Has (queued_if d to o)
queued_has d to None h = h
queued_has d to (Some octets) h = h

answer_has : (d : DeviceState) (to : IndAddr) (now : ℕ) (o : Option (List ℕ)) → Has d → Has (with_answer d to now o)
answer_has d to now None h = h
answer_has d to now (Some octets) h = queued_has _ to (device_answered d.connection octets) h

acted_has : (d : DeviceState) (from : IndAddr) (now : ℕ) (t : DeviceTook) → Has d → Has (acted d from now Whole t)
acted_has d from now took.Dropped h = h
acted_has d from now took.Connected h = h
acted_has d from now (took.Apdu apdu ack) h = answer_has (moved (queued_to d from ack) (kept_after d.kept (effect_in apdu) Whole)) from now (answer_in d.frames d.kept apdu) (kept_capacities d.kept (effect_in apdu) Whole h)
acted_has d from now (took.Again ack) h = h
acted_has d from now (took.Nak nak) h = h
acted_has d from now took.Acked h = h
acted_has d from now (took.Closed answer) h = queued_has d from answer h

alone_has : (d : DeviceState) (f : Ldata) (now : ℕ) → Has d → Has (taken_alone d f now Whole)
alone_has d f now h = acted_has _ (sender f) now (connection_took d f) h

taken_has : (d : DeviceState) (f : Ldata) (now : ℕ) (t : Took) → f.group ≡ false → Has d → Has (takes_so d f now Whole t)
taken_has d f now NotMine g h = h
taken_has d f now TooLong g h = h
taken_has d f now Off g h = h
taken_has d f now Taken g h = rw g (alone_has d f now h)

takes_has : (d : DeviceState) (f : Ldata) (now : ℕ) → Has d → Has (takes d f now Whole)
takes_has d f now h = by_group f.group refl where
  by_group : (b : Bool) → f.group ≡ b → Has (takes d f now Whole)
  by_group true g = subst HasCapacities (sym (group_taken d f now g).kept) h
  by_group false g = taken_has d f now (took_of d f) g h

shut_has : (d : DeviceState) → Has d → Has (shut d)
shut_has d h = by_partner (partner_of d.connection) where
  by_partner : (o : Option IndAddr) → Has (shut_from d o)
  by_partner None = h
  by_partner (Some partner) = h

-- ---- all devices

abbrev AllHave : Devices → Type 0
AllHave devices = (a : ℕ) (d : DeviceState) → devices a ≡ Some d → Has d

mapped_has : (g : DeviceState → DeviceState) → ((d : DeviceState) → Has d → Has (g d)) → (o : Option DeviceState) → ((d : DeviceState) → o ≡ Some d → Has d) → (d : DeviceState) → option_map g o ≡ Some d → Has d
mapped_has g keeps None h d e = absurd (cc)
mapped_has g keeps (Some x) h d e = (let same : g x ≡ d = cc in subst Has same (keeps x (h x refl)))

either_has : (b : Bool) (x y : Option DeviceState) → ((d : DeviceState) → x ≡ Some d → Has d) → ((d : DeviceState) → y ≡ Some d → Has d) → (d : DeviceState) → cond b x y ≡ Some d → Has d
either_has true x y f g d e = f d e
either_has false x y f g d e = g d e

changed_has : (b : ℕ) (g : DeviceState → DeviceState) (devices : Devices) → ((d : DeviceState) → Has d → Has (g d)) → AllHave devices → AllHave (changed b g devices)
changed_has b g devices keeps h a = either_has (a == b) (option_map g (devices a)) (devices a) (mapped_has g keeps (devices a) (h a)) (h a)

all_have : (now : ℕ) (out : List ℕ) (o : Option Ldata) (devices : Devices) → AllHave devices → AllHave (all_take now out o devices)
all_have now out None devices h = h
all_have now out (Some f) devices h = λ a. either_has (is_among out a) (devices a) (option_map (λ d. takes d f now Whole) (devices a)) (h a) (mapped_has (λ d. takes d f now Whole) (λ d k. takes_has d f now k) (devices a) (h a))

others_have : (now : ℕ) (out : List ℕ) (o : Option Ldata) (devices : Devices) → AllHave devices → AllHave (others_take now out o devices)
others_have now out None devices h = h
others_have now out (Some f) devices h = by_group f.group where
  by_group : (b : Bool) → AllHave (cond b (all_take now out (Some f) devices) devices)
  by_group true = all_have now out (Some f) devices h
  by_group false = h

pub devices_have : (w : World) (e : Event) → IsCalm w e → AllHave w.devices → AllHave (devices_after w e)
devices_have w (Send octets) c h = h
devices_have w (From endpoint octets) c h = h
devices_have w Renew c h = h
devices_have w (Up age) c h = h
devices_have w (UpRefused age status) c h = h
devices_have w (Down age) c h = h
devices_have w (LoseUp age) c h = h
devices_have w (LoseDown age) c h = h
devices_have w (Bus left_out) c h = all_have w.tunnel.now left_out (next_frame w) w.devices h
devices_have w (BusTorn fresh octets) c h = absurd c
devices_have w (BusWorn octets) c h = absurd c
devices_have w (BusAgain device) c h = absurd c
devices_have w (DevSend device gateway left_out) c h = changed_has device pops (others_take w.tunnel.now (device ∷ left_out) (waiting_at w device) w.devices) (λ d k. k) (others_have w.tunnel.now (device ∷ left_out) (waiting_at w device) w.devices h)
devices_have w (DevRepeat device gateway) c h = changed_has device (λ d. repeats d w.tunnel.now) w.devices (λ d k. k) h
devices_have w (DevClose device) c h = changed_has device shut w.devices shut_has h
devices_have w GwAgain c h = absurd c
devices_have w GwRepeat c h = h
devices_have w GwClose c h = h
devices_have w (Cut device) c h = absurd c
devices_have w (On device) c h = absurd c
devices_have w (Pass ms) c h = h
