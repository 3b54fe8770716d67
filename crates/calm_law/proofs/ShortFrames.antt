-- On a calm line each frame that a device sends has a TPDU that fits into a request, where the values that it holds at the beginning fit into a response.
use Rattle.std.proofs.Common.{◌≡◌, ℕ, ◌≤◌, List, [], ◌∷◌, ◌++◌, length, drop, Bool, true, false, cond, Option, Some, None, refl, sym, subst, arith}
use Rattle.std.specs.Prelude.{◌==◌}
use Rattle.knx_model.specs.declared.address.IndAddr.{IndAddr}
use Rattle.knx_model.specs.declared.config.Image.{Image}
use Rattle.knx_model.specs.declared.connection.DeviceTook.{DeviceTook}
use Rattle.knx_model.specs.declared.connection.DeviceTook.TheVariants as took
use Rattle.knx_model.specs.declared.connection.TransportFrame.{TransportFrame}
use Rattle.knx_model.specs.declared.connection.TransportFrame.TheVariants.{Connect, Disconnect, Ack, Nak, Numbered, Other}
use Rattle.knx_model.specs.declared.device.Took.{Took}
use Rattle.knx_model.specs.declared.device.Took.TheVariants.{NotMine, TooLong, Taken, Off}
use Rattle.knx_model.specs.declared.frames.cemi.Ldata.{Ldata}
use Rattle.knx_model.specs.declared.frames.value.Value.{Value}
use Rattle.knx_model.specs.declared.script.GroupService.{GroupService}
use Rattle.knx_model.specs.declared.script.GroupService.TheVariants.{Read, Write, Response}
use Rattle.knx_model.specs.Acts.{is_written, answerer}
use Rattle.knx_model.specs.ApduReading.{option_map, service_in}
use Rattle.knx_model.specs.Connection.{Session, IsApdu, numbered_data, disconnect, is_before, is_with}
use Rattle.knx_model.specs.Device.{effect_in, answer_in, runs}
use Rattle.knx_model.specs.DeviceConnection.{DeviceEnd, Closed, Idle, Answering, partner_of, idle_took, answering_took, other_sender_took, closed_took, device_took, device_went_on, device_acknowledged, device_left, device_after, device_answered, after_answer, device_repeated}
use Rattle.knx_model.specs.DeviceState.{DeviceState, moved, same_states, value_of, zero_values}
use Rattle.knx_model.specs.DeviceFrames.{Whole, own_frame, kept_after, queued, queued_to, queued_if, with_answer, acted, took_of, takes, takes_so, taken_alone, taken_group, telegram_taken, answered_by, with_response, group_service, response_octets, connection_took, sender}
use Rattle.knx_model.specs.DeviceSending.{first_frame, pops, repeats, shut, shut_from, repeat_frame, outstanding_frame}
use Rattle.line_model.specs.Calm.{IsCalm, AreCalm}
use Rattle.line_model.specs.Fresh.{IsFresh}
use Rattle.line_model.specs.World.{World, Event, Devices, Send, From, Renew, Up, UpRefused, Down, LoseUp, LoseDown, Bus, BusTorn, BusWorn, BusAgain, DevSend, DevRepeat, DevClose, GwAgain, GwRepeat, GwClose, Cut, On, Pass, changed, all_take, others_take, is_among, next_frame, waiting_at, frame_by, devices_after, replay}
use Rattle.session_law.proofs.Apdus.{answer_is_apdu}
use Rattle.tunnel_law.proofs.Inside.{Every}
use Rattle.calm_law.specs.CalmLine.{FitsResponse, HaveShortValues}
use Rattle.calm_law.proofs.Short.{IsShort, SendsShort, AreShort}
use Rattle.calm_law.proofs.ShortValues.{RangedService, ranged_group, AllFit, value_in_fits, written_fit, zeros_fit, either_all}

abbrev IsFew : List ℕ → Type 0
IsFew octets = (1 ≤ length octets) × (length octets ≤ 64)

abbrev EndIsFew : DeviceEnd → Type 0
EndIsFew Closed = Unit {0}
EndIsFew (Idle s) = Unit {0}
EndIsFew (Answering s a) = IsFew a.frame

record Few (d : DeviceState) : Type 0 where
  unsent : Every (λ (f : Ldata). IsFew f.tpdu) d.unsent
  connection : EndIsFew d.connection
  values : AllFit d.values

every_more : (l : List Ldata) (f : Ldata) → Every (λ (x : Ldata). IsFew x.tpdu) l → IsFew f.tpdu → Every (λ (x : Ldata). IsFew x.tpdu) (l ++ f ∷ [])
every_more [] f h g = (g, tt)
every_more (x ∷ l) f h g = (h.0, every_more l f h.1 g)

queued_few : (d : DeviceState) (f : Ldata) → Few d → IsFew f.tpdu → Few (queued d f)
queued_few d f h g = record { unsent = every_more d.unsent f h.unsent g; connection = h.connection; values = h.values }

-- ---- what a connection answers

abbrev TookFew : DeviceTook → Type 0
TookFew took.Dropped = Unit {0}
TookFew took.Connected = Unit {0}
TookFew (took.Apdu apdu ack) = IsFew ack
TookFew (took.Again ack) = IsFew ack
TookFew (took.Nak nak) = IsFew nak
TookFew took.Acked = Unit {0}
TookFew (took.Closed None) = Unit {0}
TookFew (took.Closed (Some octets)) = IsFew octets

took_if : (b : Bool) (x y : DeviceTook) → TookFew x → TookFew y → TookFew (cond b x y)
took_if true x y h k = h
took_if false x y h k = k

idle_few : (s : Session) (f : TransportFrame) → TookFew (idle_took s f)
idle_few s Connect = tt
idle_few s Disconnect = tt
idle_few s (Ack number) = took_if (is_before number s.number) _ _ tt (omega arith, omega arith)
idle_few s (Nak number) = tt
idle_few s (Numbered number apdu) = took_if (number == s.expected) _ _ (omega arith, omega arith) (took_if (is_before number s.expected) _ _ (omega arith, omega arith) (omega arith, omega arith))
idle_few s Other = tt

answering_few : (s : Session) (f : TransportFrame) → TookFew (answering_took s f)
answering_few s Connect = tt
answering_few s Disconnect = tt
answering_few s (Ack number) = took_if (number == s.number) _ _ tt (idle_few s (Ack number))
answering_few s (Nak number) = tt
answering_few s (Numbered number apdu) = took_if (number == s.expected) _ _ tt (idle_few s (Numbered number apdu))
answering_few s Other = tt

other_few : (f : TransportFrame) → TookFew (other_sender_took f)
other_few Connect = (omega arith, omega arith)
other_few Disconnect = tt
other_few (Ack number) = tt
other_few (Nak number) = tt
other_few (Numbered number apdu) = tt
other_few Other = tt

closed_few : (f : TransportFrame) → TookFew (closed_took f)
closed_few Connect = tt
closed_few Disconnect = tt
closed_few (Ack number) = tt
closed_few (Nak number) = tt
closed_few (Numbered number apdu) = (omega arith, omega arith)
closed_few Other = tt

took_few : (e : DeviceEnd) (from : IndAddr) (f : TransportFrame) → TookFew (device_took e from f)
unfolding device_took
took_few Closed from f = closed_few f
took_few (Idle s) from f = took_if (is_with s from) _ _ (idle_few s f) (other_few f)
took_few (Answering s a) from f = took_if (is_with s from) _ _ (answering_few s f) (other_few f)

-- ---- what it knows then

end_if : (b : Bool) (x y : DeviceEnd) → EndIsFew x → EndIsFew y → EndIsFew (cond b x y)
end_if true x y h k = h
end_if false x y h k = k

went_on : (onward : Session → Session) (e : DeviceEnd) → EndIsFew e → EndIsFew (device_went_on onward e)
went_on onward Closed h = tt
went_on onward (Idle s) h = tt
went_on onward (Answering s a) h = h

acked_few : (e : DeviceEnd) (now : ℕ) → EndIsFew (device_acknowledged e now)
acked_few Closed now = tt
acked_few (Idle s) now = tt
acked_few (Answering s a) now = tt

left_few : (e : DeviceEnd) (from : IndAddr) → EndIsFew e → EndIsFew (device_left e from)
left_few Closed from h = tt
left_few (Idle s) from h = end_if (is_with s from) Closed (Idle s) tt tt
left_few (Answering s a) from h = end_if (is_with s from) Closed (Answering s a) tt h

after_few : (e : DeviceEnd) (from : IndAddr) (now : ℕ) (t : DeviceTook) → EndIsFew e → EndIsFew (device_after e from now t)
unfolding device_after
after_few e from now took.Dropped h = h
after_few e from now took.Connected h = tt
after_few e from now (took.Apdu apdu ack) h = went_on _ e h
after_few e from now (took.Again ack) h = went_on _ e h
after_few e from now (took.Nak nak) h = went_on _ e h
after_few e from now took.Acked h = acked_few e now
after_few e from now (took.Closed answer) h = left_few e from h

numbered_few : (n : ℕ) (v : List ℕ) → IsApdu v → IsFew (numbered_data n v)
numbered_few n [] h = absurd h
numbered_few n (x ∷ rest) h = (omega arith, (let few = h.2 in omega (arith, few)))

answer_few : (e : DeviceEnd) (v : List ℕ) (now : ℕ) → EndIsFew e → IsApdu v → EndIsFew (after_answer e v now)
unfolding after_answer
answer_few Closed v now h a = tt
answer_few (Idle s) v now h a = numbered_few s.number v a
answer_few (Answering s x) v now h a = h

abbrev OptionFew : Option (List ℕ) → Type 0
OptionFew None = Unit {0}
OptionFew (Some octets) = IsFew octets

answered_few : (e : DeviceEnd) (v : List ℕ) → IsApdu v → OptionFew (device_answered e v)
unfolding device_answered
answered_few Closed v a = tt
answered_few (Idle s) v a = numbered_few s.number v a
answered_few (Answering s x) v a = tt

-- ---- a frame to it alone

if_few : (d : DeviceState) (to : IndAddr) (o : Option (List ℕ)) → Few d → OptionFew o → Few (queued_if d to o)
if_few d to None h g = h
if_few d to (Some octets) h g = queued_few d (own_frame d.address false to.raw octets) h g

with_few : (d : DeviceState) (to : IndAddr) (now : ℕ) (o : Option (List ℕ)) → Few d → ((v : List ℕ) → o ≡ Some v → IsApdu v) → Few (with_answer d to now o)
with_few d to now None h a = h
with_few d to now (Some v) h a =
    if_few (record d { connection = after_answer d.connection v now }) to (device_answered d.connection v) (record { unsent = h.unsent; connection = answer_few d.connection v now h.connection (a v refl); values = h.values })
    (answered_few d.connection v (a v refl))

acted_few : (d : DeviceState) (from : IndAddr) (now : ℕ) (t : DeviceTook) → Few d → TookFew t → Few (acted d from now Whole t)
acted_few d from now took.Dropped h t = h
acted_few d from now took.Connected h t = record { unsent = tt; connection = h.connection; values = h.values }
acted_few d from now (took.Apdu apdu ack) h t =
    let q : Few (queued_to d from ack) = queued_few d (own_frame d.address false from.raw ack) h t in
    with_few (moved (queued_to d from ack) (kept_after d.kept (effect_in apdu) Whole)) from now (answer_in d.frames d.kept apdu)
    (record { unsent = q.unsent; connection = q.connection; values = either_all (same_states d.kept (kept_after d.kept (effect_in apdu) Whole)) d.values zero_values h.values zeros_fit }) (λ v e. answer_is_apdu d.frames d.kept apdu v e)
acted_few d from now (took.Again ack) h t = queued_few d (own_frame d.address false from.raw ack) h t
acted_few d from now (took.Nak nak) h t = queued_few d (own_frame d.address false from.raw nak) h t
acted_few d from now took.Acked h t = h
acted_few d from now (took.Closed None) h t = h
acted_few d from now (took.Closed (Some octets)) h t = queued_few d (own_frame d.address false from.raw octets) h t

-- ---- a group telegram

response_few : (d : DeviceState) (group : ℕ) (o : Option Value) → Few d → FitsResponse o → Few (with_response d group o)
response_few d group None h g = h
response_few d group (Some value) h g = queued_few d (own_frame d.address true group (response_octets value)) h (omega arith, g)

answered_by_few : (d : DeviceState) (group : ℕ) (o : Option ℕ) → Few d → Few (answered_by d group o)
answered_by_few d group None h = h
answered_by_few d group (Some o) h = response_few d group (value_of d o) h (value_in_fits d.values o (runs d.kept) h.values)

telegram_few : (d : DeviceState) (group : ℕ) (image : Option Image) (s : Option GroupService) → Few d → RangedService (Unit {0}) s → Few (telegram_taken d group image s)
telegram_few d group None s h r = h
telegram_few d group (Some image) None h r = h
telegram_few d group (Some image) (Some Read) h r = answered_by_few d group (answerer image group Read) h
telegram_few d group (Some image) (Some (Write value)) h r = record { unsent = h.unsent; connection = h.connection; values = written_fit (is_written image group (Write value)) value d.values r h.values }
telegram_few d group (Some image) (Some (Response value)) h r = record { unsent = h.unsent; connection = h.connection; values = written_fit (is_written image group (Response value)) value d.values r h.values }

-- ---- any frame

last_few : (d : DeviceState) (o : Option Ldata) → Few d → Few (record d { last = o })
last_few d o h = record { unsent = h.unsent; connection = h.connection; values = h.values }

either_few : (b : Bool) (x y : DeviceState) → Few x → Few y → Few (cond b x y)
either_few true x y h k = h
either_few false x y h k = k

taken_few : (d : DeviceState) (f : Ldata) (now : ℕ) (t : Took) → Few d → Few (takes_so d f now Whole t)
taken_few d f now NotMine h = h
taken_few d f now TooLong h = h
taken_few d f now Off h = h
taken_few d f now Taken h =
    last_few (cond f.group (taken_group d f) (taken_alone d f now Whole)) (Some f)
    (either_few f.group (taken_group d f) (taken_alone d f now Whole) (telegram_few d f.destination (runs d.kept) (group_service (service_in f.tpdu)) h (ranged_group (Unit {0}) f.tpdu (λ read. tt)))
    (acted_few (record d { connection = device_after d.connection (sender f) now (connection_took d f) }) (sender f) now (connection_took d f)
    (record { unsent = h.unsent; connection = after_few d.connection (sender f) now (connection_took d f) h.connection; values = h.values }) (took_few d.connection (sender f) _)))

takes_few : (d : DeviceState) (f : Ldata) (now : ℕ) → Few d → Few (takes d f now Whole)
takes_few d f now h = taken_few d f now (took_of d f) h

-- ---- its own sendings

dropped_few : (l : List Ldata) → Every (λ (f : Ldata). IsFew f.tpdu) l → Every (λ (f : Ldata). IsFew f.tpdu) (drop 1 l)
dropped_few [] h = tt
dropped_few (f ∷ l) h = h.1

pops_few : (d : DeviceState) → Few d → Few (pops d)
pops_few d h = record { unsent = dropped_few d.unsent h.unsent; connection = h.connection; values = h.values }

repeated_few : (e : DeviceEnd) (now : ℕ) → EndIsFew e → EndIsFew (device_repeated e now)
repeated_few Closed now h = tt
repeated_few (Idle s) now h = tt
repeated_few (Answering s a) now h = h

repeats_few : (now : ℕ) (d : DeviceState) → Few d → Few (repeats d now)
repeats_few now d h = record { unsent = h.unsent; connection = repeated_few d.connection now h.connection; values = h.values }

shut_few : (d : DeviceState) → Few d → Few (shut d)
shut_few d h = by_partner (partner_of d.connection) where
  by_partner : (o : Option IndAddr) → Few (shut_from d o)
  by_partner None = h
  by_partner (Some partner) = queued_few (record d { connection = Closed }) (own_frame d.address false partner.raw disconnect) (record { unsent = h.unsent; connection = tt; values = h.values }) (omega arith, omega arith)

-- ---- all devices

abbrev AllFew : Devices → Type 0
AllFew devices = (a : ℕ) (d : DeviceState) → devices a ≡ Some d → Few d

mapped_few : (g : DeviceState → DeviceState) → ((d : DeviceState) → Few d → Few (g d)) → (o : Option DeviceState) → ((d : DeviceState) → o ≡ Some d → Few d) → (d : DeviceState) → option_map g o ≡ Some d → Few d
mapped_few g keeps None h d e = absurd (cc)
mapped_few g keeps (Some x) h d e = (let same : g x ≡ d = cc in subst Few same (keeps x (h x refl)))

one_of_two : (b : Bool) (x y : Option DeviceState) → ((d : DeviceState) → x ≡ Some d → Few d) → ((d : DeviceState) → y ≡ Some d → Few d) → (d : DeviceState) → cond b x y ≡ Some d → Few d
one_of_two true x y f g d e = f d e
one_of_two false x y f g d e = g d e

changed_few : (b : ℕ) (g : DeviceState → DeviceState) (devices : Devices) → ((d : DeviceState) → Few d → Few (g d)) → AllFew devices → AllFew (changed b g devices)
changed_few b g devices keeps h a = one_of_two (a == b) (option_map g (devices a)) (devices a) (mapped_few g keeps (devices a) (h a)) (h a)

all_few : (now : ℕ) (out : List ℕ) (o : Option Ldata) (devices : Devices) → AllFew devices → AllFew (all_take now out o devices)
all_few now out None devices h = h
all_few now out (Some f) devices h = λ a. one_of_two (is_among out a) (devices a) (option_map (λ d. takes d f now Whole) (devices a)) (h a) (mapped_few (λ d. takes d f now Whole) (λ d k. takes_few d f now k) (devices a) (h a))

others_few : (now : ℕ) (out : List ℕ) (o : Option Ldata) (devices : Devices) → AllFew devices → AllFew (others_take now out o devices)
others_few now out None devices h = h
others_few now out (Some f) devices h = by_group f.group where
  by_group : (b : Bool) → AllFew (cond b (all_take now out (Some f) devices) devices)
  by_group true = all_few now out (Some f) devices h
  by_group false = h

devices_few : (w : World) (e : Event) → IsCalm w e → AllFew w.devices → AllFew (devices_after w e)
devices_few w (Send octets) c h = h
devices_few w (From endpoint octets) c h = h
devices_few w Renew c h = h
devices_few w (Up age) c h = h
devices_few w (UpRefused age status) c h = h
devices_few w (Down age) c h = h
devices_few w (LoseUp age) c h = h
devices_few w (LoseDown age) c h = h
devices_few w (Bus left_out) c h = all_few w.tunnel.now left_out (next_frame w) w.devices h
devices_few w (BusTorn fresh octets) c h = absurd c
devices_few w (BusWorn octets) c h = absurd c
devices_few w (BusAgain device) c h = absurd c
devices_few w (DevSend device gateway left_out) c h = changed_few device pops (others_take w.tunnel.now (device ∷ left_out) (waiting_at w device) w.devices) pops_few (others_few w.tunnel.now (device ∷ left_out) (waiting_at w device) w.devices h)
devices_few w (DevRepeat device gateway) c h = changed_few device (λ d. repeats d w.tunnel.now) w.devices (repeats_few w.tunnel.now) h
devices_few w (DevClose device) c h = changed_few device shut w.devices shut_few h
devices_few w GwAgain c h = absurd c
devices_few w GwRepeat c h = h
devices_few w GwClose c h = h
devices_few w (Cut device) c h = absurd c
devices_few w (On device) c h = absurd c
devices_few w (Pass ms) c h = h

-- ---- so what they send is short

first_few : (l : List Ldata) → Every (λ (f : Ldata). IsFew f.tpdu) l → IsShort (first_frame l)
first_few [] h = tt
first_few (f ∷ l) h = h.0

repeat_few : (address : IndAddr) (e : DeviceEnd) → EndIsFew e → IsShort (outstanding_frame address e)
repeat_few address Closed h = tt
repeat_few address (Idle s) h = tt
repeat_few address (Answering s a) h = h

by_device : (frame : DeviceState → Option Ldata) → ((d : DeviceState) → Few d → IsShort (frame d)) → (o : Option DeviceState) → ((d : DeviceState) → o ≡ Some d → Few d) → IsShort (frame_by frame o)
by_device frame f None h = tt
by_device frame f (Some d) h = f d (h d refl)

sends_few : (w : World) (e : Event) → AllFew w.devices → SendsShort w e
sends_few w (DevSend device gateway left_out) h = by_device (λ d. first_frame d.unsent) (λ d k. first_few d.unsent k.unsent) (w.devices device) (h device)
sends_few w (DevRepeat device gateway) h = by_device repeat_frame (λ d k. repeat_few d.address d.connection k.connection) (w.devices device) (h device)
sends_few w (Send octets) h = tt
sends_few w (From endpoint octets) h = tt
sends_few w Renew h = tt
sends_few w (Up age) h = tt
sends_few w (UpRefused age status) h = tt
sends_few w (Down age) h = tt
sends_few w (LoseUp age) h = tt
sends_few w (LoseDown age) h = tt
sends_few w (Bus left_out) h = tt
sends_few w (BusTorn fresh octets) h = tt
sends_few w (BusWorn octets) h = tt
sends_few w (BusAgain device) h = tt
sends_few w (DevClose device) h = tt
sends_few w GwAgain h = tt
sends_few w GwRepeat h = tt
sends_few w GwClose h = tt
sends_few w (Cut device) h = tt
sends_few w (On device) h = tt
sends_few w (Pass ms) h = tt

first_devices : (start : World) → IsFresh start → HaveShortValues start → AllFew start.devices
first_devices start f values a d is =
    let rest = f.devices a d is in record { unsent = subst (λ l. Every (λ (x : Ldata). IsFew x.tpdu) l) (sym rest.nothing_unsent) tt; connection = subst EndIsFew (sym rest.unconnected) tt; values = values a d is }

always_few : (start : World) (events : List Event) → IsFresh start → HaveShortValues start → AreCalm start events → AllFew (replay start events).devices
always_few start [] f values c = first_devices start f values
always_few start (e ∷ events) f values c = devices_few (replay start events) e c.0 (always_few start events f values c.1)

pub are_short : (start : World) (events : List Event) → IsFresh start → HaveShortValues start → AreCalm start events → AreShort start events
are_short start [] f values c = tt
are_short start (e ∷ events) f values c = (sends_few (replay start events) e (always_few start events f values c.1), are_short start events f values c.1)
