-- The frames that devices send are their own, whatever happens.
use Rattle.std.proofs.Common.{◌≡◌, ℕ, List, [], ◌∷◌, ◌++◌, drop, Bool, true, false, cond, Option, Some, None, refl, subst}
use Rattle.std.specs.Prelude.{◌==◌}
use Rattle.knx_model.specs.declared.address.IndAddr.{IndAddr}
use Rattle.knx_model.specs.declared.config.Image.{Image}
use Rattle.knx_model.specs.declared.connection.DeviceTook.{DeviceTook}
use Rattle.knx_model.specs.declared.connection.DeviceTook.TheVariants as took
use Rattle.knx_model.specs.declared.device.Took.{Took}
use Rattle.knx_model.specs.declared.device.Took.TheVariants.{NotMine, TooLong, Taken, Off}
use Rattle.knx_model.specs.declared.frames.cemi.Ldata.{Ldata}
use Rattle.knx_model.specs.declared.frames.value.Value.{Value}
use Rattle.knx_model.specs.declared.script.GroupService.{GroupService}
use Rattle.knx_model.specs.declared.script.GroupService.TheVariants.{Read, Write, Response}
use Rattle.knx_model.specs.Acts.{answerer}
use Rattle.knx_model.specs.ApduReading.{service_in, option_map}
use Rattle.knx_model.specs.DeviceConnection.{DeviceEnd, Closed, Idle, Answering, device_after, device_answered, after_answer, partner_of}
use Rattle.knx_model.specs.Device.{NonVolatile, runs, effect_in, answer_in}
use Rattle.knx_model.specs.DeviceState.{DeviceState, cut, switched_on, moved, value_of}
use Rattle.knx_model.specs.DeviceFrames.{Outcome, Whole, Torn, Worn, own_frame, queued, queued_to, queued_if, with_answer, acted, sender, connection_took, kept_after, taken_alone, taken_group, telegram_taken, answered_by, with_response, group_service, after_frame, after_outcome, takes_so, takes, took_of, taken_again, taken_last}
use Rattle.knx_model.specs.DeviceSending.{first_frame, waiting_frame, pops, outstanding_frame, repeat_frame, repeats, shut_from, shut}
use Rattle.line_model.specs.World.{World, Event, Bus, BusTorn, BusWorn, BusAgain, DevSend, DevRepeat, DevClose, Cut, On, Devices, changed, all_take, one_takes, others_take, devices_after, echo_after, frame_by, waiting_at, repeat_at, next_frame, is_among, or_before, none_if, now, step}
use Rattle.tunnel_law.proofs.Inside.{Every}
use Rattle.line_law.proofs.Coupled.{IsOwn, IsFrameOf, IsOwned, OwnIf, Owned}

-- ---- lists

pub every_append : {A : Type 0} (P : A → Type 0) (l k : List A) → Every P l → Every P k → Every P (l ++ k)
every_append P [] k h g = g
every_append P (x ∷ l) k h g = (h.0, every_append P l k h.1 g)

pub every_front : {A : Type 0} (P : A → Type 0) (l k : List A) → Every P (l ++ k) → Every P l
every_front P [] k h = tt
every_front P (x ∷ l) k h = (h.0, every_front P l k h.1)

pub every_rest : {A : Type 0} (P : A → Type 0) (l k : List A) → Every P (l ++ k) → Every P k
every_rest P [] k h = h
every_rest P (x ∷ l) k h = every_rest P l k h.1

-- ---- a frame of its own joins the unsent ones

own_queued : (b : ℕ) (d : DeviceState) (group : Bool) (destination : ℕ) (tpdu : List ℕ) → IsOwned b d → IsOwned b (queued d (own_frame d.address group destination tpdu))
own_queued b d group destination tpdu h =
    record { named = h.named; frames = every_append (IsFrameOf b) d.unsent (own_frame d.address group destination tpdu ∷ []) h.frames ((h.named, refl), tt) }

own_queued_if : (b : ℕ) (d : DeviceState) (to : IndAddr) (o : Option (List ℕ)) → IsOwned b d → IsOwned b (queued_if d to o)
own_queued_if b d to None h = h
own_queued_if b d to (Some tpdu) h = own_queued b d false to.raw tpdu h

own_answer : (b : ℕ) (d : DeviceState) (to : IndAddr) (t : ℕ) (o : Option (List ℕ)) → IsOwned b d → IsOwned b (with_answer d to t o)
own_answer b d to t None h = h
own_answer b d to t (Some octets) h =
    own_queued_if b (record d { connection = after_answer d.connection octets t }) to (device_answered d.connection octets) (record { named = h.named; frames = h.frames })

own_moved : (b : ℕ) (d : DeviceState) (kept : NonVolatile) → IsOwned b d → IsOwned b (moved d kept)
own_moved b d kept h = record { named = h.named; frames = h.frames }

own_acted : (b : ℕ) (d : DeviceState) (from : IndAddr) (t : ℕ) (outcome : Outcome) (k : DeviceTook) → IsOwned b d → IsOwned b (acted d from t outcome k)
own_acted b d from t outcome took.Dropped h = h
own_acted b d from t outcome took.Connected h = record { named = h.named; frames = tt }
own_acted b d from t outcome (took.Apdu apdu ack) h =
    let q : DeviceState = queued_to d from ack in
    own_answer b (moved q (kept_after q.kept (effect_in apdu) outcome)) from t (answer_in q.frames q.kept apdu) (own_moved b q (kept_after q.kept (effect_in apdu) outcome) (own_queued b d false from.raw ack h))
own_acted b d from t outcome (took.Again ack) h = own_queued b d false from.raw ack h
own_acted b d from t outcome (took.Nak nak) h = own_queued b d false from.raw nak h
own_acted b d from t outcome took.Acked h = h
own_acted b d from t outcome (took.Closed answer) h = own_queued_if b d from answer h

own_response : (b : ℕ) (d : DeviceState) (group : ℕ) (o : Option Value) → IsOwned b d → IsOwned b (with_response d group o)
own_response b d group None h = h
own_response b d group (Some value) h = own_queued b d true group _ h

own_answered : (b : ℕ) (d : DeviceState) (group : ℕ) (o : Option ℕ) → IsOwned b d → IsOwned b (answered_by d group o)
own_answered b d group None h = h
own_answered b d group (Some n) h = own_response b d group (value_of d n) h

own_telegram : (b : ℕ) (d : DeviceState) (group : ℕ) (image : Option Image) (service : Option GroupService) → IsOwned b d → IsOwned b (telegram_taken d group image service)
own_telegram b d group None service h = h
own_telegram b d group (Some image) None h = h
own_telegram b d group (Some image) (Some Read) h = own_answered b d group (answerer image group Read) h
own_telegram b d group (Some image) (Some (Write value)) h = record { named = h.named; frames = h.frames }
own_telegram b d group (Some image) (Some (Response value)) h = record { named = h.named; frames = h.frames }

own_after : (b : ℕ) (d : DeviceState) (f : Ldata) (t : ℕ) (outcome : Outcome) (group : Bool) → IsOwned b d → IsOwned b (record (cond {A = DeviceState} group (taken_group d f) (taken_alone d f t outcome)) { last = Some f })
own_after b d f t outcome true h =
    let g : IsOwned b (taken_group d f) = own_telegram b d f.destination (runs d.kept) (group_service (service_in f.tpdu)) h in
    record { named = g.named; frames = g.frames }
own_after b d f t outcome false h =
    let g : IsOwned b (taken_alone d f t outcome)
    = own_acted b (record d { connection = device_after d.connection (sender f) t (connection_took d f) }) (sender f) t outcome (connection_took d f) (record { named = h.named; frames = h.frames }) in
    record { named = g.named; frames = g.frames }

own_outcome : (b : ℕ) (d : DeviceState) (outcome : Outcome) → IsOwned b d → IsOwned b (after_outcome d outcome)
own_outcome b d Whole h = h
own_outcome b d (Torn fresh octets) h = record { named = h.named; frames = tt }
own_outcome b d (Worn octets) h = h

own_so : (b : ℕ) (d : DeviceState) (f : Ldata) (t : ℕ) (outcome : Outcome) (k : Took) → IsOwned b d → IsOwned b (takes_so d f t outcome k)
own_so b d f t outcome Taken h = own_outcome b (after_frame d f t outcome) outcome (own_after b d f t outcome f.group h)
own_so b d f t outcome NotMine h = h
own_so b d f t outcome TooLong h = h
own_so b d f t outcome Off h = h

pub own_takes : (b : ℕ) (d : DeviceState) (f : Ldata) (t : ℕ) (outcome : Outcome) → IsOwned b d → IsOwned b (takes d f t outcome)
own_takes b d f t outcome h = own_so b d f t outcome (took_of d f) h

own_last : (b : ℕ) (d : DeviceState) (t : ℕ) (o : Option Ldata) → IsOwned b d → IsOwned b (taken_last d t o)
own_last b d t None h = h
own_last b d t (Some f) h = own_takes b d f t Whole h

pub own_again : (b : ℕ) (d : DeviceState) (t : ℕ) → IsOwned b d → IsOwned b (taken_again d t)
own_again b d t h = own_last b d t d.last h

pub own_dropped : (P : Ldata → Type 0) (l : List Ldata) → Every P l → Every P (drop 1 l)
own_dropped P [] h = tt
own_dropped P (f ∷ l) h = h.1

pub own_pops : (b : ℕ) (d : DeviceState) → IsOwned b d → IsOwned b (pops d)
own_pops b d h = record { named = h.named; frames = own_dropped (IsFrameOf b) d.unsent h.frames }

pub own_repeats : (b : ℕ) (d : DeviceState) (t : ℕ) → IsOwned b d → IsOwned b (repeats d t)
own_repeats b d t h = record { named = h.named; frames = h.frames }

own_shut_from : (b : ℕ) (d : DeviceState) (o : Option IndAddr) → IsOwned b d → IsOwned b (shut_from d o)
own_shut_from b d None h = h
own_shut_from b d (Some partner) h = own_queued b (record d { connection = Closed }) false partner.raw _ (record { named = h.named; frames = h.frames })

pub own_shut : (b : ℕ) (d : DeviceState) → IsOwned b d → IsOwned b (shut d)
own_shut b d h = own_shut_from b d (partner_of d.connection) h

pub own_cut : (b : ℕ) (d : DeviceState) → IsOwned b d → IsOwned b (cut d)
own_cut b d h = record { named = h.named; frames = tt }

own_on_by : (b : ℕ) (d e : DeviceState) (t : Bool) → IsOwned b d → IsOwned b e → IsOwned b (cond {A = DeviceState} t d e)
own_on_by b d e true h g = h
own_on_by b d e false h g = g

pub own_on : (b : ℕ) (d : DeviceState) → IsOwned b d → IsOwned b (switched_on d)
own_on b d h = own_on_by b d _ d.power h (record { named = h.named; frames = tt })

-- ---- all devices of the line

abbrev AllOwned : Devices → Type 0
AllOwned devices = (b : ℕ) (d : DeviceState) → devices b ≡ Some d → IsOwned b d

pub mapped : (P : DeviceState → Type 0) (f : DeviceState → DeviceState) (o : Option DeviceState) → ((d : DeviceState) → o ≡ Some d → P (f d)) → (d : DeviceState) → option_map f o ≡ Some d → P d
mapped P f None h d e = absurd (cc)
mapped P f (Some x) h d e = let same : f x ≡ d = cc in subst P same (h x refl)

pub chosen : (P : DeviceState → Type 0) (t : Bool) (o p : Option DeviceState) → ((d : DeviceState) → o ≡ Some d → P d) → ((d : DeviceState) → p ≡ Some d → P d) → (d : DeviceState) → cond t o p ≡ Some d → P d
chosen P true o p h g d e = h d e
chosen P false o p h g d e = g d e

own_changed : (device : ℕ) (f : DeviceState → DeviceState) (devices : Devices) → ((b : ℕ) (d : DeviceState) → IsOwned b d → IsOwned b (f d)) → AllOwned devices → AllOwned (changed device f devices)
own_changed device f devices k h b d e = chosen (IsOwned b) (b == device) (option_map f (devices b)) (devices b) (mapped (IsOwned b) f (devices b) (λ x q. k b x (h b x q))) (h b) d e

own_all : (t : ℕ) (left_out : List ℕ) (o : Option Ldata) (devices : Devices) → AllOwned devices → AllOwned (all_take t left_out o devices)
own_all t left_out None devices h b d e = h b d e
own_all t left_out (Some f) devices h b d e =
    chosen (IsOwned b) (is_among left_out b) (devices b) (option_map (λ (x : DeviceState). takes x f t Whole) (devices b)) (h b) (mapped (IsOwned b) (λ x. takes x f t Whole) (devices b) (λ x q. own_takes b x f t Whole (h b x q))) d e

own_one : (t : ℕ) (outcome : Outcome) (o : Option Ldata) (devices : Devices) → AllOwned devices → AllOwned (one_takes t outcome o devices)
own_one t outcome None devices h = h
own_one t outcome (Some f) devices h = own_changed f.destination (λ d. takes d f t outcome) devices (λ b d q. own_takes b d f t outcome q) h

own_others : (t : ℕ) (left_out : List ℕ) (o : Option Ldata) (devices : Devices) → AllOwned devices → AllOwned (others_take t left_out o devices)
own_others t left_out None devices h = h
own_others t left_out (Some f) devices h = by_group f.group where
  by_group : (g : Bool) → AllOwned (cond {A = Devices} g (all_take t left_out (Some f) devices) devices)
  by_group true = own_all t left_out (Some f) devices h
  by_group false = h

own_devices : (w : World) (e : Event) → AllOwned w.devices → AllOwned (devices_after w e)
own_devices w (Bus left_out) h = own_all (now w) left_out (next_frame w) w.devices h
own_devices w (BusTorn fresh octets) h = own_one (now w) (Torn fresh octets) (next_frame w) w.devices h
own_devices w (BusWorn octets) h = own_one (now w) (Worn octets) (next_frame w) w.devices h
own_devices w (BusAgain device) h = own_changed device (λ d. taken_again d (now w)) w.devices (λ b d q. own_again b d (now w) q) h
own_devices w (DevSend device gateway left_out) h = own_changed device pops _ own_pops (own_others (now w) (device ∷ left_out) (waiting_at w device) w.devices h)
own_devices w (DevRepeat device gateway) h = own_changed device (λ d. repeats d (now w)) w.devices (λ b d q. own_repeats b d (now w) q) h
own_devices w (DevClose device) h = own_changed device shut w.devices own_shut h
own_devices w (Cut device) h = own_changed device cut w.devices own_cut h
own_devices w (On device) h = own_changed device switched_on w.devices own_on h
own_devices w _ h = h

-- ---- the frames that they send

first_owned : (b : ℕ) (l : List Ldata) (f : Ldata) → Every (IsFrameOf b) l → first_frame l ≡ Some f → IsFrameOf b f
first_owned b [] f h e = absurd (cc)
first_owned b (x ∷ l) f h e = let same : x ≡ f = cc in subst (IsFrameOf b) same h.0

sends_owned : (b : ℕ) (o : Option DeviceState) (f : Ldata) → ((d : DeviceState) → o ≡ Some d → IsOwned b d) → frame_by waiting_frame o ≡ Some f → IsFrameOf b f
sends_owned b None f h e = absurd (cc)
sends_owned b (Some d) f h e = first_owned b d.unsent f (h d refl).frames e

pub waiting_owned : (w : World) (b : ℕ) (f : Ldata) → Owned w → waiting_at w b ≡ Some f → IsFrameOf b f
waiting_owned w b f h e = sends_owned b (w.devices b) f (h.devices b) e

outstanding_owned : (address : IndAddr) (b : ℕ) (e : DeviceEnd) (f : Ldata) → address.raw ≡ b → outstanding_frame address e ≡ Some f → IsFrameOf b f
outstanding_owned address b Closed f n e = absurd (cc)
outstanding_owned address b (Idle s) f n e = absurd (cc)
outstanding_owned address b (Answering s a) f n e = let same : own_frame address false s.partner.raw a.frame ≡ f = cc in subst (IsFrameOf b) same (n, refl)

again_owned : (b : ℕ) (o : Option DeviceState) (f : Ldata) → ((d : DeviceState) → o ≡ Some d → IsOwned b d) → frame_by repeat_frame o ≡ Some f → IsFrameOf b f
again_owned b None f h e = absurd (cc)
again_owned b (Some d) f h e = outstanding_owned d.address b d.connection f (h d refl).named e

pub repeat_owned : (w : World) (b : ℕ) (f : Ldata) → Owned w → repeat_at w b ≡ Some f → IsFrameOf b f
repeat_owned w b f h e = again_owned b (w.devices b) f (h.devices b) e

echo_none : (o p : Option Ldata) → OwnIf p → OwnIf (none_if o p)
echo_none None p h = h
echo_none (Some f) p h = tt

echo_before : (o p : Option Ldata) → ((f : Ldata) → o ≡ Some f → IsOwn f) → OwnIf p → OwnIf (or_before o p)
echo_before None p h g = g
echo_before (Some f) p h g = h f refl

own_echo : (w : World) (e : Event) → Owned w → OwnIf (echo_after w e)
own_echo w (Bus left_out) h = echo_none (next_frame w) w.echo h.echo
own_echo w (BusTorn fresh octets) h = echo_none (next_frame w) w.echo h.echo
own_echo w (BusWorn octets) h = echo_none (next_frame w) w.echo h.echo
own_echo w (DevSend device gateway left_out) h = echo_before (waiting_at w device) w.echo (λ f e. (waiting_owned w device f h e).1) h.echo
own_echo w (DevRepeat device gateway) h = echo_before (repeat_at w device) w.echo (λ f e. (repeat_owned w device f h e).1) h.echo
own_echo w _ h = h.echo

pub owned_step : (w : World) (e : Event) → Owned w → Owned (step w e)
owned_step w e h = record { devices = own_devices w e h.devices; echo = own_echo w e h }
