-- Up to the nearest time there is nothing to send, and then there is.
use Rattle.std.proofs.Common.{◌≡◌, ◌≢◌, ℕ, ◌+◌, ◌<◌, ◌≤◌, ◌⊎◌, inl, inr, Bool, true, false, List, [], ◌∷◌, Option, Some, None, refl, ap, sym, subst, ◌∙◌, arith, if◌then◌else◌}
use Rattle.std.specs.Prelude.{nat_lt, IfNone, IfSome}
use Rattle.std.proofs.lemmas.Bool.{cases_lt}
use Rattle.knx_model.specs.declared.connection.DeviceExpired.{DeviceExpired}
use Rattle.knx_model.specs.declared.connection.DeviceExpired.TheVariants as expired
use Rattle.knx_model.specs.declared.frames.cemi.Ldata.{Ldata}
use Rattle.knx_model.specs.Connection.{Session, last_time, wait_end, earlier_time, idle_wait, ack_wait, most_repeats, nearer}
use Rattle.knx_model.specs.ConnectionLaws.{Reached}
use Rattle.knx_model.specs.DeviceConnection.{DeviceEnd, Closed, Idle, Answering, Outstanding, device_deadline, device_expired, outstanding_deadline}
use Rattle.knx_model.specs.DeviceSending.{due_sending, next_sending, sending_of}
use Rattle.knx_model.specs.DeviceState.{DeviceState}
use Rattle.line_model.specs.Fresh.{HasNothingToSend, Settled, SettledFor}
use Rattle.line_model.specs.Gateway.{Gateway, Channel, Nothing, gateway_expired}
use Rattle.line_model.specs.GatewayEnd.{channel_deadline}
use Rattle.line_model.specs.Tunnel.{Mode}
use Rattle.line_model.specs.World.{World, now}
use Rattle.transport_conn.proofs.DeviceEnd.{due, reached}
use Rattle.tunnel_sim.proofs.Deadlines.{IsBefore, IsExact, earlier_within, gateway_still, its_channel, wait_within}
use Rattle.line_sim.specs.Due.{IsNearest, deadline_at}
use Rattle.line_sim.specs.Line.{LineNow, IsNow}
use Rattle.line_sim.specs.Places.{device_at}
use Rattle.line_sim.proofs.Nearest.{least_of_both, neither}

-- ---- no time is beyond the last one

outstanding_within : (a : Outstanding) (s : Session) → outstanding_deadline a (wait_end idle_wait s.last) ≤ last_time
outstanding_within a s = by_repeats (nat_lt a.repeats most_repeats)
  where
    by_repeats : (t : Bool) → (if t then earlier_time (wait_end ack_wait a.sent) (wait_end idle_wait s.last) else wait_end idle_wait s.last) ≤ last_time
    by_repeats true = earlier_within _ _ (wait_within ack_wait a.sent) (wait_within idle_wait s.last)
    by_repeats false = wait_within idle_wait s.last

device_within : (e : DeviceEnd) (t : ℕ) → device_deadline e ≡ Some t → t ≤ last_time
unfolding device_deadline
device_within Closed t h = cc
device_within (Idle s) t h = let is : wait_end idle_wait s.last ≡ t = cc in subst (λ (x : ℕ). x ≤ last_time) is (wait_within idle_wait s.last)
device_within (Answering s a) t h = let is : outstanding_deadline a (wait_end idle_wait s.last) ≡ t = cc in subst (λ (x : ℕ). x ≤ last_time) is (outstanding_within a s)

-- ---- a device

closed_has_none : (e : DeviceEnd) → device_deadline e ≡ None → e ≡ Closed
unfolding device_deadline
closed_has_none Closed h = refl
closed_has_none (Idle s) h = cc
closed_has_none (Answering s a) h = cc

closed_waits : (at : ℕ) → device_expired Closed at ≡ expired.Nothing
unfolding device_expired
closed_waits at = refl

waits_so : (x : DeviceExpired) → (x ≢ expired.Nothing → ⊥) → x ≡ expired.Nothing
waits_so expired.Nothing h = refl
waits_so (expired.Repeat tpdu) h = absurd (h (λ e. cc))
waits_so (expired.Closed tpdu) h = absurd (h (λ e. cc))

device_waits : (e : DeviceEnd) (at : ℕ) (o : Option ℕ) → device_deadline e ≡ o → IsBefore at o → device_expired e at ≡ expired.Nothing
device_waits e at None is before = ap (λ (x : DeviceEnd). device_expired x at) (closed_has_none e is) ∙ closed_waits at
device_waits e at (Some t) is before =
    let early : at < last_time = omega (arith, device_within e t is, before) in
    waits_so (device_expired e at) (λ some. late (subst (λ (o : Option ℕ). Reached o at) is (reached e at early some)))
  where
    late : t ≤ at → ⊥
    late h = omega (arith, h, before)

nothing_left : (d : DeviceState) (at : ℕ) → next_sending d at ≡ None → d.unsent ≡ []
nothing_left d at h = by_unsent d.unsent h
  where
    by_unsent : (frames : List Ldata) → sending_of frames (device_expired d.connection at) ≡ None → frames ≡ []
    by_unsent [] e = refl
    by_unsent (x ∷ frames) e = cc

device_still : (d : DeviceState) (at : ℕ) → d.unsent ≡ [] → IsBefore at (device_deadline d.connection) → next_sending d at ≡ None
device_still d at none before =
    ap (λ (frames : List Ldata). sending_of frames (device_expired d.connection at)) none ∙ ap due_sending (device_waits d.connection at (device_deadline d.connection) refl before)

nothing_due : (x : DeviceExpired) → due_sending x ≡ None → x ≡ expired.Nothing
nothing_due expired.Nothing h = refl
nothing_due (expired.Repeat tpdu) h = cc
nothing_due (expired.Closed tpdu) h = cc

device_then : (d : DeviceState) (t at : ℕ) → device_deadline d.connection ≡ Some t → t ≤ at → at < last_time → next_sending d at ≡ None → ⊥
device_then d t at is past early none =
    let empty : d.unsent ≡ [] = nothing_left d at none in
    let nothing : device_expired d.connection at ≡ expired.Nothing = nothing_due (device_expired d.connection at) (sym (ap (λ (frames : List Ldata). sending_of frames (device_expired d.connection at)) empty) ∙ none) in
    due d.connection at early (subst (λ (o : Option ℕ). Reached o at) (sym is) past) nothing

-- ---- the gateway

gateway_then : IsExact → (g : Gateway) (t at : ℕ) → channel_deadline g.channel ≡ Some t → t ≤ at → at < last_time → gateway_expired g at ≡ Nothing → ⊥
unfolding gateway_expired
gateway_then law g t at is past early none = (law g.channel at early).0 (subst (λ (o : Option ℕ). Reached o at) (sym is) past) none

-- ---- the line

abbrev pub device_times : LineNow → ℕ → Option ℕ
device_times n a = deadline_at (device_at n.devices a)

abbrev pub gateway_time : LineNow → Option ℕ
gateway_time n = channel_deadline n.tunnel.gateway.end.channel

-- the nearest of all
pub record IsDeadline (n : LineNow) (devices nearest : Option ℕ) : Type 0 where
  pub of_devices : IsNearest (device_times n) devices
  pub is : nearest ≡ nearer devices (gateway_time n)

before_devices : (n : LineNow) (devices nearest : Option ℕ) (at a : ℕ) → IsDeadline n devices nearest → IsBefore at nearest → IsBefore at (device_times n a)
before_devices n devices nearest at a is before = by_time (device_times n a) refl
  where
    by_nearest : (o : Option ℕ) (t x : ℕ) → devices ≡ Some x → x ≤ t → nearest ≡ o → IsBefore at o → at < t
    by_nearest None t x e le none b = let absent : devices ≡ None = (neither devices (gateway_time n) (sym is.is ∙ none)).0 in cc
    by_nearest (Some y) t x e le some b = let less : y ≤ x = (least_of_both devices (gateway_time n) y (sym is.is ∙ some)).0 x e in omega (arith, b, less, le)

    by_devices : (o : Option ℕ) (t : ℕ) → device_times n a ≡ Some t → devices ≡ o → at < t
    by_devices None t here none = let absent : device_times n a ≡ None = is.of_devices.never none a in cc
    by_devices (Some x) t here some = by_nearest nearest t x some (is.of_devices.least x some a t here) refl before

    by_time : (o : Option ℕ) → device_times n a ≡ o → IsBefore at o
    by_time None e = tt
    by_time (Some t) e = by_devices devices t e refl

before_gateway : (n : LineNow) (devices nearest : Option ℕ) (at : ℕ) → IsDeadline n devices nearest → IsBefore at nearest → IsBefore at (gateway_time n)
before_gateway n devices nearest at is before = by_time (gateway_time n) refl
  where
    by_nearest : (o : Option ℕ) (t : ℕ) → gateway_time n ≡ Some t → nearest ≡ o → IsBefore at o → at < t
    by_nearest None t e none b = let absent : gateway_time n ≡ None = (neither devices (gateway_time n) (sym is.is ∙ none)).1 in cc
    by_nearest (Some y) t e some b = let less : y ≤ t = (least_of_both devices (gateway_time n) y (sym is.is ∙ some)).1 t e in omega (arith, b, less)

    by_time : (o : Option ℕ) → gateway_time n ≡ o → IsBefore at o
    by_time None e = tt
    by_time (Some t) e = by_nearest nearest t e refl before

pub still : IsExact → (n : LineNow) (w : World) (devices nearest : Option ℕ) (at : ℕ) → IsNow n w → IsDeadline n devices nearest → HasNothingToSend w (now w) → IsBefore at nearest → HasNothingToSend w at
still law n w devices nearest at is deadline nothing before = record {
  devices = λ a d there.
      let here : device_at n.devices a ≡ Some d = sym (is.devices a) ∙ there in
      let time : IsBefore at (device_deadline d.connection) = subst (λ (o : Option DeviceState). IsBefore at (deadline_at o)) here (before_devices n devices nearest at a deadline before) in
      device_still d at (nothing_left d (now w) (nothing.devices a d there)) time;
  gateway = gateway_still law w.tunnel.gateway at (subst (λ (c : Option Channel). IsBefore at (channel_deadline c)) (sym (its_channel n.tunnel w.tunnel is.tunnel)) (before_gateway n devices nearest at deadline before));
}

-- from the nearest time on something is
pub from_then : IsExact → (n : LineNow) (w : World) (devices nearest : Option ℕ) (end at : ℕ) → IsNow n w → IsDeadline n devices nearest → nearest ≡ Some end → end ≤ at → at < last_time → ¬ HasNothingToSend w at
from_then law n w devices nearest end at is deadline some past early nothing = elim (least_of_both devices (gateway_time n) end (sym deadline.is ∙ some)).2 [
  | inl of_device ↦ let found = deadline.of_devices.named end of_device in by_there found.0 (device_at n.devices found.0) refl found.1
  | inr of_gateway ↦ gateway_then law w.tunnel.gateway end at (ap channel_deadline (its_channel n.tunnel w.tunnel is.tunnel) ∙ of_gateway) past early nothing.gateway
]
  where
    by_there : (a : ℕ) (o : Option DeviceState) → device_at n.devices a ≡ o → deadline_at (device_at n.devices a) ≡ Some end → ⊥
    by_there a None e time = let none : deadline_at (device_at n.devices a) ≡ None = ap deadline_at e in cc
    by_there a (Some d) e time = device_then d end at (ap deadline_at (sym e) ∙ time) past early (nothing.devices a d (is.devices a ∙ e))

-- and it is later than now
pub later : IsExact → (n : LineNow) (w : World) (devices nearest : Option ℕ) (end : ℕ) → IsNow n w → IsDeadline n devices nearest → nearest ≡ Some end → HasNothingToSend w (now w) → now w < last_time → now w < end
later law n w devices nearest end is deadline some nothing early = by_order (cases_lt (now w) end)
  where
    by_order : ((now w) < end) ⊎ (end ≤ now w) → now w < end
    by_order (inl less) = less
    by_order (inr past) = absurd (from_then law n w devices nearest end (now w) is deadline some past early nothing)

settled_for : (mode : Mode) (w : World) (ms : ℕ) → Settled mode w → ((at : ℕ) → at < now w + ms → HasNothingToSend w at) → SettledFor mode w ms
settled_for mode w ms settled until = record { settled = settled; still = λ t h. until (now w + t) (omega (arith, h)) }

-- ---- what is told of it

pub never : IsExact → (n : LineNow) (devices nearest : Option ℕ) → IsDeadline n devices nearest → (o : Option ℕ) → nearest ≡ o → IfNone o ((w : World) → IsNow n w → HasNothingToSend w (now w) → (at : ℕ) → HasNothingToSend w at)
never law n devices nearest deadline None e = λ w is nothing at. still law n w devices nearest at is deadline nothing (subst (IsBefore at) (sym e) tt)
never law n devices nearest deadline (Some end) e = tt

pub until : IsExact → (n : LineNow) (devices nearest : Option ℕ) → IsDeadline n devices nearest → (o : Option ℕ) → nearest ≡ o
    → IfSome o (λ end. (w : World) → IsNow n w → HasNothingToSend w (now w) → (at : ℕ) → at < end → HasNothingToSend w at)
until law n devices nearest deadline None e = tt
until law n devices nearest deadline (Some end) e = λ w is nothing at h. still law n w devices nearest at is deadline nothing (subst (IsBefore at) (sym e) h)

pub not_from_then : IsExact → (n : LineNow) (devices nearest : Option ℕ) → IsDeadline n devices nearest → (o : Option ℕ) → nearest ≡ o
    → IfSome o (λ end. (w : World) → IsNow n w → (at : ℕ) → end ≤ at → at < last_time → ¬ HasNothingToSend w at)
not_from_then law n devices nearest deadline None e = tt
not_from_then law n devices nearest deadline (Some end) e = λ w is at past early. from_then law n w devices nearest end at is deadline e past early

pub later_than_now : IsExact → (n : LineNow) (devices nearest : Option ℕ) → IsDeadline n devices nearest → (o : Option ℕ) → nearest ≡ o
    → IfSome o (λ end. (w : World) → IsNow n w → HasNothingToSend w (now w) → now w < last_time → now w < end)
later_than_now law n devices nearest deadline None e = tt
later_than_now law n devices nearest deadline (Some end) e = λ w is nothing early. later law n w devices nearest end is deadline e nothing early

pub always_settled : IsExact → (n : LineNow) (devices nearest : Option ℕ) → IsDeadline n devices nearest → (o : Option ℕ) → nearest ≡ o → IfNone o ((mode : Mode) (w : World) → IsNow n w → Settled mode w → (ms : ℕ) → SettledFor mode w ms)
always_settled law n devices nearest deadline None e = λ mode w is settled ms. settled_for mode w ms settled (λ at h. never law n devices nearest deadline None e w is settled.nothing_to_send at)
always_settled law n devices nearest deadline (Some end) e = tt

pub settled_until : IsExact → (n : LineNow) (devices nearest : Option ℕ) → IsDeadline n devices nearest → (o : Option ℕ) → nearest ≡ o
    → IfSome o (λ end. (mode : Mode) (w : World) → IsNow n w → Settled mode w → (ms : ℕ) → now w + ms ≤ end → SettledFor mode w ms)
settled_until law n devices nearest deadline None e = tt
settled_until law n devices nearest deadline (Some end) e = λ mode w is settled ms le.
    settled_for mode w ms settled (λ at h. until law n devices nearest deadline (Some end) e w is settled.nothing_to_send at (omega (arith, h, le)))
