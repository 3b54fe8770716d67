-- Where time passes on a calm line: the channel sees nothing, the record ends at this time, the devices are still there.
use Rattle.std.proofs.Common.{◌≡◌, ◌≢◌, ℕ, List, ◌∷◌, Bool, true, false, ◌&&◌, ◌||◌, Option, Some, None, refl, sym, ◌∙◌, ap}
use Rattle.std.specs.Prelude.{slice_get}
use Rattle.knx_model.specs.DeviceSending.{pops}
use Rattle.line_model.specs.Calm as line
use Rattle.line_model.specs.ChannelLost.{confirmed, acknowledged, beats, has_left, has_lapsed, is_given_up, is_unconfirmed, is_dead, is_lost}
use Rattle.line_model.specs.ClientView.{ClientChannel, Fresh, Sought, RefusedBy, Unanswered, Open, Lost, Nothing, deed}
use Rattle.line_model.specs.LinkStory.{newest_time}
use Rattle.line_model.specs.Network.{Sent}
use Rattle.line_model.specs.Record.{Entry, Quiet, entry, noted, got, item_of}
use Rattle.line_model.specs.Tunnel as tunnel
use Rattle.line_model.specs.Tunnel.{Tunnel, TunnelEvent}
use Rattle.line_model.specs.Undisturbed.{AwaitsNothing, LacksNoAnswer}
use Rattle.line_model.specs.World.{World, Event, Send, From, Renew, Up, UpRefused, Down, LoseUp, LoseDown, Bus, BusTorn, BusWorn, BusAgain, DevSend, DevRepeat, DevClose, GwAgain, GwRepeat, GwClose, Cut, On, Pass, next_frame, waiting_at, devices_after, others_take}
use Rattle.calm_law.specs.CalmTunnel as calm
use Rattle.calm_law.proofs.Joined.{up_now, repeat_now, close_now}
use Rattle.calm_law.proofs.JoinedLine.{changed_there, all_there, others_there}

-- ---- the channel sees nothing

confirmed_not : (o : Option ℕ) (now : ℕ) → is_unconfirmed o true now ≡ false
confirmed_not None now = refl
confirmed_not (Some at) now = refl

and_false : (b : Bool) → (b && false) ≡ false
and_false true = refl
and_false false = refl

lapsed_not : (c : ℕ) (l : List Entry) (now : ℕ) → LacksNoAnswer c l → has_lapsed c l now ≡ false
lapsed_not c l now h =
    ap (λ z. is_given_up z now || is_unconfirmed (acknowledged c l) (confirmed c l) now || is_dead (beats c l) now) h.acknowledged
    ∙ ap (λ z. is_unconfirmed (acknowledged c l) z now || is_dead (beats c l) now) h.has_confirmation
    ∙ ap (λ z. z || is_dead (beats c l) now) (confirmed_not (acknowledged c l) now)
    ∙ ap (λ z. is_dead z now) h.alive

lost_not : (c : ℕ) (l : List Entry) (now : ℕ) → LacksNoAnswer c l → is_lost c l (entry Quiet now) ≡ false
lost_not c l now h = ap (λ z. z || (has_left c l && false)) (lapsed_not c l now h) ∙ and_false (has_left c l)

pub quiet_nothing : (c : ClientChannel) (now : ℕ) → AwaitsNothing c → deed c (entry Quiet now) ≡ Nothing
unfolding deed
quiet_nothing Fresh now h = refl
quiet_nothing (Sought since) now h = refl
quiet_nothing (RefusedBy status) now h = refl
quiet_nothing Unanswered now h = refl
quiet_nothing (Open c l) now h = rw (lost_not c l now h) refl
quiet_nothing (Lost c) now h = refl

-- ---- the record ends at this time

newest_got : (o : Option Sent) (r : List Entry) (now : ℕ) → newest_time r ≡ now → newest_time (noted (got o) now r) ≡ now
newest_got None r now h = h
newest_got (Some s) r now h = refl

pub newest_after : (t : Tunnel) (te : TunnelEvent) (r : List Entry) → calm.IsCalm t te → newest_time r ≡ t.now → newest_time (noted (item_of t te) (tunnel.after t te).now r) ≡ (tunnel.after t te).now
newest_after t (tunnel.Send octets) r c h = refl
newest_after t (tunnel.From endpoint octets) r c h = refl
newest_after t tunnel.Renew r c h = refl
newest_after t (tunnel.Up age) r c h = h ∙ sym (up_now t age)
newest_after t (tunnel.UpRefused age status) r c h = absurd c
newest_after t (tunnel.Down age) r c h = newest_got (slice_get t.network.down age) r t.now h
newest_after t (tunnel.LoseUp age) r c h = absurd c
newest_after t (tunnel.LoseDown age) r c h = absurd c
newest_after t (tunnel.Carried con) r c h = h
newest_after t (tunnel.Heard frames) r c h = h
newest_after t tunnel.Repeat r c h = h ∙ sym (repeat_now t)
newest_after t tunnel.Close r c h = h ∙ sym (close_now t)
newest_after t (tunnel.Pass ms) r c h = refl
newest_after t tunnel.Elsewhere r c h = h

-- ---- the devices are still there

pub devices_there : (w : World) (e : Event) → line.IsCalm w e → (a : ℕ) → w.devices a ≢ None → devices_after w e a ≢ None
devices_there w (Send octets) c a h = h
devices_there w (From endpoint octets) c a h = h
devices_there w Renew c a h = h
devices_there w (Up age) c a h = h
devices_there w (UpRefused age status) c a h = h
devices_there w (Down age) c a h = h
devices_there w (LoseUp age) c a h = h
devices_there w (LoseDown age) c a h = h
devices_there w (Bus left_out) c a h = all_there w.tunnel.now left_out (next_frame w) w.devices a h
devices_there w (BusTorn fresh octets) c a h = absurd c
devices_there w (BusWorn octets) c a h = absurd c
devices_there w (BusAgain device) c a h = absurd c
devices_there w (DevSend device gateway left_out) c a h =
    changed_there device pops (others_take w.tunnel.now (device ∷ left_out) (waiting_at w device) w.devices) a (others_there w.tunnel.now (device ∷ left_out) (waiting_at w device) w.devices a h)
devices_there w (DevRepeat device gateway) c a h = changed_there device _ w.devices a h
devices_there w (DevClose device) c a h = changed_there device _ w.devices a h
devices_there w GwAgain c a h = h
devices_there w GwRepeat c a h = h
devices_there w GwClose c a h = h
devices_there w (Cut device) c a h = absurd c
devices_there w (On device) c a h = absurd c
devices_there w (Pass ms) c a h = h
