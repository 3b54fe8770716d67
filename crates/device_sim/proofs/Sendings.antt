-- What is sent where no frame waits.
use Rattle.std.proofs.Common.{ℕ, ◌≡◌, ◌↔◌, Bool, true, false, List, [], length, Option, Some, None, refl, sym, ap, subst, if◌then◌else◌}
use Rattle.std.proofs.lemmas.List.{nil_from_length}
use Rattle.knx_model.specs.declared.address.IndAddr.{IndAddr}
use Rattle.knx_model.specs.declared.connection.DeviceExpired.{DeviceExpired}
use Rattle.knx_model.specs.declared.connection.DeviceExpired.TheVariants as expired
use Rattle.knx_model.specs.declared.frames.cemi.Ldata.{Ldata}
use Rattle.knx_model.specs.Connection.{Session, has_passed, idle_wait, disconnect}
use Rattle.knx_model.specs.DeviceConnection.{DeviceEnd, Closed, Idle, Answering, Outstanding, partner_of, is_due, device_expired, after_expiry}
use Rattle.knx_model.specs.DeviceState.{DeviceState}
use Rattle.knx_model.specs.DeviceFrames.{own_frame}
use Rattle.knx_model.specs.DeviceSending.{due_sending, sending_of, next_sending, sending_frame, after_sending}
use Rattle.device_sim.specs.Sending.{IsQuiet}

-- the frame of a connection's end that has become due, to its partner
abbrev pub due_frame : IndAddr → Option IndAddr → DeviceExpired → Option Ldata
due_frame address (Some to) (expired.Repeat tpdu) = Some (own_frame address false to.raw tpdu)
due_frame address (Some to) (expired.Closed tpdu) = Some (own_frame address false to.raw tpdu)
due_frame address _ _ = None

-- the device with such a connection, of which no frame waits
abbrev with_end : DeviceState → DeviceEnd → DeviceState
with_end d e = record d { connection = e; unsent = [] }

abbrev idle_due : Bool → DeviceExpired
idle_due over = if over then expired.Closed disconnect else expired.Nothing

abbrev answering_due : Outstanding → Bool → Bool → DeviceExpired
answering_due a over due = if over then expired.Closed disconnect else (if due then expired.Repeat a.frame else expired.Nothing)

idle_frame : (d : DeviceState) (s : Session) (over : Bool) → sending_frame (with_end d (Idle s)) (due_sending (idle_due over)) ≡ due_frame d.address (Some s.partner) (idle_due over)
idle_frame d s true = refl
idle_frame d s false = refl

answering_frame : (d : DeviceState) (s : Session) (a : Outstanding) (over due : Bool) → sending_frame (with_end d (Answering s a)) (due_sending (answering_due a over due)) ≡ due_frame d.address (Some s.partner) (answering_due a over due)
answering_frame d s a true due = refl
answering_frame d s a false true = refl
answering_frame d s a false false = refl

frame_of_end : (d : DeviceState) (e : DeviceEnd) (now : ℕ) → sending_frame (with_end d e) (due_sending (device_expired e now)) ≡ due_frame d.address (partner_of e) (device_expired e now)
unfolding device_expired
frame_of_end d Closed now = refl
frame_of_end d (Idle s) now = idle_frame d s (has_passed idle_wait s.last now)
frame_of_end d (Answering s a) now = answering_frame d s a (has_passed idle_wait s.last now) (is_due a now)

pub due_frame_is : (d : DeviceState) (now : ℕ) → d.unsent ≡ [] → sending_frame d (next_sending d now) ≡ due_frame d.address (partner_of d.connection) (device_expired d.connection now)
due_frame_is d now h =
    let P : List Ldata → Type 0 = λ u. sending_frame (record d { unsent = u }) (sending_of u (device_expired d.connection now)) ≡ due_frame d.address (partner_of d.connection) (device_expired d.connection now) in
    subst P (sym h) (frame_of_end d d.connection now)

idle_next : (d : DeviceState) (s : Session) (now : ℕ) (over : Bool) → after_sending (with_end d (Idle s)) now (due_sending (idle_due over)) ≡ with_end d (after_expiry (Idle s) now (idle_due over))
unfolding after_expiry
idle_next d s now true = refl
idle_next d s now false = refl

answering_next : (d : DeviceState) (s : Session) (a : Outstanding) (now : ℕ) (over due : Bool) → after_sending (with_end d (Answering s a)) now (due_sending (answering_due a over due)) ≡ with_end d (after_expiry (Answering s a) now (answering_due a over due))
unfolding after_expiry
answering_next d s a now true due = refl
answering_next d s a now false true = refl
answering_next d s a now false false = refl

next_of_end : (d : DeviceState) (e : DeviceEnd) (now : ℕ) → after_sending (with_end d e) now (due_sending (device_expired e now)) ≡ with_end d (after_expiry e now (device_expired e now))
unfolding device_expired after_expiry
next_of_end d Closed now = refl
next_of_end d (Idle s) now = idle_next d s now (has_passed idle_wait s.last now)
next_of_end d (Answering s a) now = answering_next d s a now (has_passed idle_wait s.last now) (is_due a now)

pub due_next_is : (d : DeviceState) (now : ℕ) → d.unsent ≡ [] → after_sending d now (next_sending d now) ≡ record d { connection = after_expiry d.connection now (device_expired d.connection now) }
due_next_is d now h =
    let P : List Ldata → Type 0 = λ u. ◌≡◌ {A = DeviceState} (after_sending (record d { unsent = u }) now (sending_of u (device_expired d.connection now))) (record d { connection = after_expiry d.connection now (device_expired d.connection now); unsent = u }) in
    subst P (sym h) (next_of_end d d.connection now)

-- ---- nothing of a connection, and no frame

end_is_closed : (e : DeviceEnd) → partner_of e ≡ None → e ≡ Closed
end_is_closed Closed h = refl
end_is_closed (Idle s) h = cc
end_is_closed (Answering s a) h = cc

pub quiet_exactly : (d : DeviceState) → (partner_of d.connection ≡ None) × (length d.unsent ≡ 0) ↔ IsQuiet d
quiet_exactly d = ((λ p. record { unconnected = end_is_closed d.connection p.0; nothing_unsent = nil_from_length d.unsent p.1 }), (λ q. (ap partner_of q.unconnected, ap length q.nothing_unsent)))
