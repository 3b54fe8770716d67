-- How the sequence numbers of both ends go on.
use Rattle.std.proofs.Common.{◌≡◌, ◌≢◌, ℕ, List, refl, ap, sym, ◌∙◌, Bool, true, false, if◌then◌else◌, arith}
use Rattle.std.proofs.lemmas.Grind.{common_steps}
use Rattle.knx_model.specs.declared.address.IndAddr.{IndAddr}
use Rattle.knx_model.specs.declared.connection.TransportFrame.{TransportFrame}
use Rattle.knx_model.specs.declared.connection.TransportFrame.TheVariants.{Connect, Disconnect, Ack, Nak, Numbered, Other}
use Rattle.knx_model.specs.declared.connection.DeviceTook.{DeviceTook}
use Rattle.knx_model.specs.declared.connection.DeviceTook.TheVariants as took
use Rattle.knx_model.specs.declared.connection.DeviceExpired.{DeviceExpired}
use Rattle.knx_model.specs.declared.connection.DeviceExpired.TheVariants as expired
use Rattle.knx_model.specs.declared.connection.ClientTook.{ClientTook}
use Rattle.knx_model.specs.declared.connection.ClientTook.TheVariants as heard
use Rattle.knx_model.specs.declared.connection.ClientExpired.{ClientExpired}
use Rattle.knx_model.specs.declared.connection.ClientExpired.TheVariants as over
use Rattle.knx_model.specs.Connection.{Session, new_session, at_time, advanced, acknowledged, next_number}
use Rattle.knx_model.specs.DeviceConnection.{Outstanding, DeviceEnd, Closed, Idle, Answering, device_took, device_after, after_answer, device_expired, after_expiry}
use Rattle.knx_model.specs.ClientConnection.{Question, ClientEnd, Asked, Up, Asking, Awaiting, Ended, client_took, client_after, after_confirmed, after_send, client_expired, after_overdue}
use Rattle.knx_model.specs.ConnectionLaws.{IsOpen, HasSession, HasSameNumbers, HasDeviceCounted, HasClientCounted}

same_expected : (s t : Session) → t ≡ s → t.expected ≡ s.expected
same_expected s t e = ap (λ (x : Session). x.expected) e

same_number : (s t : Session) → t ≡ s → t.number ≡ s.number
same_number s t e = ap (λ (x : Session). x.number) e

same_numbers : (s t : Session) → t ≡ s → HasSameNumbers s t
same_numbers s t e = record { expected = same_expected s t e; number = same_number s t e }

timed_same : (s t u : Session) (now : ℕ) → s ≡ u → t ≡ at_time u now → HasSameNumbers s t
timed_same s t u now e h = record { expected = same_expected (at_time u now) t h ∙ sym (same_expected u s e); number = same_number (at_time u now) t h ∙ sym (same_number u s e) }

-- ---- the device's end

idle_stays : (b : Bool) (u t : Session) → IsOpen (if b then Closed else Idle u) t → t ≡ u
idle_stays true u t h = absurd h
idle_stays false u t h = h

answering_stays : (b : Bool) (u t : Session) (a : Outstanding) → IsOpen (if b then Closed else Answering u a) t → t ≡ u
answering_stays true u t a h = absurd h
answering_stays false u t a h = h

dropped_counts : (s t u : Session) → s ≡ u → t ≡ u → HasSameNumbers s t
dropped_counts s t u e h = same_numbers s t (h ∙ sym e)

advanced_expected : (s t u : Session) (now : ℕ) → s ≡ u → t ≡ advanced u now → t.expected ≡ next_number s.expected
advanced_expected s t u now e h = same_expected (advanced u now) t h ∙ ap (λ (x : Session). next_number x.expected) (sym e)

advanced_number : (s t u : Session) (now : ℕ) → s ≡ u → t ≡ advanced u now → t.number ≡ s.number
advanced_number s t u now e h = same_number (advanced u now) t h ∙ sym (same_number u s e)

acknowledged_expected : (s t u : Session) (now : ℕ) → s ≡ u → t ≡ acknowledged u now → t.expected ≡ s.expected
acknowledged_expected s t u now e h = same_expected (acknowledged u now) t h ∙ sym (same_expected u s e)

acknowledged_number : (s t u : Session) (now : ℕ) → s ≡ u → t ≡ acknowledged u now → t.number ≡ next_number s.number
acknowledged_number s t u now e h = same_number (acknowledged u now) t h ∙ ap (λ (x : Session). next_number x.number) (sym e)

idle_counts : (u s t : Session) (from : IndAddr) (now : ℕ) (answer : DeviceTook) → answer ≢ took.Acked → s ≡ u → IsOpen (device_after (Idle u) from now answer) t → HasDeviceCounted answer s t
unfolding device_after
idle_counts u s t from now took.Dropped ne e h = let same = dropped_counts s t u e h in record { expected = same.expected; number = same.number }
idle_counts u s t from now took.Connected ne e h = record { expected = same_expected (new_session from now) t h; number = same_number (new_session from now) t h }
idle_counts u s t from now (took.Apdu apdu ack) ne e h = record { expected = advanced_expected s t u now e h; number = advanced_number s t u now e h }
idle_counts u s t from now (took.Again ack) ne e h = let same = timed_same s t u now e h in record { expected = same.expected; number = same.number }
idle_counts u s t from now (took.Nak nak) ne e h = let same = timed_same s t u now e h in record { expected = same.expected; number = same.number }
idle_counts u s t from now took.Acked ne e h = absurd (ne refl)
idle_counts u s t from now (took.Closed answer) ne e h = let same = dropped_counts s t u e (idle_stays _ u t h) in record { expected = same.expected; number = same.number }

answering_counts : (u s t : Session) (a : Outstanding) (from : IndAddr) (now : ℕ) (answer : DeviceTook) → s ≡ u → IsOpen (device_after (Answering u a) from now answer) t → HasDeviceCounted answer s t
unfolding device_after
answering_counts u s t a from now took.Dropped e h = let same = dropped_counts s t u e h in record { expected = same.expected; number = same.number }
answering_counts u s t a from now took.Connected e h = record { expected = same_expected (new_session from now) t h; number = same_number (new_session from now) t h }
answering_counts u s t a from now (took.Apdu apdu ack) e h = record { expected = advanced_expected s t u now e h; number = advanced_number s t u now e h }
answering_counts u s t a from now (took.Again ack) e h = let same = timed_same s t u now e h in record { expected = same.expected; number = same.number }
answering_counts u s t a from now (took.Nak nak) e h = let same = timed_same s t u now e h in record { expected = same.expected; number = same.number }
answering_counts u s t a from now took.Acked e h = record { expected = acknowledged_expected s t u now e h; number = acknowledged_number s t u now e h }
answering_counts u s t a from now (took.Closed answer) e h = let same = dropped_counts s t u e (answering_stays _ u t a h) in record { expected = same.expected; number = same.number }

never_acked : (u : Session) (from : IndAddr) (frame : TransportFrame) → device_took (Idle u) from frame ≢ took.Acked
unfolding device_took
never_acked u from Connect = λ h. grind (arith, common_steps)
never_acked u from Disconnect = λ h. grind (arith, common_steps)
never_acked u from (Ack number) = λ h. grind (arith, common_steps)
never_acked u from (Nak number) = λ h. grind (arith, common_steps)
never_acked u from (Numbered number apdu) = λ h. grind (arith, common_steps)
never_acked u from Other = λ h. grind (arith, common_steps)

pub device_counts : (e : DeviceEnd) (from : IndAddr) (frame : TransportFrame) (now : ℕ) (s t : Session) → IsOpen e s → IsOpen (device_after e from now (device_took e from frame)) t → HasDeviceCounted (device_took e from frame) s t
device_counts Closed from frame now s t o h = absurd o
device_counts (Idle u) from frame now s t o h = idle_counts u s t from now (device_took (Idle u) from frame) (never_acked u from frame) o h
device_counts (Answering u a) from frame now s t o h = answering_counts u s t a from now (device_took (Answering u a) from frame) o h

pub device_answers : (e : DeviceEnd) (apdu : List ℕ) (now : ℕ) (s t : Session) → IsOpen e s → IsOpen (after_answer e apdu now) t → HasSameNumbers s t
unfolding after_answer
device_answers Closed apdu now s t o h = absurd o
device_answers (Idle u) apdu now s t o h = timed_same s t u now o h
device_answers (Answering u a) apdu now s t o h = dropped_counts s t u o h

due_same : (e : DeviceEnd) (now : ℕ) (due : DeviceExpired) (s t : Session) → IsOpen e s → IsOpen (after_expiry e now due) t → HasSameNumbers s t
unfolding after_expiry
due_same Closed now due s t o h = absurd o
due_same (Idle u) now expired.Nothing s t o h = dropped_counts s t u o h
due_same (Idle u) now (expired.Repeat frame) s t o h = dropped_counts s t u o h
due_same (Idle u) now (expired.Closed frame) s t o h = absurd h
due_same (Answering u a) now expired.Nothing s t o h = dropped_counts s t u o h
due_same (Answering u a) now (expired.Repeat frame) s t o h = timed_same s t u now o h
due_same (Answering u a) now (expired.Closed frame) s t o h = absurd h

pub device_waits : (e : DeviceEnd) (now : ℕ) (s t : Session) → IsOpen e s → IsOpen (after_expiry e now (device_expired e now)) t → HasSameNumbers s t
device_waits e now s t o h = due_same e now (device_expired e now) s t o h

-- ---- the client's end

either_session : (b : Bool) (u t : Session) → HasSession (if b then Awaiting u else Up u) t → t ≡ u
either_session true u t h = h
either_session false u t h = h

up_counts : (u s t : Session) (now : ℕ) (answer : ClientTook) → answer ≢ heard.Acked → s ≡ u → HasSession (client_after (Up u) now answer) t → HasClientCounted answer s t
unfolding client_after
up_counts u s t now heard.Dropped ne e h = let same = dropped_counts s t u e h in record { expected = same.expected; number = same.number }
up_counts u s t now heard.Acked ne e h = absurd (ne refl)
up_counts u s t now (heard.Answer apdu ack) ne e h = record { expected = advanced_expected s t u now e h; number = advanced_number s t u now e h }
up_counts u s t now (heard.Again ack) ne e h = let same = timed_same s t u now e h in record { expected = same.expected; number = same.number }
up_counts u s t now (heard.Nak nak) ne e h = let same = timed_same s t u now e h in record { expected = same.expected; number = same.number }
up_counts u s t now (heard.Closed answer) ne e h = absurd h

awaiting_counts : (u s t : Session) (now : ℕ) (answer : ClientTook) → answer ≢ heard.Acked → s ≡ u → HasSession (client_after (Awaiting u) now answer) t → HasClientCounted answer s t
unfolding client_after
awaiting_counts u s t now heard.Dropped ne e h = let same = dropped_counts s t u e h in record { expected = same.expected; number = same.number }
awaiting_counts u s t now heard.Acked ne e h = absurd (ne refl)
awaiting_counts u s t now (heard.Answer apdu ack) ne e h = record { expected = advanced_expected s t u now e h; number = advanced_number s t u now e h }
awaiting_counts u s t now (heard.Again ack) ne e h = let same = timed_same s t u now e h in record { expected = same.expected; number = same.number }
awaiting_counts u s t now (heard.Nak nak) ne e h = let same = timed_same s t u now e h in record { expected = same.expected; number = same.number }
awaiting_counts u s t now (heard.Closed answer) ne e h = absurd h

asking_counts : (u s t : Session) (q : Question) (now : ℕ) (answer : ClientTook) → s ≡ u → HasSession (client_after (Asking u q) now answer) t → HasClientCounted answer s t
unfolding client_after
asking_counts u s t q now heard.Dropped e h = let same = dropped_counts s t u e h in record { expected = same.expected; number = same.number }
asking_counts u s t q now heard.Acked e h = let open_ = either_session q.awaits (acknowledged u now) t h in record { expected = acknowledged_expected s t u now e open_; number = acknowledged_number s t u now e open_ }
asking_counts u s t q now (heard.Answer apdu ack) e h = record { expected = advanced_expected s t u now e h; number = advanced_number s t u now e h }
asking_counts u s t q now (heard.Again ack) e h = let same = timed_same s t u now e h in record { expected = same.expected; number = same.number }
asking_counts u s t q now (heard.Nak nak) e h = let same = timed_same s t u now e h in record { expected = same.expected; number = same.number }
asking_counts u s t q now (heard.Closed answer) e h = absurd h

never_heard : (u : Session) (frame : TransportFrame) → client_took (Up u) frame ≢ heard.Acked
unfolding client_took
never_heard u Connect = λ h. grind (arith, common_steps)
never_heard u Disconnect = λ h. grind (arith, common_steps)
never_heard u (Ack number) = λ h. grind (arith, common_steps)
never_heard u (Nak number) = λ h. grind (arith, common_steps)
never_heard u (Numbered number apdu) = λ h. grind (arith, common_steps)
never_heard u Other = λ h. grind (arith, common_steps)

as_up : (u : Session) (frame : TransportFrame) → client_took (Awaiting u) frame ≡ client_took (Up u) frame
unfolding client_took
as_up u frame = refl

pub client_counts : (e : ClientEnd) (frame : TransportFrame) (now : ℕ) (s t : Session) → HasSession e s → HasSession (client_after e now (client_took e frame)) t → HasClientCounted (client_took e frame) s t
client_counts (Asked device) frame now s t o h = absurd o
client_counts (Up u) frame now s t o h = up_counts u s t now (client_took (Up u) frame) (never_heard u frame) o h
client_counts (Asking u q) frame now s t o h = asking_counts u s t q now (client_took (Asking u q) frame) o h
client_counts (Awaiting u) frame now s t o h = awaiting_counts u s t now (client_took (Awaiting u) frame) (λ acked. never_heard u frame (sym (as_up u frame) ∙ acked)) o h
client_counts Ended frame now s t o h = absurd o

pub client_confirms : (e : ClientEnd) (error : Bool) (now : ℕ) (s t : Session) → HasSession e s → HasSession (after_confirmed e error now) t → HasSameNumbers s t
unfolding after_confirmed
client_confirms (Asked device) error now s t o h = absurd o
client_confirms (Up u) error now s t o h = dropped_counts s t u o h
client_confirms (Asking u q) error now s t o h = dropped_counts s t u o h
client_confirms (Awaiting u) error now s t o h = dropped_counts s t u o h
client_confirms Ended error now s t o h = absurd o

pub client_sends : (e : ClientEnd) (apdu : List ℕ) (now : ℕ) (s t : Session) → HasSession e s → HasSession (after_send e apdu now) t → HasSameNumbers s t
unfolding after_send
client_sends (Asked device) apdu now s t o h = absurd o
client_sends (Up u) apdu now s t o h = timed_same s t u now o h
client_sends (Asking u q) apdu now s t o h = dropped_counts s t u o h
client_sends (Awaiting u) apdu now s t o h = timed_same s t u now o h
client_sends Ended apdu now s t o h = absurd o

overdue_same : (e : ClientEnd) (now : ℕ) (due : ClientExpired) (s t : Session) → HasSession e s → HasSession (after_overdue e now due) t → HasSameNumbers s t
unfolding after_overdue
overdue_same (Asked device) now due s t o h = absurd o
overdue_same (Up u) now over.Nothing s t o h = dropped_counts s t u o h
overdue_same (Up u) now (over.Repeat frame) s t o h = dropped_counts s t u o h
overdue_same (Up u) now (over.Silent ms) s t o h = absurd h
overdue_same (Asking u q) now over.Nothing s t o h = dropped_counts s t u o h
overdue_same (Asking u q) now (over.Repeat frame) s t o h = timed_same s t u now o h
overdue_same (Asking u q) now (over.Silent ms) s t o h = absurd h
overdue_same (Awaiting u) now over.Nothing s t o h = dropped_counts s t u o h
overdue_same (Awaiting u) now (over.Repeat frame) s t o h = dropped_counts s t u o h
overdue_same (Awaiting u) now (over.Silent ms) s t o h = absurd h
overdue_same Ended now due s t o h = absurd o

pub client_waits : (e : ClientEnd) (now : ℕ) (s t : Session) → HasSession e s → HasSession (after_overdue e now (client_expired e now)) t → HasSameNumbers s t
client_waits e now s t o h = overdue_same e now (client_expired e now) s t o h
