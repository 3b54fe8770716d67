-- What is sent, and what is outstanding, carries the own number; a T_Connect begins both numbers at 0.
use Rattle.std.proofs.Common.{◌≡◌, ℕ, List, refl, Bool, true, false, Some, if◌then◌else◌, arith}
use Rattle.std.proofs.lemmas.Grind.{common_steps}
use Rattle.knx_model.specs.declared.address.IndAddr.{IndAddr}
use Rattle.knx_model.specs.declared.connection.TransportFrame.{TransportFrame}
use Rattle.knx_model.specs.declared.connection.TransportFrame.TheVariants.{Connect, Disconnect, Ack, Nak, Numbered, Other}
use Rattle.knx_model.specs.declared.connection.DeviceTook.{DeviceTook}
use Rattle.knx_model.specs.declared.connection.DeviceTook.TheVariants as took
use Rattle.knx_model.specs.declared.connection.DeviceExpired.{DeviceExpired}
use Rattle.knx_model.specs.declared.connection.DeviceExpired.TheVariants as expired
use Rattle.knx_model.specs.declared.connection.ClientTook.{ClientTook}
use Rattle.knx_model.specs.declared.connection.ClientTook.TheVariants as heard
use Rattle.knx_model.specs.declared.connection.ClientExpired.{ClientExpired}
use Rattle.knx_model.specs.declared.connection.ClientExpired.TheVariants as over
use Rattle.knx_model.specs.Connection.{Session, acknowledged, numbered_data}
use Rattle.knx_model.specs.DeviceConnection.{Outstanding, DeviceEnd, Closed, Idle, Answering, device_took, device_after, device_answered, after_answer, device_expired, after_expiry}
use Rattle.knx_model.specs.ClientConnection.{ClientEnd, Asked, Up, Asking, Awaiting, Ended, client_took, client_after, client_sent, after_confirmed, after_send, client_expired, after_overdue}
use Rattle.knx_model.specs.ConnectionLaws.{IsOpen, HasSession, CarriesNumber, DeviceCarries, ClientCarries, DeviceCall, Takes, Answers, Expires, after_device_call, ClientCall, Confirms, Sends, Hearing, Waits, after_client_call}

-- ---- the device's end

answering_left : (b : Bool) (s : Session) (a : Outstanding) → CarriesNumber s.number a.frame → DeviceCarries (if b then Closed else Answering s a)
answering_left true s a h = tt
answering_left false s a h = h

idle_left : (b : Bool) (s : Session) → DeviceCarries (if b then Closed else Idle s)
idle_left true s = tt
idle_left false s = tt

took_carries : (e : DeviceEnd) (from : IndAddr) (now : ℕ) (answer : DeviceTook) → DeviceCarries e → DeviceCarries (device_after e from now answer)
unfolding device_after
took_carries e from now took.Dropped h = h
took_carries e from now took.Connected h = tt
took_carries Closed from now (took.Apdu apdu ack) h = tt
took_carries (Idle s) from now (took.Apdu apdu ack) h = tt
took_carries (Answering s a) from now (took.Apdu apdu ack) h = h
took_carries Closed from now (took.Again ack) h = tt
took_carries (Idle s) from now (took.Again ack) h = tt
took_carries (Answering s a) from now (took.Again ack) h = h
took_carries Closed from now (took.Nak nak) h = tt
took_carries (Idle s) from now (took.Nak nak) h = tt
took_carries (Answering s a) from now (took.Nak nak) h = h
took_carries Closed from now took.Acked h = tt
took_carries (Idle s) from now took.Acked h = tt
took_carries (Answering s a) from now took.Acked h = tt
took_carries Closed from now (took.Closed answer) h = tt
took_carries (Idle s) from now (took.Closed answer) h = idle_left _ s
took_carries (Answering s a) from now (took.Closed answer) h = answering_left _ s a h

answer_carries : (e : DeviceEnd) (apdu : List ℕ) (now : ℕ) → DeviceCarries e → DeviceCarries (after_answer e apdu now)
unfolding after_answer
answer_carries Closed apdu now h = tt
answer_carries (Idle s) apdu now h = (apdu, refl)
answer_carries (Answering s a) apdu now h = h

expiry_carries : (e : DeviceEnd) (now : ℕ) (due : DeviceExpired) → DeviceCarries e → DeviceCarries (after_expiry e now due)
unfolding after_expiry
expiry_carries e now expired.Nothing h = h
expiry_carries Closed now (expired.Repeat frame) h = tt
expiry_carries (Idle s) now (expired.Repeat frame) h = tt
expiry_carries (Answering s a) now (expired.Repeat frame) h = h
expiry_carries e now (expired.Closed frame) h = tt

pub device_carries : (e : DeviceEnd) (call : DeviceCall) → DeviceCarries e → DeviceCarries (after_device_call e call)
device_carries e (Takes from frame now) h = took_carries e from now (device_took e from frame) h
device_carries e (Answers apdu now) h = answer_carries e apdu now h
device_carries e (Expires now) h = expiry_carries e now (device_expired e now) h

pub device_sends : (e : DeviceEnd) (s : Session) (apdu frame : List ℕ) → IsOpen e s → device_answered e apdu ≡ Some frame → frame ≡ numbered_data s.number apdu
unfolding device_answered
device_sends Closed s apdu frame o h = absurd o
device_sends (Idle u) s apdu frame o h = grind (arith, common_steps)
device_sends (Answering u a) s apdu frame o h = absurd (cc h)

connects_only : (e : DeviceEnd) (from : IndAddr) (frame : TransportFrame) → device_took e from frame ≡ took.Connected → frame ≡ Connect
unfolding device_took
connects_only e from Connect h = refl
connects_only Closed from Disconnect h = absurd (cc h)
connects_only Closed from (Ack number) h = absurd (cc h)
connects_only Closed from (Nak number) h = absurd (cc h)
connects_only Closed from (Numbered number apdu) h = absurd (cc h)
connects_only Closed from Other h = absurd (cc h)
connects_only (Idle s) from Disconnect h = grind (arith, common_steps)
connects_only (Idle s) from (Ack number) h = grind (arith, common_steps)
connects_only (Idle s) from (Nak number) h = grind (arith, common_steps)
connects_only (Idle s) from (Numbered number apdu) h = grind (arith, common_steps)
connects_only (Idle s) from Other h = grind (arith, common_steps)
connects_only (Answering s a) from Disconnect h = grind (arith, common_steps)
connects_only (Answering s a) from (Ack number) h = grind (arith, common_steps)
connects_only (Answering s a) from (Nak number) h = grind (arith, common_steps)
connects_only (Answering s a) from (Numbered number apdu) h = grind (arith, common_steps)
connects_only (Answering s a) from Other h = grind (arith, common_steps)

connected : (e : DeviceEnd) (from : IndAddr) (now : ℕ) → device_after e from now took.Connected ≡ Idle (record { partner = from; expected = 0; number = 0; last = now })
unfolding device_after
connected e from now = refl

pub device_connects : (e : DeviceEnd) (from : IndAddr) (frame : TransportFrame) (now : ℕ) → device_took e from frame ≡ took.Connected → (frame ≡ Connect) × (device_after e from now took.Connected ≡ Idle (record { partner = from; expected = 0; number = 0; last = now }))
device_connects e from frame now h = (connects_only e from frame h, connected e from now)

-- ---- the client's end

either_carries : (b : Bool) (s : Session) → ClientCarries (if b then Awaiting s else Up s)
either_carries true s = tt
either_carries false s = tt

heard_carries : (e : ClientEnd) (now : ℕ) (answer : ClientTook) → ClientCarries e → ClientCarries (client_after e now answer)
unfolding client_after
heard_carries e now heard.Dropped h = h
heard_carries (Asked d) now heard.Acked h = tt
heard_carries (Up s) now heard.Acked h = tt
heard_carries (Asking s q) now heard.Acked h = either_carries q.awaits (acknowledged s now)
heard_carries (Awaiting s) now heard.Acked h = tt
heard_carries Ended now heard.Acked h = tt
heard_carries (Asked d) now (heard.Answer apdu ack) h = tt
heard_carries (Up s) now (heard.Answer apdu ack) h = tt
heard_carries (Asking s q) now (heard.Answer apdu ack) h = h
heard_carries (Awaiting s) now (heard.Answer apdu ack) h = tt
heard_carries Ended now (heard.Answer apdu ack) h = tt
heard_carries (Asked d) now (heard.Again ack) h = tt
heard_carries (Up s) now (heard.Again ack) h = tt
heard_carries (Asking s q) now (heard.Again ack) h = h
heard_carries (Awaiting s) now (heard.Again ack) h = tt
heard_carries Ended now (heard.Again ack) h = tt
heard_carries (Asked d) now (heard.Nak nak) h = tt
heard_carries (Up s) now (heard.Nak nak) h = tt
heard_carries (Asking s q) now (heard.Nak nak) h = h
heard_carries (Awaiting s) now (heard.Nak nak) h = tt
heard_carries Ended now (heard.Nak nak) h = tt
heard_carries e now (heard.Closed answer) h = tt

confirmed_carries : (e : ClientEnd) (error : Bool) (now : ℕ) → ClientCarries e → ClientCarries (after_confirmed e error now)
unfolding after_confirmed
confirmed_carries (Asked d) true now h = tt
confirmed_carries (Asked d) false now h = tt
confirmed_carries (Up s) error now h = tt
confirmed_carries (Asking s q) error now h = h
confirmed_carries (Awaiting s) error now h = tt
confirmed_carries Ended error now h = tt

send_carries : (e : ClientEnd) (apdu : List ℕ) (now : ℕ) → ClientCarries e → ClientCarries (after_send e apdu now)
unfolding after_send
send_carries (Asked d) apdu now h = tt
send_carries (Up s) apdu now h = (apdu, refl)
send_carries (Asking s q) apdu now h = h
send_carries (Awaiting s) apdu now h = (apdu, refl)
send_carries Ended apdu now h = tt

overdue_carries : (e : ClientEnd) (now : ℕ) (due : ClientExpired) → ClientCarries e → ClientCarries (after_overdue e now due)
unfolding after_overdue
overdue_carries e now over.Nothing h = h
overdue_carries (Asked d) now (over.Repeat frame) h = tt
overdue_carries (Up s) now (over.Repeat frame) h = tt
overdue_carries (Asking s q) now (over.Repeat frame) h = h
overdue_carries (Awaiting s) now (over.Repeat frame) h = tt
overdue_carries Ended now (over.Repeat frame) h = tt
overdue_carries e now (over.Silent ms) h = tt

pub client_carries : (e : ClientEnd) (call : ClientCall) → ClientCarries e → ClientCarries (after_client_call e call)
client_carries e (Confirms error now) h = confirmed_carries e error now h
client_carries e (Sends apdu now) h = send_carries e apdu now h
client_carries e (Hearing frame now) h = heard_carries e now (client_took e frame) h
client_carries e (Waits now) h = overdue_carries e now (client_expired e now) h

pub client_sends : (e : ClientEnd) (s : Session) (apdu frame : List ℕ) → HasSession e s → client_sent e apdu ≡ Some frame → frame ≡ numbered_data s.number apdu
unfolding client_sent
client_sends (Asked device) s apdu frame o h = absurd o
client_sends (Up u) s apdu frame o h = grind (arith, common_steps)
client_sends (Asking u q) s apdu frame o h = absurd (cc h)
client_sends (Awaiting u) s apdu frame o h = grind (arith, common_steps)
client_sends Ended s apdu frame o h = absurd o

pub client_connects : (device : IndAddr) (now : ℕ) → after_confirmed (Asked device) false now ≡ Up (record { partner = device; expected = 0; number = 0; last = now })
unfolding after_confirmed
client_connects device now = refl
