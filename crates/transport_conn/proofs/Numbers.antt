-- The sequence numbers of both ends: four bits, how they go on, and what carries them.
use Rattle.std.proofs.Common.{ℕ, List, Bool, true, false, if◌then◌else◌, arith}
use Rattle.knx_model.specs.declared.address.IndAddr.{IndAddr}
use Rattle.knx_model.specs.declared.connection.DeviceTook.{DeviceTook}
use Rattle.knx_model.specs.declared.connection.DeviceTook.TheVariants as took
use Rattle.knx_model.specs.declared.connection.DeviceExpired.{DeviceExpired}
use Rattle.knx_model.specs.declared.connection.DeviceExpired.TheVariants as expired
use Rattle.knx_model.specs.declared.connection.ClientTook.{ClientTook}
use Rattle.knx_model.specs.declared.connection.ClientTook.TheVariants as heard
use Rattle.knx_model.specs.declared.connection.ClientExpired.{ClientExpired}
use Rattle.knx_model.specs.declared.connection.ClientExpired.TheVariants as over
use Rattle.knx_model.specs.Connection.{Session, HasNumbers, new_session, at_time, advanced, acknowledged}
use Rattle.knx_model.specs.DeviceConnection.{Outstanding, DeviceEnd, Closed, Idle, Answering, IsDeviceEnd, device_took, device_after, after_answer, device_expired, after_expiry}
use Rattle.knx_model.specs.ClientConnection.{ClientEnd, Asked, Up, Asking, Awaiting, Ended, IsClientEnd, client_took, client_after, after_confirmed, after_send, client_expired, after_overdue}
use Rattle.knx_model.specs.ConnectionLaws.{DeviceCall, Takes, Answers, Expires, after_device_call, ClientCall, Confirms, Sends, Hearing, Waits, after_client_call}

-- ---- four bits

new_numbers : (d : IndAddr) (now : ℕ) → HasNumbers (new_session d now)
new_numbers d now = record { expected = omega arith; number = omega arith }

timed_numbers : (s : Session) (now : ℕ) → HasNumbers s → HasNumbers (at_time s now)
timed_numbers s now h = record { expected = h.expected; number = h.number }

advanced_numbers : (s : Session) (now : ℕ) → HasNumbers s → HasNumbers (advanced s now)
advanced_numbers s now h = record { expected = omega arith; number = h.number }

acknowledged_numbers : (s : Session) (now : ℕ) → HasNumbers s → HasNumbers (acknowledged s now)
acknowledged_numbers s now h = record { expected = h.expected; number = omega arith }

idle_left : (b : Bool) (s : Session) → HasNumbers s → IsDeviceEnd (if b then Closed else Idle s)
idle_left true s h = tt
idle_left false s h = h

answering_left : (b : Bool) (s : Session) (a : Outstanding) → HasNumbers s → IsDeviceEnd (if b then Closed else Answering s a)
answering_left true s a h = tt
answering_left false s a h = h

took_numbers : (e : DeviceEnd) (from : IndAddr) (now : ℕ) (answer : DeviceTook) → IsDeviceEnd e → IsDeviceEnd (device_after e from now answer)
unfolding device_after
took_numbers e from now took.Dropped h = h
took_numbers e from now took.Connected h = new_numbers from now
took_numbers Closed from now (took.Apdu apdu ack) h = tt
took_numbers (Idle s) from now (took.Apdu apdu ack) h = advanced_numbers s now h
took_numbers (Answering s a) from now (took.Apdu apdu ack) h = advanced_numbers s now h
took_numbers Closed from now (took.Again ack) h = tt
took_numbers (Idle s) from now (took.Again ack) h = timed_numbers s now h
took_numbers (Answering s a) from now (took.Again ack) h = timed_numbers s now h
took_numbers Closed from now (took.Nak nak) h = tt
took_numbers (Idle s) from now (took.Nak nak) h = timed_numbers s now h
took_numbers (Answering s a) from now (took.Nak nak) h = timed_numbers s now h
took_numbers Closed from now took.Acked h = tt
took_numbers (Idle s) from now took.Acked h = h
took_numbers (Answering s a) from now took.Acked h = acknowledged_numbers s now h
took_numbers Closed from now (took.Closed answer) h = tt
took_numbers (Idle s) from now (took.Closed answer) h = idle_left _ s h
took_numbers (Answering s a) from now (took.Closed answer) h = answering_left _ s a h

answer_numbers : (e : DeviceEnd) (apdu : List ℕ) (now : ℕ) → IsDeviceEnd e → IsDeviceEnd (after_answer e apdu now)
unfolding after_answer
answer_numbers Closed apdu now h = tt
answer_numbers (Idle s) apdu now h = timed_numbers s now h
answer_numbers (Answering s a) apdu now h = h

expiry_numbers : (e : DeviceEnd) (now : ℕ) (due : DeviceExpired) → IsDeviceEnd e → IsDeviceEnd (after_expiry e now due)
unfolding after_expiry
expiry_numbers e now expired.Nothing h = h
expiry_numbers Closed now (expired.Repeat frame) h = tt
expiry_numbers (Idle s) now (expired.Repeat frame) h = h
expiry_numbers (Answering s a) now (expired.Repeat frame) h = timed_numbers s now h
expiry_numbers e now (expired.Closed frame) h = tt

pub device_numbers : (e : DeviceEnd) (call : DeviceCall) → IsDeviceEnd e → IsDeviceEnd (after_device_call e call)
device_numbers e (Takes from frame now) h = took_numbers e from now (device_took e from frame) h
device_numbers e (Answers apdu now) h = answer_numbers e apdu now h
device_numbers e (Expires now) h = expiry_numbers e now (device_expired e now) h

either_end : (b : Bool) (s : Session) → HasNumbers s → IsClientEnd (if b then Awaiting s else Up s)
either_end true s h = h
either_end false s h = h

heard_numbers : (e : ClientEnd) (now : ℕ) (answer : ClientTook) → IsClientEnd e → IsClientEnd (client_after e now answer)
unfolding client_after
heard_numbers e now heard.Dropped h = h
heard_numbers (Asked d) now heard.Acked h = tt
heard_numbers (Up s) now heard.Acked h = h
heard_numbers (Asking s q) now heard.Acked h = either_end q.awaits (acknowledged s now) (acknowledged_numbers s now h)
heard_numbers (Awaiting s) now heard.Acked h = h
heard_numbers Ended now heard.Acked h = tt
heard_numbers (Asked d) now (heard.Answer apdu ack) h = tt
heard_numbers (Up s) now (heard.Answer apdu ack) h = advanced_numbers s now h
heard_numbers (Asking s q) now (heard.Answer apdu ack) h = advanced_numbers s now h
heard_numbers (Awaiting s) now (heard.Answer apdu ack) h = advanced_numbers s now h
heard_numbers Ended now (heard.Answer apdu ack) h = tt
heard_numbers (Asked d) now (heard.Again ack) h = tt
heard_numbers (Up s) now (heard.Again ack) h = timed_numbers s now h
heard_numbers (Asking s q) now (heard.Again ack) h = timed_numbers s now h
heard_numbers (Awaiting s) now (heard.Again ack) h = timed_numbers s now h
heard_numbers Ended now (heard.Again ack) h = tt
heard_numbers (Asked d) now (heard.Nak nak) h = tt
heard_numbers (Up s) now (heard.Nak nak) h = timed_numbers s now h
heard_numbers (Asking s q) now (heard.Nak nak) h = timed_numbers s now h
heard_numbers (Awaiting s) now (heard.Nak nak) h = timed_numbers s now h
heard_numbers Ended now (heard.Nak nak) h = tt
heard_numbers e now (heard.Closed answer) h = tt

confirmed_numbers : (e : ClientEnd) (error : Bool) (now : ℕ) → IsClientEnd e → IsClientEnd (after_confirmed e error now)
unfolding after_confirmed
confirmed_numbers (Asked d) true now h = tt
confirmed_numbers (Asked d) false now h = new_numbers d now
confirmed_numbers (Up s) error now h = h
confirmed_numbers (Asking s q) error now h = h
confirmed_numbers (Awaiting s) error now h = h
confirmed_numbers Ended error now h = tt

send_numbers : (e : ClientEnd) (apdu : List ℕ) (now : ℕ) → IsClientEnd e → IsClientEnd (after_send e apdu now)
unfolding after_send
send_numbers (Asked d) apdu now h = tt
send_numbers (Up s) apdu now h = timed_numbers s now h
send_numbers (Asking s q) apdu now h = h
send_numbers (Awaiting s) apdu now h = timed_numbers s now h
send_numbers Ended apdu now h = tt

overdue_numbers : (e : ClientEnd) (now : ℕ) (due : ClientExpired) → IsClientEnd e → IsClientEnd (after_overdue e now due)
unfolding after_overdue
overdue_numbers e now over.Nothing h = h
overdue_numbers (Asked d) now (over.Repeat frame) h = tt
overdue_numbers (Up s) now (over.Repeat frame) h = h
overdue_numbers (Asking s q) now (over.Repeat frame) h = timed_numbers s now h
overdue_numbers (Awaiting s) now (over.Repeat frame) h = h
overdue_numbers Ended now (over.Repeat frame) h = tt
overdue_numbers e now (over.Silent ms) h = tt

pub client_numbers : (e : ClientEnd) (call : ClientCall) → IsClientEnd e → IsClientEnd (after_client_call e call)
client_numbers e (Confirms error now) h = confirmed_numbers e error now h
client_numbers e (Sends apdu now) h = send_numbers e apdu now h
client_numbers e (Hearing frame now) h = heard_numbers e now (client_took e frame) h
client_numbers e (Waits now) h = overdue_numbers e now (client_expired e now) h
