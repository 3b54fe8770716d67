-- No frame is sent more than four times, whatever calls come.
use Rattle.std.proofs.Common.{ℕ, ◌+◌, ◌≤◌, List, [], ◌∷◌, Option, Some, None, Bool, true, false, arith}
use Rattle.std.proofs.lemmas.Grind.{common_steps}
use Rattle.knx_model.specs.declared.address.IndAddr.{IndAddr}
use Rattle.knx_model.specs.declared.connection.DeviceTook.{DeviceTook}
use Rattle.knx_model.specs.declared.connection.DeviceTook.TheVariants as took
use Rattle.knx_model.specs.declared.connection.ClientTook.{ClientTook}
use Rattle.knx_model.specs.declared.connection.ClientTook.TheVariants as heard
use Rattle.knx_model.specs.Connection.{Session}
use Rattle.knx_model.specs.DeviceConnection.{DeviceEnd, Closed, Idle, Answering, Outstanding, device_left, device_took, device_after, after_answer, device_expired, after_expiry}
use Rattle.knx_model.specs.ClientConnection.{ClientEnd, Asked, Up, Asking, Awaiting, Ended, Question, client_acknowledged, after_confirmed, after_send, client_took, client_after, client_expired, after_overdue}
use Rattle.knx_model.specs.ConnectionLaws.{DeviceCall, Takes, Answers, Expires, after_device_call, device_after_calls, IsSentAtMostFourTimes, ClientCall, Confirms, Sends, Hearing, Waits, after_client_call, client_after_calls, IsAskedAtMostFourTimes}

left_kept : (e : DeviceEnd) (from : IndAddr) → IsSentAtMostFourTimes e → IsSentAtMostFourTimes (device_left e from)
left_kept Closed from h = h
left_kept (Idle s) from h = grind (arith, common_steps)
left_kept (Answering s a) from h = grind (arith, common_steps)

took_kept : (e : DeviceEnd) (from : IndAddr) (now : ℕ) (answer : DeviceTook) → IsSentAtMostFourTimes e → IsSentAtMostFourTimes (device_after e from now answer)
unfolding device_after
took_kept e from now took.Dropped h = h
took_kept e from now took.Connected h = tt
took_kept Closed from now (took.Apdu apdu ack) h = tt
took_kept (Idle s) from now (took.Apdu apdu ack) h = tt
took_kept (Answering s a) from now (took.Apdu apdu ack) h = h
took_kept Closed from now (took.Again ack) h = tt
took_kept (Idle s) from now (took.Again ack) h = tt
took_kept (Answering s a) from now (took.Again ack) h = h
took_kept Closed from now (took.Nak nak) h = tt
took_kept (Idle s) from now (took.Nak nak) h = tt
took_kept (Answering s a) from now (took.Nak nak) h = h
took_kept Closed from now took.Acked h = tt
took_kept (Idle s) from now took.Acked h = tt
took_kept (Answering s a) from now took.Acked h = tt
took_kept e from now (took.Closed answer) h = left_kept e from h

answer_kept : (e : DeviceEnd) (apdu : List ℕ) (now : ℕ) → IsSentAtMostFourTimes e → IsSentAtMostFourTimes (after_answer e apdu now)
unfolding after_answer
answer_kept Closed apdu now h = tt
answer_kept (Idle s) apdu now h = omega arith
answer_kept (Answering s a) apdu now h = h

idle_expiry : (s : Session) (now : ℕ) → IsSentAtMostFourTimes (after_expiry (Idle s) now (device_expired (Idle s) now))
unfolding after_expiry device_expired
idle_expiry s now = grind (arith, common_steps)

answering_expiry : (s : Session) (a : Outstanding) (now : ℕ) → 1 + a.repeats ≤ 4 → IsSentAtMostFourTimes (after_expiry (Answering s a) now (device_expired (Answering s a) now))
unfolding after_expiry device_expired
answering_expiry s a now h = grind (arith, common_steps)

expiry_kept : (e : DeviceEnd) (now : ℕ) → IsSentAtMostFourTimes e → IsSentAtMostFourTimes (after_expiry e now (device_expired e now))
unfolding after_expiry device_expired
expiry_kept Closed now h = tt
expiry_kept (Idle s) now h = idle_expiry s now
expiry_kept (Answering s a) now h = answering_expiry s a now h

device_call_kept : (e : DeviceEnd) (call : DeviceCall) → IsSentAtMostFourTimes e → IsSentAtMostFourTimes (after_device_call e call)
device_call_kept e (Takes from frame now) h = took_kept e from now (device_took e from frame) h
device_call_kept e (Answers apdu now) h = answer_kept e apdu now h
device_call_kept e (Expires now) h = expiry_kept e now h

pub device_always : (calls : List DeviceCall) → IsSentAtMostFourTimes (device_after_calls calls)
device_always [] = tt
device_always (call ∷ calls) = device_call_kept (device_after_calls calls) call (device_always calls)

ack_kept : (s : Session) (q : Question) (now : ℕ) → IsAskedAtMostFourTimes (client_acknowledged (Asking s q) now)
ack_kept s q now = grind (arith, common_steps)

heard_kept : (e : ClientEnd) (now : ℕ) (answer : ClientTook) → IsAskedAtMostFourTimes e → IsAskedAtMostFourTimes (client_after e now answer)
unfolding client_after
heard_kept e now heard.Dropped h = h
heard_kept (Asked d) now heard.Acked h = tt
heard_kept (Up s) now heard.Acked h = tt
heard_kept (Asking s q) now heard.Acked h = ack_kept s q now
heard_kept (Awaiting s) now heard.Acked h = tt
heard_kept Ended now heard.Acked h = tt
heard_kept (Asked d) now (heard.Answer apdu ack) h = tt
heard_kept (Up s) now (heard.Answer apdu ack) h = tt
heard_kept (Asking s q) now (heard.Answer apdu ack) h = h
heard_kept (Awaiting s) now (heard.Answer apdu ack) h = tt
heard_kept Ended now (heard.Answer apdu ack) h = tt
heard_kept (Asked d) now (heard.Again ack) h = tt
heard_kept (Up s) now (heard.Again ack) h = tt
heard_kept (Asking s q) now (heard.Again ack) h = h
heard_kept (Awaiting s) now (heard.Again ack) h = tt
heard_kept Ended now (heard.Again ack) h = tt
heard_kept (Asked d) now (heard.Nak nak) h = tt
heard_kept (Up s) now (heard.Nak nak) h = tt
heard_kept (Asking s q) now (heard.Nak nak) h = h
heard_kept (Awaiting s) now (heard.Nak nak) h = tt
heard_kept Ended now (heard.Nak nak) h = tt
heard_kept e now (heard.Closed answer) h = tt

confirmed_kept : (e : ClientEnd) (error : Bool) (now : ℕ) → IsAskedAtMostFourTimes e → IsAskedAtMostFourTimes (after_confirmed e error now)
unfolding after_confirmed
confirmed_kept (Asked d) true now h = tt
confirmed_kept (Asked d) false now h = tt
confirmed_kept (Up s) error now h = tt
confirmed_kept (Asking s q) error now h = h
confirmed_kept (Awaiting s) error now h = tt
confirmed_kept Ended error now h = tt

send_kept : (e : ClientEnd) (apdu : List ℕ) (now : ℕ) → IsAskedAtMostFourTimes e → IsAskedAtMostFourTimes (after_send e apdu now)
unfolding after_send
send_kept (Asked d) apdu now h = tt
send_kept (Up s) apdu now h = omega arith
send_kept (Asking s q) apdu now h = h
send_kept (Awaiting s) apdu now h = omega arith
send_kept Ended apdu now h = tt

overdue_at : (s : Session) (frame : List ℕ) (awaits : Bool) (repeats : ℕ) (since : Option ℕ) (now : ℕ) → 1 + repeats ≤ 4 → IsAskedAtMostFourTimes (after_overdue (Asking s (record { frame = frame; awaits = awaits; repeats = repeats; confirmed = since })) now (client_expired (Asking s (record { frame = frame; awaits = awaits; repeats = repeats; confirmed = since })) now))
unfolding after_overdue client_expired
overdue_at s frame awaits repeats None now h = h
overdue_at s frame awaits repeats (Some since) now h = grind (arith, common_steps)

awaiting_overdue : (s : Session) (now : ℕ) → IsAskedAtMostFourTimes (after_overdue (Awaiting s) now (client_expired (Awaiting s) now))
unfolding after_overdue client_expired
awaiting_overdue s now = grind (arith, common_steps)

overdue_kept : (e : ClientEnd) (now : ℕ) → IsAskedAtMostFourTimes e → IsAskedAtMostFourTimes (after_overdue e now (client_expired e now))
unfolding after_overdue client_expired
overdue_kept (Asked d) now h = tt
overdue_kept (Up s) now h = tt
overdue_kept (Asking s q) now h = overdue_at s q.frame q.awaits q.repeats q.confirmed now h
overdue_kept (Awaiting s) now h = awaiting_overdue s now
overdue_kept Ended now h = tt

client_call_kept : (e : ClientEnd) (call : ClientCall) → IsAskedAtMostFourTimes e → IsAskedAtMostFourTimes (after_client_call e call)
client_call_kept e (Confirms error now) h = confirmed_kept e error now h
client_call_kept e (Sends apdu now) h = send_kept e apdu now h
client_call_kept e (Hearing frame now) h = heard_kept e now (client_took e frame) h
client_call_kept e (Waits now) h = overdue_kept e now h

pub client_always : (device : IndAddr) (calls : List ClientCall) → IsAskedAtMostFourTimes (client_after_calls device calls)
client_always device [] = tt
client_always device (call ∷ calls) = client_call_kept (client_after_calls device calls) call (client_always device calls)
