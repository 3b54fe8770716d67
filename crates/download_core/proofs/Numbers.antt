-- The number of the next service is that of the connection after each of its calls. The operation before a place has the number before.
use Rattle.std.proofs.Common.{◌≡◌, ◌+◌, ◌-◌, ℕ, Bool, true, false, List, ap, sym, subst, arith, if◌then◌else◌}
use Rattle.std.proofs.lemmas.Grind.{common_steps}
use Rattle.knx_model.specs.declared.connection.ClientTook.{ClientTook}
use Rattle.knx_model.specs.declared.connection.ClientTook.TheVariants as heard
use Rattle.knx_model.specs.declared.connection.ClientExpired.TheVariants as due
use Rattle.knx_model.specs.Connection.{Session, next_number, acknowledged, numbered_data}
use Rattle.knx_model.specs.ClientConnection.{ClientEnd, Asked, Up, Asking, Awaiting, Ended, awaits_nothing, after_confirmed, client_after, client_stayed, client_sent, after_send, after_overdue}
use Rattle.knx_model.specs.Plans.{Plan}
use Rattle.download_core.specs.declared.run.Run.{Run}
use Rattle.download_core.specs.Keeps.{KeepsNumber, KeepsRun}
use Rattle.download_core.specs.declared.did.Did.TheVariants as did
use Rattle.download_core.specs.Steps.{sends}

pub one_back : (n : ℕ) → n + 1 - 1 ≡ n
one_back n = omega arith

pub confirmed_number : (n : ℕ) (e : ClientEnd) (error : Bool) (now : ℕ) → KeepsNumber n e → KeepsNumber n (after_confirmed e error now)
unfolding after_confirmed
confirmed_number n (Asked d) true now k = tt
confirmed_number n (Asked d) false now k = sym k
confirmed_number n (Up s) error now k = k
confirmed_number n (Asking s q) error now k = k
confirmed_number n (Awaiting s) error now k = k
confirmed_number n Ended error now k = tt

acknowledged_number : (n : ℕ) (s : Session) (now : ℕ) (t : Bool) → next_number s.number ≡ n → KeepsNumber n (if t then Awaiting (acknowledged s now) else Up (acknowledged s now))
acknowledged_number n s now true k = k
acknowledged_number n s now false k = k

pub heard_number : (n : ℕ) (e : ClientEnd) (now : ℕ) (t : ClientTook) → KeepsNumber n e → KeepsNumber n (client_after e now t)
unfolding client_after
heard_number n e now heard.Dropped k = k
heard_number n (Asked d) now heard.Acked k = k
heard_number n (Up s) now heard.Acked k = k
heard_number n (Asking s q) now heard.Acked k = acknowledged_number n s now q.awaits k
heard_number n (Awaiting s) now heard.Acked k = k
heard_number n Ended now heard.Acked k = tt
heard_number n (Asked d) now (heard.Answer apdu ack) k = k
heard_number n (Up s) now (heard.Answer apdu ack) k = k
heard_number n (Asking s q) now (heard.Answer apdu ack) k = k
heard_number n (Awaiting s) now (heard.Answer apdu ack) k = k
heard_number n Ended now (heard.Answer apdu ack) k = tt
heard_number n (Asked d) now (heard.Again ack) k = k
heard_number n (Up s) now (heard.Again ack) k = k
heard_number n (Asking s q) now (heard.Again ack) k = k
heard_number n (Awaiting s) now (heard.Again ack) k = k
heard_number n Ended now (heard.Again ack) k = tt
heard_number n (Asked d) now (heard.Nak nak) k = k
heard_number n (Up s) now (heard.Nak nak) k = k
heard_number n (Asking s q) now (heard.Nak nak) k = k
heard_number n (Awaiting s) now (heard.Nak nak) k = k
heard_number n Ended now (heard.Nak nak) k = tt
heard_number n e now (heard.Closed answer) k = tt

pub asked_number : (n : ℕ) (e : ClientEnd) (apdu : List ℕ) (now : ℕ) → awaits_nothing e ≡ true → KeepsNumber n e → KeepsNumber (next_number n) (after_send e apdu now)
unfolding after_send
asked_number n (Asked d) apdu now u k = grind (arith, common_steps)
asked_number n (Up s) apdu now u k = ap next_number k
asked_number n (Asking s q) apdu now u k = grind (arith, common_steps)
asked_number n (Awaiting s) apdu now u k = grind (arith, common_steps)
asked_number n Ended apdu now u k = tt

pub repeated_number : (n : ℕ) (e : ClientEnd) (now : ℕ) (frame : List ℕ) → KeepsNumber n e → KeepsNumber n (after_overdue e now (due.Repeat frame))
unfolding after_overdue
repeated_number n (Asked d) now frame k = k
repeated_number n (Up s) now frame k = k
repeated_number n (Asking s q) now frame k = k
repeated_number n (Awaiting s) now frame k = k
repeated_number n Ended now frame k = tt

-- the connection that awaits nothing sends a service with that number
pub sends_number : (n : ℕ) (e : ClientEnd) (apdu : List ℕ) → awaits_nothing e ≡ true → KeepsNumber n e → sends (client_sent e apdu) ≡ did.Send (numbered_data n apdu)
unfolding client_sent
sends_number n (Asked d) apdu u k = grind (arith, common_steps)
sends_number n (Up s) apdu u k = ap (λ (m : ℕ). did.Send (numbered_data m apdu)) k
sends_number n (Asking s q) apdu u k = grind (arith, common_steps)
sends_number n (Awaiting s) apdu u k = grind (arith, common_steps)
sends_number n Ended apdu u k = grind (arith, common_steps)

-- after a frame of the device
pub heard_keeps : (left : ℕ → Plan) (r : Run) (conn : ClientEnd) (now : ℕ) (t : ClientTook) → KeepsRun left r → conn ≡ client_after r.conn now t → KeepsRun left (record r { conn = conn })
heard_keeps left r conn now t k e = record { four_bits = k.four_bits; number = subst (KeepsNumber r.number) (sym e) (heard_number r.number r.conn now t k.number); position = k.position }

pub stayed_number : (n : ℕ) (e : ClientEnd) (now : ℕ) → KeepsNumber n e → KeepsNumber n (client_stayed e now)
stayed_number n (Asked d) now k = k
stayed_number n (Up s) now k = k
stayed_number n (Asking s q) now k = k
stayed_number n (Awaiting s) now k = k
stayed_number n Ended now k = tt
