-- What closes either end, and what the client's end sends again.
use Rattle.std.proofs.Common.{◌≡◌, ◌≢◌, ℕ, ◌+◌, ◌-◌, ◌%◌, ◌<◌, ◌≤◌, List, refl, ap, sym, ◌∙◌, subst, Option, Some, None, arith}
use Rattle.std.proofs.lemmas.Grind.{common_steps}
use Rattle.knx_model.specs.declared.address.IndAddr.{IndAddr}
use Rattle.knx_model.specs.declared.frames.tpdu.Tpdu.TheVariants as tpdu
use Rattle.knx_model.specs.declared.connection.TransportFrame.{TransportFrame}
use Rattle.knx_model.specs.declared.connection.TransportFrame.TheVariants.{Connect, Disconnect, Ack, Nak, Numbered, Other}
use Rattle.knx_model.specs.declared.connection.DeviceTook.TheVariants as took
use Rattle.knx_model.specs.declared.connection.DeviceExpired.TheVariants as expired
use Rattle.knx_model.specs.declared.connection.ClientTook.TheVariants as heard
use Rattle.knx_model.specs.declared.connection.ClientExpired.TheVariants as over
use Rattle.knx_model.specs.Apdu.{Written}
use Rattle.knx_model.specs.Connection.{Session}
use Rattle.knx_model.specs.DeviceConnection.{DeviceEnd, Closed, Idle, Answering, Outstanding, device_took, device_expired}
use Rattle.knx_model.specs.ClientConnection.{ClientEnd, Asked, Up, Asking, Awaiting, Ended, Question, client_took, client_expired, ack_heard, up_took, asking_took, answer_heard, question_expired}
use Rattle.knx_model.specs.ConnectionLaws.{IsOpen, IsAnswering, ClosesDevice, ByDisconnect, ByAck, ByStranger, ByService, IsIdle, HasSession, IsAsking, ClosesClient, HeardDisconnect, HeardAck, AsksAgain}

-- ---- the client's end: frames

client_disconnect : (e : ClientEnd) (s : Session) (answer : Option (List ℕ)) → HasSession e s → heard.Closed None ≡ heard.Closed answer → ClosesClient e Disconnect answer
client_disconnect e s answer up h = let same : None ≡ answer = cc in subst (λ (a : Option (List ℕ)). ClosesClient e Disconnect a) same (HeardDisconnect s up)

client_ack : (e : ClientEnd) (s : Session) (number : ℕ) (answer : Option (List ℕ)) → HasSession e s → ¬ IsAsking e number → ack_heard s number ≡ heard.Closed answer → ClosesClient e (Ack number) answer
client_ack e s number answer up other h =
    let same : Some (Written tpdu.Disconnect) ≡ answer = grind (arith, common_steps) in
    let before : (number + 1) % 16 ≢ s.number = λ q. grind (arith, common_steps) in
    subst (λ (a : Option (List ℕ)). ClosesClient e (Ack number) a) same (HeardAck s number up other before)

heard_number : (s : Session) (number : ℕ) (octets : List ℕ) (answer : Option (List ℕ)) → answer_heard s number octets ≢ heard.Closed answer
heard_number s number octets answer = λ h. grind (arith, common_steps)

-- an end with a session, but for a T_ACK of what is outstanding
up_closes : (e : ClientEnd) (s : Session) (frame : TransportFrame) (answer : Option (List ℕ)) → HasSession e s → ((number : ℕ) → ¬ IsAsking e number) → up_took s frame ≡ heard.Closed answer → ClosesClient e frame answer
up_closes e s Connect answer up other h = absurd (cc h)
up_closes e s Disconnect answer up other h = client_disconnect e s answer up h
up_closes e s (Ack number) answer up other h = client_ack e s number answer up (other number) h
up_closes e s (Nak number) answer up other h = absurd (cc h)
up_closes e s (Numbered number octets) answer up other h = absurd (heard_number s number octets answer h)
up_closes e s Other answer up other h = absurd (cc h)

asking_ack : (s : Session) (q : Question) (number : ℕ) (answer : Option (List ℕ)) → asking_took s (Ack number) ≡ heard.Closed answer → ClosesClient (Asking s q) (Ack number) answer
asking_ack s q number answer h =
    let other : ¬ (number ≡ s.number) = λ q. grind (arith, common_steps) in
    let then_ : ack_heard s number ≡ heard.Closed answer = grind (arith, common_steps) in
    client_ack (Asking s q) s number answer refl other then_

pub client_only : (e : ClientEnd) (frame : TransportFrame) (answer : Option (List ℕ)) → client_took e frame ≡ heard.Closed answer → ClosesClient e frame answer
unfolding client_took
client_only (Asked device) frame answer h = absurd (cc h)
client_only (Up s) frame answer h = up_closes (Up s) s frame answer refl (λ number asking. asking) h
client_only (Asking s q) Connect answer h = absurd (cc h)
client_only (Asking s q) Disconnect answer h = client_disconnect (Asking s q) s answer refl h
client_only (Asking s q) (Ack number) answer h = asking_ack s q number answer h
client_only (Asking s q) (Nak number) answer h = absurd (cc h)
client_only (Asking s q) (Numbered number octets) answer h = absurd (heard_number s number octets answer h)
client_only (Asking s q) Other answer h = absurd (cc h)
client_only (Awaiting s) frame answer h = up_closes (Awaiting s) s frame answer refl (λ number asking. asking) h
client_only Ended frame answer h = absurd (cc h)

client_disconnects : (e : ClientEnd) (s : Session) → HasSession e s → client_took e Disconnect ≡ heard.Closed None
unfolding client_took
client_disconnects (Asked device) s up = absurd up
client_disconnects (Up t) s up = refl
client_disconnects (Asking t q) s up = refl
client_disconnects (Awaiting t) s up = refl
client_disconnects Ended s up = absurd up

wrong_ack : (s : Session) (number : ℕ) → (number + 1) % 16 ≢ s.number → ack_heard s number ≡ heard.Closed (Some (Written tpdu.Disconnect))
wrong_ack s number before = grind (arith, common_steps)

wrong_ack_asking : (s : Session) (number : ℕ) → number ≢ s.number → (number + 1) % 16 ≢ s.number → asking_took s (Ack number) ≡ heard.Closed (Some (Written tpdu.Disconnect))
wrong_ack_asking s number other before = grind (arith, common_steps)

client_acks : (e : ClientEnd) (s : Session) (number : ℕ) → HasSession e s → ¬ IsAsking e number → (number + 1) % 16 ≢ s.number → client_took e (Ack number) ≡ heard.Closed (Some (Written tpdu.Disconnect))
unfolding client_took
client_acks (Asked device) s number up other before = absurd up
client_acks (Up t) s number up other before = wrong_ack t number (λ q. before (q ∙ ap (λ (x : Session). x.number) (sym up)))
client_acks (Asking t q) s number up other before = wrong_ack_asking t number other (λ q. before (q ∙ ap (λ (x : Session). x.number) (sym up)))
client_acks (Awaiting t) s number up other before = wrong_ack t number (λ q. before (q ∙ ap (λ (x : Session). x.number) (sym up)))
client_acks Ended s number up other before = absurd up

pub client_each : (e : ClientEnd) (frame : TransportFrame) (answer : Option (List ℕ)) → ClosesClient e frame answer → client_took e frame ≡ heard.Closed answer
client_each e _ _ (HeardDisconnect s up) = client_disconnects e s up
client_each e _ _ (HeardAck s number up other before) = client_acks e s number up other before

-- ---- the client's end: a service that is sent again

question_again : (s : Session) (q : Question) (o : Option ℕ) (now : ℕ) (frame : List ℕ) → q.confirmed ≡ o → question_expired q o now ≡ over.Repeat frame → AsksAgain (Asking s q) now frame
question_again s q None now frame o h = grind (arith, common_steps)
question_again s q (Some since) now frame o h =
    let same : frame ≡ q.frame = grind (arith, common_steps) in
    let fewer : q.repeats < 3 = grind (arith, common_steps) in
    let waited : 3000 ≤ now - since = grind (arith, common_steps) in
    record { session = s; question = q; since = since; asking = refl; same = same; fewer = fewer; confirmed = o; waited = waited }

pub asks_again_only : (e : ClientEnd) (now : ℕ) (frame : List ℕ) → client_expired e now ≡ over.Repeat frame → AsksAgain e now frame
unfolding client_expired
asks_again_only (Asked device) now frame h = grind (arith, common_steps)
asks_again_only (Up s) now frame h = grind (arith, common_steps)
asks_again_only (Asking s q) now frame h = question_again s q q.confirmed now frame refl h
asks_again_only (Awaiting s) now frame h = grind (arith, common_steps)
asks_again_only Ended now frame h = grind (arith, common_steps)

again_due : (q : Question) (o : Option ℕ) (since now : ℕ) → o ≡ Some since → q.repeats < 3 → 3000 ≤ now - since → question_expired q o now ≡ over.Repeat q.frame
again_due q o since now e r w = rw e (grind (arith, common_steps))

asking_again : (s : Session) (q : Question) (since now : ℕ) → q.confirmed ≡ Some since → q.repeats < 3 → 3000 ≤ now - since → client_expired (Asking s q) now ≡ over.Repeat q.frame
unfolding client_expired
asking_again s q since now e r w = again_due q q.confirmed since now e r w

pub asks_again_each : (e : ClientEnd) (now : ℕ) (frame : List ℕ) → AsksAgain e now frame → client_expired e now ≡ over.Repeat frame
asks_again_each e now frame h = rw h.asking (asking_again h.session h.question h.since now h.confirmed h.fewer h.waited ∙ ap (λ (x : List ℕ). over.Repeat x) (sym h.same))

-- ---- the device's end: frames

by_disconnect : (e : DeviceEnd) (from : IndAddr) (s : Session) (answer : Option (List ℕ)) → IsOpen e s → s.partner.raw ≡ from.raw → None ≡ answer → ClosesDevice e from Disconnect answer
by_disconnect e from s answer o p same = subst (λ (a : Option (List ℕ)). ClosesDevice e from Disconnect a) same (ByDisconnect s o p)

by_ack : (e : DeviceEnd) (from : IndAddr) (s : Session) (number : ℕ) (answer : Option (List ℕ)) → IsOpen e s → s.partner.raw ≡ from.raw → ¬ IsAnswering e number → (number + 1) % 16 ≢ s.number → Some (Written tpdu.Disconnect) ≡ answer → ClosesDevice e from (Ack number) answer
by_ack e from s number answer o p other before same = subst (λ (a : Option (List ℕ)). ClosesDevice e from (Ack number) a) same (ByAck s number o p other before)

by_other_sender : (e : DeviceEnd) (from : IndAddr) (s : Session) (answer : Option (List ℕ)) → IsOpen e s → s.partner.raw ≢ from.raw → Some (Written tpdu.Disconnect) ≡ answer → ClosesDevice e from Connect answer
by_other_sender e from s answer o p same = subst (λ (a : Option (List ℕ)). ClosesDevice e from Connect a) same (ByStranger s o p)

pub device_only : (e : DeviceEnd) (from : IndAddr) (frame : TransportFrame) (answer : Option (List ℕ)) → device_took e from frame ≡ took.Closed answer → ClosesDevice e from frame answer
unfolding device_took
device_only Closed from Connect answer h = absurd (cc h)
device_only Closed from Disconnect answer h = absurd (cc h)
device_only Closed from (Ack number) answer h = absurd (cc h)
device_only Closed from (Nak number) answer h = absurd (cc h)
device_only Closed from (Numbered number apdu) answer h = let same : Some (Written tpdu.Disconnect) ≡ answer = cc in subst (λ (a : Option (List ℕ)). ClosesDevice Closed from (Numbered number apdu) a) same (ByService number apdu refl)
device_only Closed from Other answer h = absurd (cc h)
device_only (Idle s) from Connect answer h =
    let p : s.partner.raw ≢ from.raw = λ q. grind (arith, common_steps) in
    let same : Some (Written tpdu.Disconnect) ≡ answer = grind (arith, common_steps) in
    by_other_sender (Idle s) from s answer refl p same
device_only (Idle s) from Disconnect answer h =
    let p : s.partner.raw ≡ from.raw = grind (arith, common_steps) in
    let same : None ≡ answer = grind (arith, common_steps) in
    by_disconnect (Idle s) from s answer refl p same
device_only (Idle s) from (Ack number) answer h =
    let p : s.partner.raw ≡ from.raw = grind (arith, common_steps) in
    let before : (number + 1) % 16 ≢ s.number = λ q. grind (arith, common_steps) in
    let same : Some (Written tpdu.Disconnect) ≡ answer = grind (arith, common_steps) in
    by_ack (Idle s) from s number answer refl p (λ answering. answering) before same
device_only (Idle s) from (Nak number) answer h = grind (arith, common_steps)
device_only (Idle s) from (Numbered number apdu) answer h = grind (arith, common_steps)
device_only (Idle s) from Other answer h = grind (arith, common_steps)
device_only (Answering s a) from Connect answer h =
    let p : s.partner.raw ≢ from.raw = λ q. grind (arith, common_steps) in
    let same : Some (Written tpdu.Disconnect) ≡ answer = grind (arith, common_steps) in
    by_other_sender (Answering s a) from s answer refl p same
device_only (Answering s a) from Disconnect answer h =
    let p : s.partner.raw ≡ from.raw = grind (arith, common_steps) in
    let same : None ≡ answer = grind (arith, common_steps) in
    by_disconnect (Answering s a) from s answer refl p same
device_only (Answering s a) from (Ack number) answer h =
    let p : s.partner.raw ≡ from.raw = grind (arith, common_steps) in
    let other : number ≢ s.number = λ q. grind (arith, common_steps) in
    let before : (number + 1) % 16 ≢ s.number = λ q. grind (arith, common_steps) in
    let same : Some (Written tpdu.Disconnect) ≡ answer = grind (arith, common_steps) in
    by_ack (Answering s a) from s number answer refl p other before same
device_only (Answering s a) from (Nak number) answer h = grind (arith, common_steps)
device_only (Answering s a) from (Numbered number apdu) answer h = grind (arith, common_steps)
device_only (Answering s a) from Other answer h = grind (arith, common_steps)

idle_disconnects : (s : Session) (from : IndAddr) → s.partner.raw ≡ from.raw → device_took (Idle s) from Disconnect ≡ took.Closed None
unfolding device_took
idle_disconnects s from p = grind (arith, common_steps)

answering_disconnects : (s : Session) (a : Outstanding) (from : IndAddr) → s.partner.raw ≡ from.raw → device_took (Answering s a) from Disconnect ≡ took.Closed None
unfolding device_took
answering_disconnects s a from p = grind (arith, common_steps)

device_disconnects : (e : DeviceEnd) (from : IndAddr) (s : Session) → IsOpen e s → s.partner.raw ≡ from.raw → device_took e from Disconnect ≡ took.Closed None
device_disconnects Closed from s o p = absurd o
device_disconnects (Idle t) from s o p = rw (← o) (idle_disconnects s from p)
device_disconnects (Answering t a) from s o p = rw (← o) (answering_disconnects s a from p)

idle_acks : (s : Session) (from : IndAddr) (number : ℕ) → s.partner.raw ≡ from.raw → (number + 1) % 16 ≢ s.number → device_took (Idle s) from (Ack number) ≡ took.Closed (Some (Written tpdu.Disconnect))
unfolding device_took
idle_acks s from number p before = grind (arith, common_steps)

answering_acks : (s : Session) (a : Outstanding) (from : IndAddr) (number : ℕ) → s.partner.raw ≡ from.raw → number ≢ s.number → (number + 1) % 16 ≢ s.number → device_took (Answering s a) from (Ack number) ≡ took.Closed (Some (Written tpdu.Disconnect))
unfolding device_took
answering_acks s a from number p other before = grind (arith, common_steps)

device_acks : (e : DeviceEnd) (from : IndAddr) (s : Session) (number : ℕ) → IsOpen e s → s.partner.raw ≡ from.raw → ¬ IsAnswering e number → (number + 1) % 16 ≢ s.number → device_took e from (Ack number) ≡ took.Closed (Some (Written tpdu.Disconnect))
device_acks Closed from s number o p other before = absurd o
device_acks (Idle t) from s number o p other before = rw (← o) (idle_acks s from number p before)
device_acks (Answering t a) from s number o p other before = rw (← o) (answering_acks s a from number p (λ q. other (q ∙ ap (λ (x : Session). x.number) o)) before)

idle_refuses : (s : Session) (from : IndAddr) → s.partner.raw ≢ from.raw → device_took (Idle s) from Connect ≡ took.Closed (Some (Written tpdu.Disconnect))
unfolding device_took
idle_refuses s from p = grind (arith, common_steps)

answering_refuses : (s : Session) (a : Outstanding) (from : IndAddr) → s.partner.raw ≢ from.raw → device_took (Answering s a) from Connect ≡ took.Closed (Some (Written tpdu.Disconnect))
unfolding device_took
answering_refuses s a from p = grind (arith, common_steps)

device_refuses : (e : DeviceEnd) (from : IndAddr) (s : Session) → IsOpen e s → s.partner.raw ≢ from.raw → device_took e from Connect ≡ took.Closed (Some (Written tpdu.Disconnect))
device_refuses Closed from s o p = absurd o
device_refuses (Idle t) from s o p = rw (← o) (idle_refuses s from p)
device_refuses (Answering t a) from s o p = rw (← o) (answering_refuses s a from p)

closed_refuses : (e : DeviceEnd) (from : IndAddr) (number : ℕ) (apdu : List ℕ) → e ≡ Closed → device_took e from (Numbered number apdu) ≡ took.Closed (Some (Written tpdu.Disconnect))
unfolding device_took
closed_refuses e from number apdu h = rw h refl

pub device_each : (e : DeviceEnd) (from : IndAddr) (frame : TransportFrame) (answer : Option (List ℕ)) → ClosesDevice e from frame answer → device_took e from frame ≡ took.Closed answer
device_each e from _ _ (ByDisconnect s o p) = device_disconnects e from s o p
device_each e from _ _ (ByAck s number o p other before) = device_acks e from s number o p other before
device_each e from _ _ (ByStranger s o p) = device_refuses e from s o p
device_each e from _ _ (ByService number apdu h) = closed_refuses e from number apdu h

-- ---- the device's end: the time

pub expires_only : (e : DeviceEnd) (now : ℕ) (answer : List ℕ) → device_expired e now ≡ expired.Closed answer → (answer ≡ Written tpdu.Disconnect) × IsIdle e now
unfolding device_expired
expires_only Closed now answer h = absurd (cc h)
expires_only (Idle s) now answer h =
    let same : answer ≡ Written tpdu.Disconnect = grind (arith, common_steps) in
    let idle : 6000 ≤ now - s.last = grind (arith, common_steps) in
    (same, record { session = s; open_ = refl; idle = idle })
expires_only (Answering s a) now answer h =
    let same : answer ≡ Written tpdu.Disconnect = grind (arith, common_steps) in
    let idle : 6000 ≤ now - s.last = grind (arith, common_steps) in
    (same, record { session = s; open_ = refl; idle = idle })

idle_expires : (s : Session) (now : ℕ) → 6000 ≤ now - s.last → device_expired (Idle s) now ≡ expired.Closed (Written tpdu.Disconnect)
unfolding device_expired
idle_expires s now w = grind (arith, common_steps)

answering_expires : (s : Session) (a : Outstanding) (now : ℕ) → 6000 ≤ now - s.last → device_expired (Answering s a) now ≡ expired.Closed (Written tpdu.Disconnect)
unfolding device_expired
answering_expires s a now w = grind (arith, common_steps)

open_expires : (e : DeviceEnd) (s : Session) (now : ℕ) → IsOpen e s → 6000 ≤ now - s.last → device_expired e now ≡ expired.Closed (Written tpdu.Disconnect)
open_expires Closed s now o w = absurd o
open_expires (Idle t) s now o w = rw (← o) (idle_expires s now w)
open_expires (Answering t a) s now o w = rw (← o) (answering_expires s a now w)

pub expires_each : (e : DeviceEnd) (now : ℕ) → IsIdle e now → device_expired e now ≡ expired.Closed (Written tpdu.Disconnect)
expires_each e now h = open_expires e h.session now h.open_ h.idle
