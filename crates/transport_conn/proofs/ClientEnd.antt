-- What the client's end tells, and where it is silent.
use Rattle.std.proofs.Common.{◌≡◌, ◌≢◌, ℕ, ◌-◌, ◌<◌, ◌≤◌, ◌⊎◌, inl, inr, List, refl, ap, sym, ◌∙◌, Option, Some, None, arith}
use Rattle.std.proofs.lemmas.Grind.{common_steps}
use Rattle.knx_model.specs.declared.frames.tpdu.Tpdu.TheVariants as tpdu
use Rattle.knx_model.specs.declared.connection.TransportFrame.{TransportFrame}
use Rattle.knx_model.specs.declared.connection.TransportFrame.TheVariants.{Connect, Disconnect, Ack, Nak, Numbered, Other}
use Rattle.knx_model.specs.declared.connection.ClientTook.TheVariants as heard
use Rattle.knx_model.specs.declared.connection.ClientExpired.TheVariants as over
use Rattle.knx_model.specs.Apdu.{Written}
use Rattle.knx_model.specs.Connection.{Session, advanced}
use Rattle.knx_model.specs.ClientConnection.{ClientEnd, Asked, Up, Asking, Awaiting, Ended, Question, client_took, client_after, client_expired, client_deadline, up_took, asking_took, answer_heard, wait_end_if, question_expired}
use Rattle.knx_model.specs.ConnectionLaws.{Hears, HasSession, IsUnacknowledged, IsUnanswered, Reached}

pub nak_ignored : (e : ClientEnd) (number : ℕ) → client_took e (Nak number) ≡ heard.Dropped
unfolding client_took
nak_ignored (Asked device) number = refl
nak_ignored (Up s) number = refl
nak_ignored (Asking s q) number = refl
nak_ignored (Awaiting s) number = refl
nak_ignored Ended number = refl

-- what an end that is up tells
told_number : (s : Session) (number : ℕ) (octets apdu ack : List ℕ) → answer_heard s number octets ≡ heard.Answer apdu ack → (Numbered number octets ≡ Numbered s.expected apdu) × (ack ≡ Written (tpdu.Ack s.expected))
told_number s number octets apdu ack h = grind (arith, common_steps)

told_up : (s : Session) (frame : TransportFrame) (apdu ack : List ℕ) → up_took s frame ≡ heard.Answer apdu ack → (frame ≡ Numbered s.expected apdu) × (ack ≡ Written (tpdu.Ack s.expected))
told_up s Connect apdu ack h = grind (arith, common_steps)
told_up s Disconnect apdu ack h = grind (arith, common_steps)
told_up s (Ack number) apdu ack h = grind (arith, common_steps)
told_up s (Nak number) apdu ack h = grind (arith, common_steps)
told_up s (Numbered number octets) apdu ack h = told_number s number octets apdu ack h
told_up s Other apdu ack h = grind (arith, common_steps)

told_asking : (s : Session) (frame : TransportFrame) (apdu ack : List ℕ) → asking_took s frame ≡ heard.Answer apdu ack → (frame ≡ Numbered s.expected apdu) × (ack ≡ Written (tpdu.Ack s.expected))
told_asking s Connect apdu ack h = grind (arith, common_steps)
told_asking s Disconnect apdu ack h = grind (arith, common_steps)
told_asking s (Ack number) apdu ack h = grind (arith, common_steps)
told_asking s (Nak number) apdu ack h = grind (arith, common_steps)
told_asking s (Numbered number octets) apdu ack h = told_number s number octets apdu ack h
told_asking s Other apdu ack h = grind (arith, common_steps)

pub hears_only : (e : ClientEnd) (frame : TransportFrame) (apdu ack : List ℕ) → client_took e frame ≡ heard.Answer apdu ack → Hears e frame apdu ack
unfolding client_took
hears_only (Asked device) frame apdu ack h = grind (arith, common_steps)
hears_only (Up s) frame apdu ack h = let t = told_up s frame apdu ack h in record { session = s; up = refl; expected = t.0; acknowledged = t.1 }
hears_only (Asking s q) frame apdu ack h = let t = told_asking s frame apdu ack h in record { session = s; up = refl; expected = t.0; acknowledged = t.1 }
hears_only (Awaiting s) frame apdu ack h = let t = told_up s frame apdu ack h in record { session = s; up = refl; expected = t.0; acknowledged = t.1 }
hears_only Ended frame apdu ack h = grind (arith, common_steps)

tells : (s : Session) (apdu ack : List ℕ) → ack ≡ Written (tpdu.Ack s.expected) → answer_heard s s.expected apdu ≡ heard.Answer apdu ack
tells s apdu ack a = grind (arith, common_steps)

tells_so : (e : ClientEnd) (s : Session) (apdu ack : List ℕ) → HasSession e s → ack ≡ Written (tpdu.Ack s.expected) → client_took e (Numbered s.expected apdu) ≡ heard.Answer apdu ack
unfolding client_took
tells_so (Asked device) s apdu ack h a = absurd h
tells_so (Up t) s apdu ack h a = rw (← h) (tells s apdu ack a)
tells_so (Asking t q) s apdu ack h a = rw (← h) (tells s apdu ack a)
tells_so (Awaiting t) s apdu ack h a = rw (← h) (tells s apdu ack a)
tells_so Ended s apdu ack h a = absurd h

pub hears_each : (e : ClientEnd) (frame : TransportFrame) (apdu ack : List ℕ) → Hears e frame apdu ack → client_took e frame ≡ heard.Answer apdu ack
hears_each e frame apdu ack h = rw h.expected (tells_so e h.session apdu ack h.up h.acknowledged)

-- the number before is told once
before_heard : (s : Session) (number now : ℕ) (other : List ℕ) → number < 16 → number ≡ s.expected → answer_heard (advanced s now) number other ≡ heard.Again (Written (tpdu.Ack number))
before_heard s number now other n e = grind (arith, common_steps)

again_so : (e : ClientEnd) (s : Session) (number now : ℕ) (apdu other ack : List ℕ) → HasSession e s → number < 16 → number ≡ s.expected → client_took (client_after e now (heard.Answer apdu ack)) (Numbered number other) ≡ heard.Again (Written (tpdu.Ack number))
unfolding client_took client_after
again_so (Asked device) s number now apdu other ack h n e = absurd h
again_so (Up t) s number now apdu other ack h n e = rw (← h) (before_heard s number now other n e)
again_so (Asking t q) s number now apdu other ack h n e = rw (← h) (before_heard s number now other n e)
again_so (Awaiting t) s number now apdu other ack h n e = rw (← h) (before_heard s number now other n e)
again_so Ended s number now apdu other ack h n e = absurd h

number_is : (s : Session) (number : ℕ) (apdu other : List ℕ) → Numbered number apdu ≡ Numbered s.expected other → number ≡ s.expected
number_is s number apdu other e = cc

pub once : (e : ClientEnd) (number now : ℕ) (apdu other ack : List ℕ) → number < 16 → client_took e (Numbered number apdu) ≡ heard.Answer apdu ack → client_took (client_after e now (heard.Answer apdu ack)) (Numbered number other) ≡ heard.Again ack
once e number now apdu other ack n h =
    let d = hears_only e (Numbered number apdu) apdu ack h in
    let same : number ≡ d.session.expected = number_is d.session number apdu apdu d.expected in
    again_so e d.session number now apdu other ack d.up n same ∙ ap (λ (k : ℕ). heard.Again (Written (tpdu.Ack k))) same ∙ ap (λ (x : List ℕ). heard.Again x) (sym d.acknowledged)

-- ---- the waits

asking_silent : (s : Session) (q : Question) (o : Option ℕ) (now ms : ℕ) → q.confirmed ≡ o → question_expired q o now ≡ over.Silent ms → (ms ≡ 3000) × IsUnacknowledged (Asking s q) now
asking_silent s q None now ms o h = grind (arith, common_steps)
asking_silent s q (Some since) now ms o h =
    let often : 3 ≤ q.repeats = grind (arith, common_steps) in
    let waited : 3000 ≤ now - since = grind (arith, common_steps) in
    let wait : ms ≡ 3000 = grind (arith, common_steps) in
    (wait, record { session = s; question = q; since = since; asking = refl; often = often; confirmed = o; waited = waited })

pub silent : (e : ClientEnd) (now ms : ℕ) → client_expired e now ≡ over.Silent ms → ((ms ≡ 3000) × IsUnacknowledged e now) ⊎ ((ms ≡ 6000) × IsUnanswered e now)
unfolding client_expired
silent (Asked device) now ms h = grind (arith, common_steps)
silent (Up s) now ms h = grind (arith, common_steps)
silent (Asking s q) now ms h = inl (asking_silent s q q.confirmed now ms refl h)
silent (Awaiting s) now ms h =
    let idle : 6000 ≤ now - s.last = grind (arith, common_steps) in
    let wait : ms ≡ 6000 = grind (arith, common_steps) in
    inr (wait, record { session = s; awaiting = refl; idle = idle })
silent Ended now ms h = grind (arith, common_steps)

overdue_silent : (q : Question) (o : Option ℕ) (since now : ℕ) → o ≡ Some since → 3 ≤ q.repeats → 3000 ≤ now - since → question_expired q o now ≡ over.Silent 3000
overdue_silent q o since now e r w = rw e (grind (arith, common_steps))

unacknowledged_so : (s : Session) (q : Question) (since now : ℕ) → q.confirmed ≡ Some since → 3 ≤ q.repeats → 3000 ≤ now - since → client_expired (Asking s q) now ≡ over.Silent 3000
unfolding client_expired
unacknowledged_so s q since now e r w = overdue_silent q q.confirmed since now e r w

pub unacknowledged : (e : ClientEnd) (now : ℕ) → IsUnacknowledged e now → client_expired e now ≡ over.Silent 3000
unacknowledged e now h = rw h.asking (unacknowledged_so h.session h.question h.since now h.confirmed h.often h.waited)

unanswered_so : (s : Session) (now : ℕ) → 6000 ≤ now - s.last → client_expired (Awaiting s) now ≡ over.Silent 6000
unfolding client_expired
unanswered_so s now w = grind (arith, common_steps)

pub unanswered : (e : ClientEnd) (now : ℕ) → IsUnanswered e now → client_expired e now ≡ over.Silent 6000
unanswered e now h = rw h.awaiting (unanswered_so h.session now h.idle)

question_due : (q : Question) (o : Option ℕ) (now : ℕ) → now < 0xFFFFFFFFFFFFFFFF → Reached (wait_end_if 3000 o) now → question_expired q o now ≢ over.Nothing
question_due q None now l h = absurd h
question_due q (Some since) now l h = λ e. grind (arith, common_steps)

pub due : (e : ClientEnd) (now : ℕ) → now < 0xFFFFFFFFFFFFFFFF → Reached (client_deadline e) now → client_expired e now ≢ over.Nothing
unfolding client_expired client_deadline
due (Asked device) now l h = absurd h
due (Up s) now l h = absurd h
due (Asking s q) now l h = question_due q q.confirmed now l h
due (Awaiting s) now l h = λ e. grind (arith, common_steps)
due Ended now l h = absurd h

question_reached : (q : Question) (o : Option ℕ) (now : ℕ) → now < 0xFFFFFFFFFFFFFFFF → question_expired q o now ≢ over.Nothing → Reached (wait_end_if 3000 o) now
question_reached q None now l h = absurd (h refl)
question_reached q (Some since) now l h = grind (arith, common_steps)

awaiting_reached : (s : Session) (now : ℕ) → now < 0xFFFFFFFFFFFFFFFF → client_expired (Awaiting s) now ≢ over.Nothing → Reached (client_deadline (Awaiting s)) now
unfolding client_expired client_deadline
awaiting_reached s now l h = grind (arith, common_steps)

pub reached : (e : ClientEnd) (now : ℕ) → now < 0xFFFFFFFFFFFFFFFF → client_expired e now ≢ over.Nothing → Reached (client_deadline e) now
unfolding client_expired client_deadline
reached (Asked device) now l h = absurd (h refl)
reached (Up s) now l h = absurd (h refl)
reached (Asking s q) now l h = question_reached q q.confirmed now l h
reached (Awaiting s) now l h = awaiting_reached s now l h
reached Ended now l h = absurd (h refl)
