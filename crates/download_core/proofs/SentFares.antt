-- What an attempt that runs sends, by its stretch of the record: whatever it is.
use Rattle.std.proofs.Common.{◌≡◌, ℕ, Bool, true, false, List, [], ◌∷◌, Option, Some, None, refl, ap, sym, subst, ◌∙◌, if◌then◌else◌}
use Rattle.knx_model.specs.declared.address.IndAddr.{IndAddr}
use Rattle.knx_model.specs.declared.log.Sign.{Sign}
use Rattle.knx_model.specs.declared.log.Sign.TheVariants as sign
use Rattle.knx_model.specs.declared.connection.TransportFrame.{TransportFrame}
use Rattle.knx_model.specs.declared.connection.TransportFrame.TheVariants as frame
use Rattle.knx_model.specs.declared.connection.ClientExpired.{ClientExpired}
use Rattle.knx_model.specs.declared.connection.ClientExpired.TheVariants as due
use Rattle.knx_model.specs.declared.plan.Expect.{Expect}
use Rattle.knx_model.specs.Connection.{frame_in, disconnect, IsApdu, IsNumber}
use Rattle.knx_model.specs.ClientConnection.{ClientEnd, Asked, Up, Asking, Awaiting, Ended as NoConnection, IsClientEnd, awaits_nothing, client_expired}
use Rattle.knx_model.specs.Plans.{Plan, Over, Asks}
use Rattle.knx_model.specs.GoodPlan.{IsSendable}
use Rattle.line_model.specs.Attempts as line
use Rattle.line_model.specs.Attempts.{awaits}
use Rattle.line_model.specs.Moments.{Moment, Course, Unconfirmed, WithError, InSession, Left, course, session}
use Rattle.line_model.specs.Signs.{Holds, Once, Here, Later, SilentFor}
use Rattle.download_core.specs.declared.did.Did.TheVariants as did
use Rattle.download_core.specs.declared.flight.Flight.{Flight}
use Rattle.download_core.specs.declared.flight.Flight.TheVariants.{Nothing, Frame, Reply}
use Rattle.download_core.specs.declared.outcome.Refusal.{Refusal}
use Rattle.download_core.specs.declared.outcome.Outcome.{Outcome}
use Rattle.download_core.specs.declared.outcome.Outcome.TheVariants.{Failed, Done, Refused}
use Rattle.download_core.specs.Attempt.{Standing, Next, AnswerOf, Attempt, Running, comes_to, result_or, is_over}
use Rattle.download_core.specs.Steps.{attempt_did, timed_did, paid_did, free_did, standing_did, due_did, attempt_sent, timed_sent, paid_sent, free_sent, standing_sent, due_sent, replied}
use Rattle.download_core.specs.Fits.{Knows, IsReply, IsAck, IsNak, AreReplies, StandsWith, plan_of}
use Rattle.download_core.specs.InSession.{SessionFits}
use Rattle.download_core.specs.Record.{RunFits, CameTo}
use Rattle.download_core.proofs.Readings.{same_by, ends_after, comes_to_end}
use Rattle.download_core.proofs.Tally.{Tally, tally_of, tally_kept}
use Rattle.download_core.proofs.Outcomes.{unfinished_at}
use Rattle.download_core.proofs.Comes.{CameWith, comes_with, came_left}
use Rattle.download_core.proofs.Fares.{Fares, begun_frame, nothing_frame}
use Rattle.download_core.proofs.SentBy.{PutsIt, Timed, acks, naks, asks, asks_again, silent_for}
use Rattle.download_core.proofs.Goes.{is_sent, disconnect_read, numbered_read}
use Rattle.download_core.proofs.Sent.{up_of, up_gives}

-- ---- T_Disconnect

-- what is known where it is put
pub record Leaves (device : IndAddr) (plan : Plan) (a : Attempt) (m : Moment) (x l : List Moment) : Type 0 where
  pub course_is : course device.raw x ≡ InSession l
  pub puts : PutsIt device frame.Disconnect m
  pub tally : Tally device.raw plan a (m ∷ l)
  pub stands : a.wrong ≡ None → StandsWith (awaits a.conn) a.standing

leaves : (device : IndAddr) (plan : Plan) (a : Attempt) (tpdu : List ℕ) (m : Moment) (x l : List Moment) → course device.raw x ≡ InSession l → SessionFits device.raw plan a l → (a.wrong ≡ None → StandsWith (awaits a.conn) a.standing)
    → did.Send disconnect ≡ did.Send tpdu → PutsIt device (frame_in tpdu) m → Leaves device plan a m x l
leaves device plan a tpdu m x l e f s h w =
    let puts : PutsIt device frame.Disconnect m = subst (λ (p : TransportFrame). PutsIt device p m) (ap frame_in (sym (is_sent disconnect tpdu h)) ∙ disconnect_read) w in
    record { course_is = e; puts = puts; tally = tally_kept device.raw plan a m l (same_by device (Some frame.Disconnect) None None m l puts refl refl refl refl) (tally_of device.raw plan a l f); stands = s }

left_course : (device : IndAddr) (plan : Plan) (a : Attempt) (m : Moment) (x l : List Moment) → Leaves device plan a m x l → course device.raw (m ∷ x) ≡ Left (m ∷ l)
left_course device plan a m x l k = comes_to_end device.raw m x l k.course_is (ends_after device (Some frame.Disconnect) None None m l k.puts)

abbrev Anything : Sign → Type 0
Anything why = Unit {0}

-- done or refused
leaves_with : (device : IndAddr) (plan : Plan) (a : Attempt) (o : Outcome) (m : Moment) (x l : List Moment) → Leaves device plan a m x l → CameWith (λ (why : Sign). Holds device.raw why (m ∷ x)) device.raw plan o (m ∷ l) → CameTo device.raw plan o (m ∷ x)
leaves_with device plan a o m x l k c = came_left device.raw plan o (m ∷ x) (m ∷ l) (left_course device plan a m x l k) c

comes_refused : (a : Attempt) (u : Bool) (o : Option Refusal) (b : Bool) (w : Refusal) (why : Sign) → u ≡ true → o ≡ Some w → (if u then result_or o b why else Failed why) ≡ Refused w
comes_refused a true None b w why u e = absurd (cc e)
comes_refused a true (Some r) b w why u e = cc e
comes_refused a false o b w why u e = absurd (cc u)

comes_done : (u : Bool) (o : Option Refusal) (st : Standing) (why : Sign) → u ≡ true → o ≡ None → st ≡ Next Over → (if u then result_or o (is_over st) why else Failed why) ≡ Done
comes_done true None st why u e s = ap (λ (k : Standing). if is_over k then Done else Failed why) s
comes_done true (Some r) st why u e s = absurd (cc e)
comes_done false o st why u e s = absurd (cc u)

leaves_refused : (device : IndAddr) (plan : Plan) (a : Attempt) (r : Refusal) (m : Moment) (x l : List Moment) → awaits_nothing a.conn ≡ true → a.wrong ≡ Some r → Leaves device plan a m x l → CameTo device.raw plan (Refused r) (m ∷ x)
leaves_refused device plan a r m x l u e k =
    let comes : CameWith Anything device.raw plan (comes_to a sign.Closed) (m ∷ l) = comes_with Anything device.raw plan sign.Closed a (m ∷ l) tt k.stands k.tally in
    leaves_with device plan a (Refused r) m x l k (subst (λ (o : Outcome). CameWith Anything device.raw plan o (m ∷ l)) (comes_refused a (awaits_nothing a.conn) a.wrong (is_over a.standing) r sign.Closed u e) comes)

leaves_done : (device : IndAddr) (plan : Plan) (a : Attempt) (m : Moment) (x l : List Moment) → awaits_nothing a.conn ≡ true → a.wrong ≡ None → a.standing ≡ Next Over → Leaves device plan a m x l → CameTo device.raw plan Done (m ∷ x)
leaves_done device plan a m x l u e s k =
    let comes : CameWith Anything device.raw plan (comes_to a sign.Closed) (m ∷ l) = comes_with Anything device.raw plan sign.Closed a (m ∷ l) tt k.stands k.tally in
    leaves_with device plan a Done m x l k (subst (λ (o : Outcome). CameWith Anything device.raw plan o (m ∷ l)) (comes_done (awaits_nothing a.conn) a.wrong a.standing sign.Closed u e s) comes)

silent_busy : (conn : ClientEnd) (now ms : ℕ) → client_expired conn now ≡ due.Silent ms → awaits_nothing conn ≡ false
unfolding client_expired
silent_busy (Asked to) now ms h = refl
silent_busy (Up s) now ms h = absurd (cc h)
silent_busy (Asking s q) now ms h = refl
silent_busy (Awaiting s) now ms h = refl
silent_busy NoConnection now ms h = refl

leaves_silent : (device : IndAddr) (plan : Plan) (a : Attempt) (ms : ℕ) (m : Moment) (x l : List Moment) → client_expired a.conn m.now ≡ due.Silent ms → SilentFor device.raw ms l → Leaves device plan a m x l → CameTo device.raw plan (Failed (sign.Silent ms)) (m ∷ x)
leaves_silent device plan a ms m x l h s k =
    let once : Once (SilentFor device.raw ms) (m ∷ l) = Later (Here s) in
    leaves_with device plan a (Failed (sign.Silent ms)) m x l k
    (subst (λ (c : Course). Once (SilentFor device.raw ms) (session c)) (sym (left_course device plan a m x l k)) once, unfinished_at device.raw plan a a.conn (m ∷ l) refl (silent_busy a.conn m.now ms h) k.stands k.tally)

-- ---- an operation

apdu_of : (place : ℕ) (apdu : List ℕ) (expect : Expect) (next : Option (List ℕ) → Plan) (st : Standing) → st ≡ Next (Asks place apdu expect next) → IsSendable (plan_of st) → IsApdu apdu
apdu_of place apdu expect next st e s = (subst (λ (k : Standing). IsSendable (plan_of k)) e s).0

-- the moment that puts it, and what is known
pub record Sends (device : IndAddr) (plan : Plan) (a : Attempt) (tpdu : List ℕ) (m : Moment) (x l : List Moment) : Type 0 where
  pub course_is : course device.raw x ≡ InSession l
  pub fits : SessionFits device.raw plan a l
  pub free : a.flight ≡ Nothing
  pub timed : Timed m.now l
  pub puts : PutsIt device (frame_in tpdu) m
  pub attempt : line.Attempt
  pub knows : Knows a attempt

standing_fares : (device : IndAddr) (plan : Plan) (a : Attempt) (st : Standing) (tpdu : List ℕ) (m : Moment) (x l : List Moment) → awaits_nothing a.conn ≡ true → a.wrong ≡ None → a.standing ≡ st → standing_did a.conn st ≡ did.Send tpdu
    → Sends device plan a tpdu m x l → Fares device.raw plan (standing_sent a st m.now) (m ∷ x)
standing_fares device plan a (Next Over) tpdu m x l u o s h k = leaves_done device plan a m x l u o s (leaves device plan a tpdu m x l k.course_is k.fits k.knows.stands h k.puts)
standing_fares device plan a (Next (Asks place apdu expect next)) tpdu m x l u o s h k =
    let up = up_of a.conn u in
    let n : IsNumber up.0.number = (subst IsClientEnd up.1 k.knows.numbers).number in
    let i : IsApdu apdu = apdu_of place apdu expect next a.standing s k.knows.sendable in
    let reads : frame_in tpdu ≡ frame.Numbered up.0.number apdu = ap frame_in (up_gives a.conn up.0 apdu tpdu up.1 h) ∙ numbered_read up.0.number apdu n i in
    asks device plan a up.0 place apdu expect next m x l k.course_is up.1 o s k.fits n i (subst (λ (p : TransportFrame). PutsIt device p m) reads k.puts)
standing_fares device plan a (AnswerOf left) tpdu m x l u o s h k = absurd (cc h)

free_fares : (device : IndAddr) (plan : Plan) (a : Attempt) (o : Option Refusal) (tpdu : List ℕ) (m : Moment) (x l : List Moment) → awaits_nothing a.conn ≡ true → a.wrong ≡ o → free_did a o ≡ did.Send tpdu → Sends device plan a tpdu m x l
    → Fares device.raw plan (free_sent a o m.now) (m ∷ x)
free_fares device plan a None tpdu m x l u e h k = standing_fares device plan a a.standing tpdu m x l u e refl h k
free_fares device plan a (Some r) tpdu m x l u e h k = leaves_refused device plan a r m x l u e (leaves device plan a tpdu m x l k.course_is k.fits k.knows.stands h k.puts)

due_fares : (device : IndAddr) (plan : Plan) (a : Attempt) (d : ClientExpired) (tpdu : List ℕ) (m : Moment) (x l : List Moment) → client_expired a.conn m.now ≡ d → due_did d ≡ did.Send tpdu → Sends device plan a tpdu m x l
    → Fares device.raw plan (Running (due_sent a d m.now)) (m ∷ x)
due_fares device plan a due.Nothing tpdu m x l e h k = absurd (cc h)
due_fares device plan a (due.Repeat g) tpdu m x l e h k = asks_again device plan a g m x l k.course_is e k.fits k.timed (subst (λ (v : List ℕ). PutsIt device (frame_in v) m) (sym (is_sent g tpdu h)) k.puts)
due_fares device plan a (due.Silent ms) tpdu m x l e h k = absurd (cc h)

test_fares : (device : IndAddr) (plan : Plan) (a : Attempt) (u : Bool) (d : ClientExpired) (tpdu : List ℕ) (m : Moment) (x l : List Moment) → awaits_nothing a.conn ≡ u → client_expired a.conn m.now ≡ d → (if u then free_did a a.wrong else due_did d) ≡ did.Send tpdu
    → Sends device plan a tpdu m x l → Fares device.raw plan (if u then free_sent a a.wrong m.now else Running (due_sent a d m.now)) (m ∷ x)
test_fares device plan a true d tpdu m x l u e h k = free_fares device plan a a.wrong tpdu m x l u refl h k
test_fares device plan a false d tpdu m x l u e h k = due_fares device plan a d tpdu m x l e h k

-- ---- what is owed

reply_fares : (device : IndAddr) (plan : Plan) (a : Attempt) (p : TransportFrame) (m : Moment) (x l : List Moment) → IsReply (Some p) → (a.flight ≡ Frame → ⊥) → course device.raw x ≡ InSession l → SessionFits device.raw plan a l → PutsIt device p m
    → RunFits device.raw plan (replied a m.now) (course device.raw (m ∷ x))
reply_fares device plan a p m x l (IsAck k r) n e f w = let same : p ≡ frame.Ack k = cc r in acks device plan a k m x l n e f (subst (λ (q : TransportFrame). PutsIt device q m) same w)
reply_fares device plan a p m x l (IsNak k r) n e f w = let same : p ≡ frame.Nak k = cc r in naks device plan a k m x l n e f (subst (λ (q : TransportFrame). PutsIt device q m) same w)

paid_fares : (device : IndAddr) (plan : Plan) (a : Attempt) (owed : List ℕ) (d : ClientExpired) (tpdu : List ℕ) (m : Moment) (x l : List Moment) → a.owed ≡ owed → client_expired a.conn m.now ≡ d → paid_did a owed d ≡ did.Send tpdu → Sends device plan a tpdu m x l
    → Fares device.raw plan (paid_sent a owed d m.now) (m ∷ x)
paid_fares device plan a [] d tpdu m x l o e h k = test_fares device plan a (awaits_nothing a.conn) d tpdu m x l refl e h k
paid_fares device plan a (y ∷ rest) d tpdu m x l o e h k =
    reply_fares device plan a (frame_in (y ∷ [])) m x l (subst AreReplies o k.knows.replies).0 (λ t. nothing_frame (sym k.free ∙ t)) k.course_is k.fits (subst (λ (v : List ℕ). PutsIt device (frame_in v) m) (sym (is_sent (y ∷ []) tpdu h)) k.puts)

timed_fares : (device : IndAddr) (plan : Plan) (a : Attempt) (d : ClientExpired) (tpdu : List ℕ) (m : Moment) (x l : List Moment) → client_expired a.conn m.now ≡ d → timed_did a d ≡ did.Send tpdu → Sends device plan a tpdu m x l
    → Fares device.raw plan (timed_sent a d m.now) (m ∷ x)
timed_fares device plan a due.Nothing tpdu m x l e h k = paid_fares device plan a a.owed due.Nothing tpdu m x l refl e h k
timed_fares device plan a (due.Repeat g) tpdu m x l e h k = paid_fares device plan a a.owed (due.Repeat g) tpdu m x l refl e h k
timed_fares device plan a (due.Silent ms) tpdu m x l e h k =
    leaves_silent device plan a ms m x l e (silent_for device.raw a.conn a.flight a.sent m.now ms l e k.fits.conn k.timed) (leaves device plan a tpdu m x l k.course_is k.fits k.knows.stands h k.puts)

-- ---- whatever is in flight

run_sent : (device : IndAddr) (plan : Plan) (a : Attempt) (flight : Flight) (x' : line.Attempt) (tpdu : List ℕ) (m : Moment) (x : List Moment) (c : Course) → a.flight ≡ flight → course device.raw x ≡ c → RunFits device.raw plan a c → Knows a x'
    → attempt_did a flight m.now ≡ did.Send tpdu → ((l : List Moment) → c ≡ InSession l → Timed m.now l) → PutsIt device (frame_in tpdu) m → Fares device.raw plan (attempt_sent a m.now) (m ∷ x)
run_sent device plan a Frame x' tpdu m x c g e f k h t w = absurd (cc h)
run_sent device plan a Reply x' tpdu m x c g e f k h t w = absurd (cc h)
run_sent device plan a Nothing x' tpdu m x Unconfirmed g e f k h t w = absurd (begun_frame plan a Nothing f g nothing_frame)
run_sent device plan a Nothing x' tpdu m x WithError g e f k h t w = absurd f
run_sent device plan a Nothing x' tpdu m x (InSession l) g e f k h t w =
    timed_fares device plan a (client_expired a.conn m.now) tpdu m x l refl h (record { course_is = e; fits = f; free = g; timed = t l refl; puts = w; attempt = x'; knows = k })
run_sent device plan a Nothing x' tpdu m x (Left l) g e f k h t w = absurd f

pub sent_fares : (device : IndAddr) (plan : Plan) (a : Attempt) (x' : line.Attempt) (tpdu : List ℕ) (m : Moment) (x : List Moment) → RunFits device.raw plan a (course device.raw x) → Knows a x' → attempt_did a a.flight m.now ≡ did.Send tpdu
    → ((l : List Moment) → course device.raw x ≡ InSession l → Timed m.now l) → PutsIt device (frame_in tpdu) m → Fares device.raw plan (attempt_sent a m.now) (m ∷ x)
sent_fares device plan a x' tpdu m x f k h t w = run_sent device plan a a.flight x' tpdu m x (course device.raw x) refl refl f k h t w
