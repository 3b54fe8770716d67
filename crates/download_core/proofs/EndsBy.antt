-- An attempt that the loss of the channel or a frame of the device ends, and each other frame of the device, by its stretch of the record.
use Rattle.std.proofs.Common.{◌≡◌, ◌≢◌, ℕ, true, false, List, [], ◌∷◌, Option, Some, None, refl, ap, sym, subst, ◌∙◌, if◌then◌else◌}
use Rattle.knx_model.specs.declared.address.IndAddr.{IndAddr}
use Rattle.knx_model.specs.declared.log.Sign.{Sign}
use Rattle.knx_model.specs.declared.log.Sign.TheVariants as sign
use Rattle.knx_model.specs.declared.connection.TransportFrame.{TransportFrame}
use Rattle.knx_model.specs.declared.connection.ClientTook.{ClientTook}
use Rattle.knx_model.specs.declared.connection.ClientTook.TheVariants as heard
use Rattle.knx_model.specs.ClientConnection.{ClientEnd, Asked, Up, Asking, Awaiting, Ended as NoConnection, client_took, client_after, awaits_nothing}
use Rattle.knx_model.specs.Plans.{Plan, Over}
use Rattle.line_model.specs.Attempts.{awaits}
use Rattle.line_model.specs.ClientView.{Deed, Nothing as NoDeed, Puts, Takes, Loses}
use Rattle.line_model.specs.Moments.{Moment, is_loss, heard_from, Course, Unconfirmed, WithError, InSession, Left, course, session, ends_session, closes_by, number}
use Rattle.line_model.specs.Signs.{Holds, Once, Here, ClosesNow}
use Rattle.download_core.specs.declared.flight.Flight.{Flight}
use Rattle.download_core.specs.declared.outcome.Outcome.{Outcome}
use Rattle.download_core.specs.declared.outcome.Outcome.TheVariants.{Failed}
use Rattle.download_core.specs.Attempt.{Attempt, comes_to, result_or, is_over, answered}
use Rattle.download_core.specs.Calls.{owing, attempt_heard}
use Rattle.download_core.specs.Fits.{StandsWith}
use Rattle.download_core.specs.InSession.{ConnFits, PlanFits, LastFits, SessionFits}
use Rattle.download_core.specs.Record.{IsAsked, HasBegun, RunFits, CameTo}
use Rattle.download_core.specs.Follows.{IsMoment}
use Rattle.download_core.proofs.Readings.{IsSame, ends_after, goes_on, comes_to_end, isnt_confirmed, lost_early}
use Rattle.download_core.proofs.Replies.{awaits_acked, awaits_answered, awaits_again, awaits_nak}
use Rattle.download_core.proofs.Tally.{same_length, plan_kept, last_kept, tally_of}
use Rattle.download_core.proofs.Answered.{answered_keeps, plan_answered, last_fits}
use Rattle.download_core.proofs.Comes.{came_at_end, came_left, nothing_done}
use Rattle.download_core.proofs.HeardIn.{StaysIn, AnswersIn, EndsIn, HeardIn}
use Rattle.download_core.proofs.HeardConn.{conn_heard}
use Rattle.download_core.proofs.Fares.{Fares}

-- where nothing was wrong the plan awaits an answer as the connection does
abbrev pub Stands : Attempt → Type 0
Stands a = a.wrong ≡ None → StandsWith (awaits a.conn) a.standing

-- ---- the loss of the channel

pub loss_is : (what : Deed) → is_loss what ≡ true → what ≡ Loses
loss_is (Puts frame) e = absurd (cc e)
loss_is (Takes frame) e = absurd (cc e)
loss_is Loses e = refl
loss_is NoDeed e = absurd (cc e)

lost_same : (device : ℕ) (m : Moment) (l : List Moment) → m.what ≡ Loses → IsSame device m l
lost_same device m l e = record { own = rw e refl; over = rw e refl; got = rw e refl; put = rw e refl }

lost_ends : (device : ℕ) (m : Moment) (l : List Moment) → m.what ≡ Loses → ends_session device m l ≡ true
lost_ends device m l e = rw e refl

asked_fails : (a : Attempt) (conn : ClientEnd) (why : Sign) → a.conn ≡ conn → IsAsked conn → comes_to a why ≡ Failed why
asked_fails a (Asked to) why e i = ap (λ (c : ClientEnd). if awaits_nothing c then result_or a.wrong (is_over a.standing) why else Failed why) e
asked_fails a (Up s) why e i = absurd i
asked_fails a (Asking s q) why e i = absurd i
asked_fails a (Awaiting s) why e i = absurd i
asked_fails a NoConnection why e i = absurd i

run_lost : (device : ℕ) (plan : Plan) (a : Attempt) (m : Moment) (x : List Moment) (k : Course) → plan ≢ Over → m.what ≡ Loses → is_loss m.what ≡ true → course device x ≡ k → RunFits device plan a k → Stands a → CameTo device plan (comes_to a sign.TunnelLost) (m ∷ x)
run_lost device plan a m x Unconfirmed n w i e f s =
    subst (λ (o : Outcome). CameTo device plan o (m ∷ x)) (sym (asked_fails a a.conn sign.TunnelLost refl f.asked)) (came_left device plan (Failed sign.TunnelLost) (m ∷ x) [] (lost_early device m x e i) (Here w, nothing_done device plan n))
run_lost device plan a m x WithError n w i e f s = absurd f
run_lost device plan a m x (InSession l) n w i e f s = came_at_end device plan sign.TunnelLost a m x l e (lost_ends device m l w) (lost_same device m l w) (Here w) s (tally_of device plan a l f)
run_lost device plan a m x (Left l) n w i e f s = absurd f

pub lost_fares : (device : ℕ) (plan : Plan) (a : Attempt) (m : Moment) (x : List Moment) → plan ≢ Over → is_loss m.what ≡ true → RunFits device plan a (course device x) → Stands a → CameTo device plan (comes_to a sign.TunnelLost) (m ∷ x)
lost_fares device plan a m x n w f s = run_lost device plan a m x (course device x) n (loss_is m.what w) w refl f s

-- ---- a frame of the device, while the T_Connect isn't confirmed

begun_heard : (device : IndAddr) (plan : Plan) (a : Attempt) (conn : ClientEnd) (f : TransportFrame) (m : Moment) (x : List Moment) → IsAsked conn → course device.raw x ≡ Unconfirmed → HasBegun plan a → IsMoment device None (Some f) None m
    → Fares device.raw plan (attempt_heard a (client_after conn m.now (client_took conn f)) (client_took conn f)) (m ∷ x)
unfolding client_took client_after
begun_heard device plan a (Asked to) f m x i e k w =
    subst (RunFits device.raw plan (record a { conn = Asked to })) (sym (isnt_confirmed device None (Some f) None m x e w)) (record { asked = tt; flight = k.flight; sent = k.sent; last = k.last; standing = k.standing; wrong = k.wrong })
begun_heard device plan a (Up s) f m x i e k w = absurd i
begun_heard device plan a (Asking s q) f m x i e k w = absurd i
begun_heard device plan a (Awaiting s) f m x i e k w = absurd i
begun_heard device plan a NoConnection f m x i e k w = absurd i

-- ---- and in a session

abbrev IsHeard : ClientTook → Type 0
IsHeard heard.Dropped = Unit {0}
IsHeard heard.Acked = Unit {0}
IsHeard (heard.Answer apdu ack) = ⊥
IsHeard (heard.Again ack) = Unit {0}
IsHeard (heard.Nak nak) = Unit {0}
IsHeard (heard.Closed answer) = ⊥

still_awaits : (e : ClientEnd) (now : ℕ) (t : ClientTook) → IsHeard t → awaits (client_after e now t) ≡ true → awaits e ≡ true
unfolding client_after
still_awaits e now heard.Dropped i h = h
still_awaits e now heard.Acked i h = sym (awaits_acked e now) ∙ h
still_awaits e now (heard.Answer apdu ack) i h = absurd i
still_awaits e now (heard.Again ack) i h = sym (awaits_again e now ack) ∙ h
still_awaits e now (heard.Nak nak) i h = sym (awaits_nak e now nak) ∙ h
still_awaits e now (heard.Closed answer) i h = absurd i

stays_session : (device : ℕ) (plan : Plan) (a : Attempt) (conn : ClientEnd) (m : Moment) (l : List Moment) → SessionFits device plan a l → StaysIn device a.flight a.sent m l conn → (awaits conn ≡ true → awaits a.conn ≡ true)
    → SessionFits device plan (record a { conn = conn }) (m ∷ l)
stays_session device plan a conn m l f h r = record {
  conn = h.fits;
  sent = same_length device m l h.put ∙ f.sent;
  stands = plan_kept device plan a.wrong a.standing a.sent m l h.got h.put f.stands;
  last = last_kept device plan a m l h.got f.last;
  right = λ t. f.right (r t);
}

stays_owing : (device : ℕ) (plan : Plan) (a : Attempt) (conn : ClientEnd) (reply : List ℕ) (m : Moment) (l : List Moment) → SessionFits device plan (record a { conn = conn }) (m ∷ l) → SessionFits device plan (owing a conn reply) (m ∷ l)
stays_owing device plan a conn reply m l f = record { conn = f.conn; sent = f.sent; stands = f.stands; last = f.last; right = f.right }

answers_session : (device : ℕ) (plan : Plan) (a b : Attempt) (conn : ClientEnd) (apdu ack : List ℕ) (m : Moment) (l : List Moment) → SessionFits device plan a l → Stands a → b ≡ answered a apdu → AnswersIn device a.flight a.sent apdu m l conn → awaits conn ≡ false
    → SessionFits device plan (owing b conn ack) (m ∷ l)
answers_session device plan a b conn apdu ack m l f s e h n =
    let keeps = answered_keeps a apdu in
    let sent : b.sent ≡ a.sent = ap (λ (c : Attempt). c.sent) e ∙ keeps.sent in
    let flight : b.flight ≡ a.flight = ap (λ (c : Attempt). c.flight) e ∙ keeps.flight in
    record {
      conn = subst (λ (j : Flight). ConnFits device conn j b.sent (m ∷ l)) (sym flight) (subst (λ (j : ℕ). ConnFits device conn a.flight j (m ∷ l)) (sym sent) h.fits);
      sent = same_length device m l h.put ∙ f.sent ∙ sym sent;
      stands = subst (λ (c : Attempt). PlanFits device plan c.wrong c.standing c.sent (m ∷ l)) (sym e) (plan_answered device plan a (awaits a.conn) apdu m l f.sent s f.last f.stands h.got h.put);
      last = subst (λ (c : Attempt). LastFits device plan c (m ∷ l)) (sym e) (last_fits device plan a apdu m l f.stands f.last h.got);
      right = λ t. absurd (cc (sym t ∙ n));
    }

-- the closing shows
closes_now : (device : IndAddr) (f : TransportFrame) (m : Moment) (x l : List Moment) → course device.raw x ≡ InSession l → IsMoment device None (Some f) None m → EndsIn device.raw m l → Holds device.raw sign.Closed (m ∷ x)
closes_now device f m x l e w h =
    let closes : closes_by (Some f) (number device.raw l) ≡ true = sym (ends_after device None (Some f) None m l w) ∙ h.ends in
    let here : closes_by (heard_from device.raw m.what) (number device.raw l) ≡ true = ap (λ (g : Option TransportFrame). closes_by g (number device.raw l)) w.heard_is ∙ closes in
    subst (λ (k : Course). Once (ClosesNow device.raw) (session k)) (sym (comes_to_end device.raw m x l e h.ends)) (Here here)

closed : (device : IndAddr) (plan : Plan) (a : Attempt) (f : TransportFrame) (m : Moment) (x l : List Moment) → course device.raw x ≡ InSession l → SessionFits device.raw plan a l → Stands a → IsMoment device None (Some f) None m → EndsIn device.raw m l
    → CameTo device.raw plan (comes_to a sign.Closed) (m ∷ x)
closed device plan a f m x l e k s w h = came_at_end device.raw plan sign.Closed a m x l e h.ends h.same (closes_now device f m x l e w h) s (tally_of device.raw plan a l k)

session_heard : (device : IndAddr) (plan : Plan) (a : Attempt) (f : TransportFrame) (t : ClientTook) (m : Moment) (x l : List Moment) → course device.raw x ≡ InSession l → SessionFits device.raw plan a l → Stands a → IsMoment device None (Some f) None m
    → HeardIn device.raw a.flight a.sent m l t (client_after a.conn m.now t) → Fares device.raw plan (attempt_heard a (client_after a.conn m.now t) t) (m ∷ x)
session_heard device plan a f heard.Dropped m x l e k s w h =
    let c = client_after a.conn m.now heard.Dropped in
    subst (RunFits device.raw plan (record a { conn = c })) (sym (goes_on device.raw m x l e h.goes)) (stays_session device.raw plan a c m l k h (still_awaits a.conn m.now heard.Dropped tt))
session_heard device plan a f heard.Acked m x l e k s w h =
    let c = client_after a.conn m.now heard.Acked in
    subst (RunFits device.raw plan (record a { conn = c })) (sym (goes_on device.raw m x l e h.goes)) (stays_session device.raw plan a c m l k h (still_awaits a.conn m.now heard.Acked tt))
session_heard device plan a f (heard.Answer apdu ack) m x l e k s w h =
    let c = client_after a.conn m.now (heard.Answer apdu ack) in
    subst (RunFits device.raw plan (owing (answered a apdu) c ack)) (sym (goes_on device.raw m x l e h.goes)) (answers_session device.raw plan a (answered a apdu) c apdu ack m l k s refl h (awaits_answered a.conn m.now apdu ack))
session_heard device plan a f (heard.Again ack) m x l e k s w h =
    let c = client_after a.conn m.now (heard.Again ack) in
    subst (RunFits device.raw plan (owing a c ack)) (sym (goes_on device.raw m x l e h.goes)) (stays_owing device.raw plan a c ack m l (stays_session device.raw plan a c m l k h (still_awaits a.conn m.now (heard.Again ack) tt)))
session_heard device plan a f (heard.Nak nak) m x l e k s w h =
    let c = client_after a.conn m.now (heard.Nak nak) in
    subst (RunFits device.raw plan (owing a c nak)) (sym (goes_on device.raw m x l e h.goes)) (stays_owing device.raw plan a c nak m l (stays_session device.raw plan a c m l k h (still_awaits a.conn m.now (heard.Nak nak) tt)))
session_heard device plan a f (heard.Closed None) m x l e k s w h = closed device plan a f m x l e k s w h
session_heard device plan a f (heard.Closed (Some d)) m x l e k s w h = closed device plan a f m x l e k s w h

run_heard : (device : IndAddr) (plan : Plan) (a : Attempt) (f : TransportFrame) (m : Moment) (x : List Moment) (k : Course) → course device.raw x ≡ k → RunFits device.raw plan a k → Stands a → IsMoment device None (Some f) None m
    → Fares device.raw plan (attempt_heard a (client_after a.conn m.now (client_took a.conn f)) (client_took a.conn f)) (m ∷ x)
run_heard device plan a f m x Unconfirmed e k s w = begun_heard device plan a a.conn f m x k.asked e k w
run_heard device plan a f m x WithError e k s w = absurd k
run_heard device plan a f m x (InSession l) e k s w = session_heard device plan a f (client_took a.conn f) m x l e k s w (conn_heard device a.conn a.flight a.sent f m l k.conn w)
run_heard device plan a f m x (Left l) e k s w = absurd k

pub heard_fares : (device : IndAddr) (plan : Plan) (a : Attempt) (f : TransportFrame) (m : Moment) (x : List Moment) → RunFits device.raw plan a (course device.raw x) → Stands a → IsMoment device None (Some f) None m
    → Fares device.raw plan (attempt_heard a (client_after a.conn m.now (client_took a.conn f)) (client_took a.conn f)) (m ∷ x)
heard_fares device plan a f m x k s w = run_heard device plan a f m x (course device.raw x) refl k s w
