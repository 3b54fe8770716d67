-- An attempt that runs, and its stretch of the record: nothing to the device, a confirmation, the loss of the channel.
use Rattle.std.proofs.Common.{◌≡◌, ◌≢◌, ℕ, Bool, true, false, List, [], ◌∷◌, Option, Some, None, refl, ap, sym, subst, ◌∙◌}
use Rattle.knx_model.specs.declared.address.IndAddr.{IndAddr}
use Rattle.knx_model.specs.Connection.{new_session}
use Rattle.knx_model.specs.ClientConnection.{ClientEnd, Asked, Up, Asking, Awaiting, Ended as NoConnection, client_confirmed, after_confirmed}
use Rattle.knx_model.specs.Plans.{Plan, Over}
use Rattle.line_model.specs.Attempts.{awaits}
use Rattle.line_model.specs.Moments.{Moment, Course, Unconfirmed, WithError, InSession, Left, course, session}
use Rattle.line_model.specs.Signs.{IsntConfirmation}
use Rattle.download_core.specs.declared.flight.Flight.{Flight}
use Rattle.download_core.specs.declared.flight.Flight.TheVariants.{Nothing, Frame, Reply}
use Rattle.download_core.specs.declared.outcome.Refusal.{Refusal}
use Rattle.download_core.specs.Attempt.{Standing, Next, Attempt, Phase, Resting, Running, Closing, Leaving, Ended}
use Rattle.download_core.specs.Calls.{landed, connected, attempt_confirmed}
use Rattle.line_model.specs.Progress.{last_of}
use Rattle.download_core.specs.InSession.{ConnFits, PlanFits, SessionFits}
use Rattle.download_core.specs.Record.{IsAsked, HasBegun, RunFits, CameTo, IsFinal, IsUnfinished}
use Rattle.download_core.specs.Follows.{IsMoment}
use Rattle.download_core.proofs.Readings.{IsSame, ends_after, goes_on, isnt_confirmed}
use Rattle.download_core.proofs.Sessions.{isnt_ack, asking_confirmed}
use Rattle.download_core.proofs.Conns.{conn_flight, idle_same, idle_conn}
use Rattle.download_core.proofs.Confirmed.{awaits_confirmed}
use Rattle.download_core.proofs.Tally.{same_length, plan_kept, last_kept}
use Rattle.download_core.proofs.Comes.{nothing_done}

-- ---- what a phase has of its stretch

abbrev pub Fares : ℕ → Plan → Phase → List Moment → Type 0
Fares device plan Resting x = ⊥
Fares device plan (Running a) x = RunFits device plan a (course device x)
Fares device plan (Closing flight outcome) x = CameTo device plan outcome x
Fares device plan (Leaving outcome) x = CameTo device plan outcome x
Fares device plan (Ended outcome) x = CameTo device plan outcome x

-- ---- nothing of the device, and no confirmation of its own

-- the same but for its connection
pub session_conn : (device : IndAddr) (plan : Plan) (a : Attempt) (conn : ClientEnd) (flight : Flight) (m : Moment) (l : List Moment) → SessionFits device.raw plan a l → IsSame device.raw m l → ConnFits device.raw conn flight a.sent (m ∷ l)
    → (awaits conn ≡ true → awaits a.conn ≡ true) → SessionFits device.raw plan (record a { conn = conn; flight = flight }) (m ∷ l)
session_conn device plan a conn flight m l f e c w = record {
  conn = c;
  sent = same_length device.raw m l e.put ∙ f.sent;
  stands = plan_kept device.raw plan a.wrong a.standing a.sent m l e.got e.put f.stands;
  last = last_kept device.raw plan a m l e.got f.last;
  right = λ t. f.right (w t);
}

idle_session : (device : IndAddr) (plan : Plan) (a : Attempt) (c : Option Bool) (m : Moment) (l : List Moment) → SessionFits device.raw plan a l → IsMoment device None None c m → (a.flight ≡ Frame → IsntConfirmation m) → SessionFits device.raw plan a (m ∷ l)
idle_session device plan a c m l f w n =
    let e = idle_same device c m l w in
    record {
      conn = idle_conn device a.conn a.flight a.sent c m l f.conn w n;
      sent = same_length device.raw m l e.put ∙ f.sent;
      stands = plan_kept device.raw plan a.wrong a.standing a.sent m l e.got e.put f.stands;
      last = last_kept device.raw plan a m l e.got f.last;
      right = f.right;
    }

idle_goes : (device : IndAddr) (c : Option Bool) (m : Moment) (x l : List Moment) → course device.raw x ≡ InSession l → IsMoment device None None c m → course device.raw (m ∷ x) ≡ InSession (m ∷ l)
idle_goes device c m x l e w = goes_on device.raw m x l e (ends_after device None None c m l w)

pub run_aside : (device : IndAddr) (plan : Plan) (a : Attempt) (m : Moment) (x : List Moment) (k : Course) → course device.raw x ≡ k → RunFits device.raw plan a k → IsMoment device None None None m → RunFits device.raw plan a (course device.raw (m ∷ x))
run_aside device plan a m x Unconfirmed e f w = subst (RunFits device.raw plan a) (sym (isnt_confirmed device None None None m x e w)) f
run_aside device plan a m x WithError e f w = absurd f
run_aside device plan a m x (InSession l) e f w = subst (RunFits device.raw plan a) (sym (idle_goes device None m x l e w)) (idle_session device plan a None m l f w (λ t. w.confirmed_is))
run_aside device plan a m x (Left l) e f w = absurd f

-- ---- a confirmation

pub begun_frame : (plan : Plan) (a : Attempt) (flight : Flight) → HasBegun plan a → a.flight ≡ flight → (flight ≡ Frame → ⊥) → ⊥
begun_frame plan a flight f g n = n (sym g ∙ f.flight)

pub nothing_frame : Nothing ≡ Frame → ⊥
nothing_frame e = cc e

reply_frame : Reply ≡ Frame → ⊥
reply_frame e = cc e

-- a session begins
session_begins : (device : ℕ) (plan : Plan) (a : Attempt) (to : IndAddr) (now : ℕ) → HasBegun plan a → SessionFits device plan (landed a (Up (new_session to now))) []
session_begins device plan a to now f = record {
  conn = record { own = refl; expects = refl; over = sym f.sent };
  sent = sym f.sent;
  stands = subst (λ (w : Option Refusal). PlanFits device plan w a.standing a.sent []) (sym f.wrong)
      (subst (λ (st : Standing). PlanFits device plan None st a.sent []) (sym f.standing) (subst (λ (n : ℕ). PlanFits device plan None (Next plan) n []) (sym f.sent) refl));
  last = λ _. f.last ∙ ap (λ (n : ℕ). last_of 0 plan n []) (sym f.sent);
  right = λ e. absurd (cc e);
}

asked_confirmed : (device : IndAddr) (plan : Plan) (a : Attempt) (to : IndAddr) (error : Bool) (m : Moment) (x : List Moment) → plan ≢ Over → course device.raw x ≡ Unconfirmed → HasBegun plan a → IsMoment device None None (Some error) m
    → Fares device.raw plan (connected a (client_confirmed (Asked to) error) (after_confirmed (Asked to) error m.now)) (m ∷ x)
unfolding client_confirmed after_confirmed
asked_confirmed device plan a to true m x n e f w =
    let with_error = isnt_confirmed device None None (Some true) m x e w in
    record { final = subst IsFinal (sym with_error) tt; shows = (with_error, subst (λ (k : Course). IsUnfinished device.raw plan (session k)) (sym with_error) (nothing_done device.raw plan n)) }
asked_confirmed device plan a to false m x n e f w = subst (RunFits device.raw plan (landed a (Up (new_session to m.now)))) (sym (isnt_confirmed device None None (Some false) m x e w)) (session_begins device.raw plan a to m.now f)

begun_confirmed : (device : IndAddr) (plan : Plan) (a : Attempt) (conn : ClientEnd) (error : Bool) (m : Moment) (x : List Moment) → IsAsked conn → plan ≢ Over → course device.raw x ≡ Unconfirmed → HasBegun plan a → IsMoment device None None (Some error) m
    → Fares device.raw plan (connected a (client_confirmed conn error) (after_confirmed conn error m.now)) (m ∷ x)
begun_confirmed device plan a (Asked to) error m x i n e f w = asked_confirmed device plan a to error m x n e f w
begun_confirmed device plan a (Up s) error m x i n e f w = absurd i
begun_confirmed device plan a (Asking s q) error m x i n e f w = absurd i
begun_confirmed device plan a (Awaiting s) error m x i n e f w = absurd i
begun_confirmed device plan a NoConnection error m x i n e f w = absurd i

-- what is known of the session then
conn_confirmed : (device : IndAddr) (conn : ClientEnd) (sent : ℕ) (error : Bool) (m : Moment) (l : List Moment) → ConnFits device.raw conn Frame sent l → IsMoment device None None (Some error) m → ConnFits device.raw (after_confirmed conn error m.now) Nothing sent (m ∷ l)
unfolding after_confirmed
conn_confirmed device (Asked to) sent error m l f w = absurd f
conn_confirmed device (Up s) sent error m l f w = idle_conn device (Up s) Nothing sent (Some error) m l f w (λ t. absurd (nothing_frame t))
conn_confirmed device (Asking s q) sent error m l f w = asking_confirmed device.raw s q sent error m l f (idle_same device (Some error) m l w) (isnt_ack device s.number None None (Some error) m w (λ e. cc e)) w.confirmed_is
conn_confirmed device (Awaiting s) sent error m l f w = idle_conn device (Awaiting s) Nothing sent (Some error) m l f w (λ t. absurd (nothing_frame t))
conn_confirmed device NoConnection sent error m l f w = absurd f

frame_confirmed : (device : IndAddr) (plan : Plan) (a : Attempt) (conn : ClientEnd) (error : Bool) (m : Moment) (x l : List Moment) → course device.raw (m ∷ x) ≡ InSession (m ∷ l) → ConnFits device.raw conn a.flight a.sent l
    → SessionFits device.raw plan (landed a (after_confirmed conn error m.now)) (m ∷ l) → Fares device.raw plan (connected a (client_confirmed conn error) (after_confirmed conn error m.now)) (m ∷ x)
unfolding client_confirmed
frame_confirmed device plan a (Asked to) error m x l e c f = absurd c
frame_confirmed device plan a (Up s) error m x l e c f = subst (RunFits device.raw plan (landed a (after_confirmed (Up s) error m.now))) (sym e) f
frame_confirmed device plan a (Asking s q) error m x l e c f = subst (RunFits device.raw plan (landed a (after_confirmed (Asking s q) error m.now))) (sym e) f
frame_confirmed device plan a (Awaiting s) error m x l e c f = subst (RunFits device.raw plan (landed a (after_confirmed (Awaiting s) error m.now))) (sym e) f
frame_confirmed device plan a NoConnection error m x l e c f = absurd c

run_confirmed : (device : IndAddr) (plan : Plan) (a : Attempt) (flight : Flight) (error : Bool) (m : Moment) (x : List Moment) (k : Course) → plan ≢ Over → a.flight ≡ flight → course device.raw x ≡ k → RunFits device.raw plan a k
    → IsMoment device None None (Some error) m → Fares device.raw plan (attempt_confirmed a flight error m.now) (m ∷ x)
run_confirmed device plan a Nothing error m x Unconfirmed n g e f w = absurd (begun_frame plan a Nothing f g nothing_frame)
run_confirmed device plan a Nothing error m x WithError n g e f w = absurd f
run_confirmed device plan a Nothing error m x (InSession l) n g e f w =
    subst (RunFits device.raw plan a) (sym (idle_goes device (Some error) m x l e w)) (idle_session device plan a (Some error) m l f w (λ t. absurd (nothing_frame (sym g ∙ t))))
run_confirmed device plan a Nothing error m x (Left l) n g e f w = absurd f
run_confirmed device plan a Frame error m x Unconfirmed n g e f w = begun_confirmed device plan a a.conn error m x f.asked n e f w
run_confirmed device plan a Frame error m x WithError n g e f w = absurd f
run_confirmed device plan a Frame error m x (InSession l) n g e f w =
    frame_confirmed device plan a a.conn error m x l (idle_goes device (Some error) m x l e w) f.conn
    (session_conn device plan a (after_confirmed a.conn error m.now) Nothing m l f (idle_same device (Some error) m l w) (conn_confirmed device a.conn a.sent error m l (subst (λ (j : Flight). ConnFits device.raw a.conn j a.sent l) g f.conn) w)
    (λ t. sym (awaits_confirmed a.conn error m.now) ∙ t))
run_confirmed device plan a Frame error m x (Left l) n g e f w = absurd f
run_confirmed device plan a Reply error m x Unconfirmed n g e f w = absurd (begun_frame plan a Reply f g reply_frame)
run_confirmed device plan a Reply error m x WithError n g e f w = absurd f
run_confirmed device plan a Reply error m x (InSession l) n g e f w =
    subst (RunFits device.raw plan (landed a a.conn)) (sym (idle_goes device (Some error) m x l e w))
    (session_conn device plan a a.conn Nothing m l f (idle_same device (Some error) m l w)
    (conn_flight device.raw a.conn a.flight Nothing a.sent (m ∷ l) (λ t. reply_frame (sym g ∙ t)) (idle_conn device a.conn a.flight a.sent (Some error) m l f.conn w (λ t. absurd (reply_frame (sym g ∙ t))))) (λ t. t))
run_confirmed device plan a Reply error m x (Left l) n g e f w = absurd f

pub confirmed_fares : (device : IndAddr) (plan : Plan) (a : Attempt) (error : Bool) (m : Moment) (x : List Moment) → plan ≢ Over → RunFits device.raw plan a (course device.raw x) → IsMoment device None None (Some error) m
    → Fares device.raw plan (attempt_confirmed a a.flight error m.now) (m ∷ x)
confirmed_fares device plan a error m x n f w = run_confirmed device plan a a.flight error m x (course device.raw x) n refl refl f w
