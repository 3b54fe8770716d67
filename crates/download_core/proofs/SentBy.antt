-- What an attempt that runs sends, by its stretch of the record: an operation for the first time or again, and a T_ACK or T_NAK.
use Rattle.std.proofs.Common.{◌≡◌, inl, inr, ◌≤◌, ◌-◌, ◌+◌, ℕ, suc, Bool, true, false, List, [], ◌∷◌, ◌++◌, length, reverse, Option, Some, None, refl, ap, sym, subst, ◌∙◌, if◌then◌else◌, arith, add-one}
use Rattle.std.proofs.lemmas.Bool.Decides.{nat_tests}
use Rattle.knx_model.specs.declared.address.IndAddr.{IndAddr}
use Rattle.knx_model.specs.declared.connection.TransportFrame.{TransportFrame}
use Rattle.knx_model.specs.declared.connection.TransportFrame.TheVariants as frame
use Rattle.knx_model.specs.declared.connection.ClientExpired.TheVariants as due
use Rattle.knx_model.specs.declared.plan.Expect.{Expect}
use Rattle.knx_model.specs.declared.plan.Expect.TheVariants.{AckOnly, Is, Note}
use Rattle.knx_model.specs.Connection.{Session, frame_in, numbered_data, IsApdu, IsNumber, has_passed, idle_wait}
use Rattle.knx_model.specs.ClientConnection.{ClientEnd, Asked, Up, Asking, Awaiting, Ended as NoConnection, Question, client_stayed, after_send, client_expired, after_overdue, question_expired}
use Rattle.knx_model.specs.Plans.{Plan, Asks}
use Rattle.line_model.specs.Attempts.{awaits}
use Rattle.line_model.specs.Moments.{Moment, time, Number, Next as NextNumber, Outstanding, number, answers, services, service_put, InSession, course}
use Rattle.line_model.specs.Progress.{Reaches, last_of}
use Rattle.line_model.specs.Signs.{SilentFor}
use Rattle.download_core.specs.declared.flight.Flight.{Flight}
use Rattle.download_core.specs.declared.flight.Flight.TheVariants.{Frame, Reply}
use Rattle.download_core.specs.declared.outcome.Refusal.{Refusal}
use Rattle.download_core.specs.Attempt.{Standing, Next, Attempt}
use Rattle.download_core.specs.Steps.{asked, replied, stands_after}
use Rattle.download_core.specs.InSession.{ConnFits, UpFits, AskingFits, StandsAt, PlanFits, SessionFits}
use Rattle.download_core.specs.Record.{RunFits}
use Rattle.download_core.specs.Follows.{IsMoment}
use Rattle.download_core.proofs.Readings.{IsSame, same_by, ends_after, goes_on, put_after}
use Rattle.download_core.proofs.Reaching.{reaches_acknowledged, last_asked}
use Rattle.download_core.proofs.Sessions.{isnt_ack}
use Rattle.download_core.proofs.Puts.{PutsNumbered, put_first, put_again, put_got, repeat_is, silent_is, four_times, unanswered}
use Rattle.download_core.proofs.Conns.{Moves, conn_moved, conn_flight}
use Rattle.download_core.proofs.Fares.{session_conn}
use Rattle.download_core.proofs.Goes.{numbered_read, stayed_awaits}

abbrev pub PutsIt : IndAddr → TransportFrame → Moment → Type 0
PutsIt device p m = IsMoment device (Some p) None None m

-- ---- the time of a session is that of its newest moment

abbrev pub Timed : ℕ → List Moment → Type 0
Timed now l = (y : Moment) (ys : List Moment) → l ≡ y ∷ ys → y.now ≡ now

time_at : (now : ℕ) (l flown : List Moment) (put : Moment) (before : List Moment) → Timed now l → l ≡ flown ++ put ∷ before → time l ≡ now
time_at now l [] put before t e = ap time e ∙ t put before e
time_at now l (y ∷ ys) put before t e = ap time e ∙ t y (ys ++ put ∷ before) e

-- ---- a T_ACK or T_NAK

reply_moves : (device : IndAddr) (conn : ClientEnd) (p : TransportFrame) (m : Moment) → PutsIt device p m → Moves device.raw conn m
reply_moves device (Asked to) p m w = tt
reply_moves device (Up s) p m w = tt
reply_moves device (Asking s q) p m w = isnt_ack device s.number (Some p) None None m w (λ e. cc e)
reply_moves device (Awaiting s) p m w = tt
reply_moves device NoConnection p m w = tt

replied_session : (device : IndAddr) (plan : Plan) (a : Attempt) (p : TransportFrame) (m : Moment) (l : List Moment) → (a.flight ≡ Frame → ⊥) → SessionFits device.raw plan a l → IsSame device.raw m l → PutsIt device p m → SessionFits device.raw plan (replied a m.now) (m ∷ l)
replied_session device plan a p m l n f e w =
    let moved : ConnFits device.raw (client_stayed a.conn m.now) a.flight a.sent (m ∷ l) = conn_moved device.raw a.conn a.flight a.sent m l f.conn e (reply_moves device a.conn p m w) (λ t. w.confirmed_is) in
    let g = session_conn device plan a (client_stayed a.conn m.now) Reply m l f e (conn_flight device.raw (client_stayed a.conn m.now) a.flight Reply a.sent (m ∷ l) n moved) (λ t. sym (stayed_awaits a.conn m.now) ∙ t) in
    record { conn = g.conn; sent = g.sent; stands = g.stands; last = g.last; right = g.right }

pub acks : (device : IndAddr) (plan : Plan) (a : Attempt) (k : ℕ) (m : Moment) (x l : List Moment) → (a.flight ≡ Frame → ⊥) → course device.raw x ≡ InSession l → SessionFits device.raw plan a l → PutsIt device (frame.Ack k) m
    → RunFits device.raw plan (replied a m.now) (course device.raw (m ∷ x))
acks device plan a k m x l n e f w =
    subst (RunFits device.raw plan (replied a m.now)) (sym (goes_on device.raw m x l e (ends_after device (Some (frame.Ack k)) None None m l w)))
    (replied_session device plan a (frame.Ack k) m l n f (same_by device (Some (frame.Ack k)) None None m l w refl refl refl refl) w)

pub naks : (device : IndAddr) (plan : Plan) (a : Attempt) (k : ℕ) (m : Moment) (x l : List Moment) → (a.flight ≡ Frame → ⊥) → course device.raw x ≡ InSession l → SessionFits device.raw plan a l → PutsIt device (frame.Nak k) m
    → RunFits device.raw plan (replied a m.now) (course device.raw (m ∷ x))
naks device plan a k m x l n e f w =
    subst (RunFits device.raw plan (replied a m.now)) (sym (goes_on device.raw m x l e (ends_after device (Some (frame.Nak k)) None None m l w)))
    (replied_session device plan a (frame.Nak k) m l n f (same_by device (Some (frame.Nak k)) None None m l w refl refl refl refl) w)

-- ---- an operation for the first time

asked_conn : (device : IndAddr) (s : Session) (apdu : List ℕ) (sent : ℕ) (m : Moment) (l : List Moment) → UpFits device.raw s sent l → IsNumber s.number → IsApdu apdu → PutsNumbered device s.number apdu m
    → ConnFits device.raw (after_send (Up s) apdu m.now) Frame (sent + 1) (m ∷ l)
unfolding after_send
asked_conn device s apdu sent m l f n i w = put_first device s (numbered_data s.number apdu) apdu sent m.now m l f (numbered_read s.number apdu n i) w

asked_services : (device : IndAddr) (n : ℕ) (apdu : List ℕ) (sent : ℕ) (m : Moment) (l : List Moment) → number device.raw l ≡ NextNumber n → length (services device.raw l) ≡ sent → PutsNumbered device n apdu m → length (services device.raw (m ∷ l)) ≡ sent + 1
asked_services device n apdu sent m l o s w =
    ap (λ (x : List (List ℕ)). length x) (put_after device (Some (frame.Numbered n apdu)) None None m l w ∙ ap (λ (k : Number). service_put (Some (frame.Numbered n apdu)) k (services device.raw l)) o) ∙ ap suc s ∙ sym (add-one sent)

asked_plan : (plan : Plan) (place : ℕ) (apdu : List ℕ) (expect : Expect) (next : Option (List ℕ) → Plan) (sent : ℕ) (got : List (List ℕ)) → StandsAt plan (Next (Asks place apdu expect next)) sent got → StandsAt plan (stands_after (Asks place apdu expect next)) (sent + 1) got
asked_plan plan place apdu AckOnly next sent got f = subst (λ (k : ℕ). Reaches plan k (reverse got) (next None)) (sym (add-one sent)) (reaches_acknowledged plan sent (reverse got) place apdu next f)
asked_plan plan place apdu (Is wanted) next sent got f = (sent, add-one sent, f)
asked_plan plan place apdu Note next sent got f = (sent, add-one sent, f)

asked_last : (device : IndAddr) (plan : Plan) (place : ℕ) (apdu : List ℕ) (expect : Expect) (next : Option (List ℕ) → Plan) (sent : ℕ) (m : Moment) (l : List Moment) → answers device.raw (m ∷ l) ≡ answers device.raw l
    → StandsAt plan (Next (Asks place apdu expect next)) sent (answers device.raw l) → last_of 0 plan (sent + 1) (reverse (answers device.raw (m ∷ l))) ≡ place
asked_last device plan place apdu expect next sent m l e f =
    subst (λ (x : List (List ℕ)). last_of 0 plan (sent + 1) (reverse x) ≡ place) (sym e)
    (subst (λ (k : ℕ). last_of 0 plan k (reverse (answers device.raw l)) ≡ place) (sym (add-one sent)) (last_asked 0 plan sent (reverse (answers device.raw l)) place apdu expect next f))

asked_session : (device : IndAddr) (plan : Plan) (a : Attempt) (s : Session) (place : ℕ) (apdu : List ℕ) (expect : Expect) (next : Option (List ℕ) → Plan) (m : Moment) (l : List Moment) → a.conn ≡ Up s → a.wrong ≡ None → a.standing ≡ Next (Asks place apdu expect next)
    → SessionFits device.raw plan a l → IsNumber s.number → IsApdu apdu → PutsNumbered device s.number apdu m → SessionFits device.raw plan (asked a (Asks place apdu expect next) apdu m.now) (m ∷ l)
asked_session device plan a s place apdu expect next m l c v st f n i w =
    let up : UpFits device.raw s a.sent l = subst (λ (e : ClientEnd). ConnFits device.raw e a.flight a.sent l) c f.conn in
    let stood : StandsAt plan (Next (Asks place apdu expect next)) a.sent (answers device.raw l) =
    subst (λ (k : Standing). StandsAt plan k a.sent (answers device.raw l)) st (subst (λ (o : Option Refusal). PlanFits device.raw plan o a.standing a.sent l) v f.stands) in
    record {
      conn = subst (λ (e : ClientEnd). ConnFits device.raw (after_send e apdu m.now) Frame (a.sent + 1) (m ∷ l)) (sym c) (asked_conn device s apdu a.sent m l up n i w);
      sent = asked_services device s.number apdu a.sent m l up.own f.sent w;
      stands = subst (λ (o : Option Refusal). PlanFits device.raw plan o (stands_after (Asks place apdu expect next)) (a.sent + 1) (m ∷ l)) (sym v)
          (subst (StandsAt plan (stands_after (Asks place apdu expect next)) (a.sent + 1)) (sym (put_got device s.number apdu m l w)) (asked_plan plan place apdu expect next a.sent (answers device.raw l) stood));
      last = λ _. sym (asked_last device plan place apdu expect next a.sent m l (put_got device s.number apdu m l w) stood);
      right = λ t. v;
    }

pub asks : (device : IndAddr) (plan : Plan) (a : Attempt) (s : Session) (place : ℕ) (apdu : List ℕ) (expect : Expect) (next : Option (List ℕ) → Plan) (m : Moment) (x l : List Moment) → course device.raw x ≡ InSession l → a.conn ≡ Up s → a.wrong ≡ None
    → a.standing ≡ Next (Asks place apdu expect next) → SessionFits device.raw plan a l → IsNumber s.number → IsApdu apdu → PutsNumbered device s.number apdu m → RunFits device.raw plan (asked a (Asks place apdu expect next) apdu m.now) (course device.raw (m ∷ x))
asks device plan a s place apdu expect next m x l e c v st f n i w =
    subst (RunFits device.raw plan (asked a (Asks place apdu expect next) apdu m.now)) (sym (goes_on device.raw m x l e (ends_after device (Some (frame.Numbered s.number apdu)) None None m l w))) (asked_session device plan a s place apdu expect next m l c v st f n i w)

-- ---- an operation again

again_same : (device : IndAddr) (n : ℕ) (apdu : List ℕ) (m : Moment) (l : List Moment) → number device.raw l ≡ Outstanding n → PutsNumbered device n apdu m → IsSame device.raw m l
again_same device n apdu m l o w =
    same_by device (Some (frame.Numbered n apdu)) None None m l w (sym o) refl refl (subst (λ (k : Number). service_put (Some (frame.Numbered n apdu)) k (services device.raw l) ≡ services device.raw l) (sym o) refl)

-- what is known of the session then
pub record Repeated (device : ℕ) (conn : ClientEnd) (sent : ℕ) (g : List ℕ) (m : Moment) (l : List Moment) : Type 0 where
  pub fits : ConnFits device (after_overdue conn m.now (due.Repeat g)) Frame sent (m ∷ l)
  pub same : IsSame device m l
  pub waits : awaits (after_overdue conn m.now (due.Repeat g)) ≡ awaits conn
  pub n : ℕ
  pub apdu : List ℕ
  pub puts : frame_in g ≡ frame.Numbered n apdu

repeated_asking : (device : IndAddr) (s : Session) (q : Question) (flight : Flight) (sent : ℕ) (g : List ℕ) (m : Moment) (l : List Moment) → question_expired q q.confirmed m.now ≡ due.Repeat g → AskingFits device.raw s q flight sent l → Timed m.now l → PutsIt device (frame_in g) m
    → Repeated device.raw (Asking s q) sent g m l
unfolding after_overdue
repeated_asking device s q flight sent g m l h f t w =
    let r = repeat_is q q.confirmed m.now g h in
    let reads : frame_in g ≡ frame.Numbered s.number f.apdu = ap frame_in r.2 ∙ f.carries in
    let puts : PutsNumbered device s.number f.apdu m = subst (λ (p : TransportFrame). PutsIt device p m) reads w in
    record {
      fits = put_again device s q flight sent m.now m l f r.0 r.1 (time_at m.now l f.first_put.flown f.first_put.put f.first_put.before t f.first_put.split) puts;
      same = again_same device s.number f.apdu m l f.own puts;
      waits = refl;
      n = s.number;
      apdu = f.apdu;
      puts = reads;
    }

awaiting_silent : (s : Session) (now : ℕ) (t : Bool) (g : List ℕ) → (if t then due.Silent idle_wait else due.Nothing) ≡ due.Repeat g → ⊥
awaiting_silent s now true g e = cc e
awaiting_silent s now false g e = cc e

repeated_conn : (device : IndAddr) (conn : ClientEnd) (flight : Flight) (sent : ℕ) (g : List ℕ) (m : Moment) (l : List Moment) → client_expired conn m.now ≡ due.Repeat g → ConnFits device.raw conn flight sent l → Timed m.now l → PutsIt device (frame_in g) m
    → Repeated device.raw conn sent g m l
unfolding client_expired
repeated_conn device (Asked to) flight sent g m l h f t w = absurd f
repeated_conn device (Up s) flight sent g m l h f t w = absurd (cc h)
repeated_conn device (Asking s q) flight sent g m l h f t w = repeated_asking device s q flight sent g m l h f t w
repeated_conn device (Awaiting s) flight sent g m l h f t w = absurd (awaiting_silent s m.now (has_passed idle_wait s.last m.now) g h)
repeated_conn device NoConnection flight sent g m l h f t w = absurd f

abbrev pub Again : Attempt → List ℕ → ℕ → Attempt
Again a g now = record a { conn = after_overdue a.conn now (due.Repeat g); flight = Frame }

pub asks_again : (device : IndAddr) (plan : Plan) (a : Attempt) (g : List ℕ) (m : Moment) (x l : List Moment) → course device.raw x ≡ InSession l → client_expired a.conn m.now ≡ due.Repeat g → SessionFits device.raw plan a l → Timed m.now l → PutsIt device (frame_in g) m
    → RunFits device.raw plan (Again a g m.now) (course device.raw (m ∷ x))
asks_again device plan a g m x l e h f t w =
    let r = repeated_conn device a.conn a.flight a.sent g m l h f.conn t w in
    let puts : PutsNumbered device r.n r.apdu m = subst (λ (p : TransportFrame). PutsIt device p m) r.puts w in
    subst (RunFits device.raw plan (Again a g m.now)) (sym (goes_on device.raw m x l e (ends_after device (Some (frame.Numbered r.n r.apdu)) None None m l puts)))
    (session_conn device plan a (after_overdue a.conn m.now (due.Repeat g)) Frame m l f r.same r.fits (λ k. sym r.waits ∙ k))

-- ---- silence

idle_passed : (last now ms : ℕ) (t : Bool) → has_passed idle_wait last now ≡ t → (if t then due.Silent idle_wait else due.Nothing) ≡ due.Silent ms → (idle_wait ≤ now - last) × (ms ≡ idle_wait)
idle_passed last now ms true t e = (grind (arith, nat_tests), cc e)
idle_passed last now ms false t e = absurd (cc e)

pub silent_for : (device : ℕ) (conn : ClientEnd) (flight : Flight) (sent now ms : ℕ) (l : List Moment) → client_expired conn now ≡ due.Silent ms → ConnFits device conn flight sent l → Timed now l → SilentFor device ms l
unfolding client_expired
silent_for device (Asked to) flight sent now ms l h f t = absurd f
silent_for device (Up s) flight sent now ms l h f t = absurd (cc h)
silent_for device (Asking s q) flight sent now ms l h f t =
    let r = silent_is q q.confirmed now ms h in inl (r.2, four_times device s q flight sent now l f r.0 r.1 (time_at now l f.first_put.flown f.first_put.put f.first_put.before t f.first_put.split))
silent_for device (Awaiting s) flight sent now ms l h f t =
    let r = idle_passed s.last now ms (has_passed idle_wait s.last now) refl h in inr (r.1, unanswered device s sent now l f (time_at now l f.quiet f.moment f.older t f.split) r.0)
silent_for device NoConnection flight sent now ms l h f t = absurd f
