-- A confirmation, in the downloader and in the line's view.
use Rattle.std.proofs.Common.{◌≡◌, ℕ, suc, Bool, true, false, List, Option, Some, None, refl, ap, sym, subst, ◌∙◌}
use Rattle.knx_model.specs.declared.address.IndAddr.{IndAddr}
use Rattle.knx_model.specs.declared.connection.TransportFrame.{TransportFrame}
use Rattle.knx_model.specs.declared.connection.TransportFrame.TheVariants as frame
use Rattle.knx_model.specs.ClientConnection.{ClientEnd, Asked, Up, Asking, Awaiting, Ended as NoConnection, client_confirmed, after_confirmed}
use Rattle.knx_model.specs.ConnectionLaws.{Confirms}
use Rattle.knx_model.specs.Plans.{Plan}
use Rattle.transport_conn.proofs.Numbers.{client_numbers}
use Rattle.line_model.specs.Moments.{Moment}
use Rattle.line_model.specs.Attempts as line
use Rattle.line_model.specs.Attempts.{Attempts, attempts_after, awaits, confirmed_attempt, landed as line_landed}
use Rattle.download_core.specs.declared.flight.Flight.{Flight}
use Rattle.download_core.specs.declared.flight.Flight.TheVariants.{Nothing, Frame, Reply}
use Rattle.download_core.specs.declared.outcome.Outcome.{Outcome}
use Rattle.download_core.specs.declared.signs.Signs.{Signs}
use Rattle.download_core.specs.Attempt.{Attempt, Phase, Resting, Running, Closing, Leaving, Ended}
use Rattle.download_core.specs.Calls.{landed, connected, attempt_confirmed, phase_confirmed}
use Rattle.download_core.specs.Fits.{Knows, Closes, Leaves, IsEnd, IsFrame, IsReply, IsAck, IsNak, IsFlight, StandsWith, FitsPhase, earlier}
use Rattle.download_core.specs.Follows.{IsMoment}
use Rattle.download_core.proofs.Told.{told, line_told, not_heard}

-- ---- the connection

end_confirmed : (e : ClientEnd) (error : Bool) (now : ℕ) → IsEnd e → IsEnd (after_confirmed e error now)
unfolding after_confirmed
end_confirmed (Asked d) true now k = tt
end_confirmed (Asked d) false now k = tt
end_confirmed (Up s) error now k = tt
end_confirmed (Asking s q) error now k = k
end_confirmed (Awaiting s) error now k = tt
end_confirmed NoConnection error now k = tt

pub awaits_confirmed : (e : ClientEnd) (error : Bool) (now : ℕ) → awaits (after_confirmed e error now) ≡ awaits e
unfolding after_confirmed
awaits_confirmed (Asked d) true now = refl
awaits_confirmed (Asked d) false now = refl
awaits_confirmed (Up s) error now = refl
awaits_confirmed (Asking s q) error now = refl
awaits_confirmed (Awaiting s) error now = refl
awaits_confirmed NoConnection error now = refl

ended_confirmed : (e : ClientEnd) (error : Bool) (now : ℕ) → e ≡ NoConnection → after_confirmed e error now ≡ NoConnection
unfolding after_confirmed
ended_confirmed (Asked d) error now h = absurd (cc h)
ended_confirmed (Up s) error now h = absurd (cc h)
ended_confirmed (Asking s q) error now h = absurd (cc h)
ended_confirmed (Awaiting s) error now h = absurd (cc h)
ended_confirmed NoConnection error now h = refl

-- ---- an attempt that runs

-- a T_ACK or T_NAK is confirmed
knows_landed : (a : Attempt) (x : line.Attempt) → Knows a x → Knows (landed a a.conn) (line_landed x)
knows_landed a x k = record {
  end = k.end;
  owed = k.owed;
  replies = k.replies;
  flying = refl;
  closing = k.closing;
  left = k.left;
  stands = k.stands;
  sendable = k.sendable;
  numbers = k.numbers;
  repeats = k.repeats;
}

-- a frame of the connection is confirmed
knows_timed : (a : Attempt) (x : line.Attempt) (error : Bool) (now : ℕ) → Knows a x → Knows (landed a (after_confirmed a.conn error now)) (line_landed (record x { end = after_confirmed x.end error now }))
knows_timed a x error now k = record {
  end = ap (λ (e : ClientEnd). after_confirmed e error now) k.end;
  owed = k.owed;
  replies = k.replies;
  flying = refl;
  closing = k.closing;
  left = k.left;
  stands = λ e. subst (λ (b : Bool). StandsWith b a.standing) (sym (awaits_confirmed a.conn error now)) (k.stands e);
  sendable = k.sendable;
  numbers = client_numbers a.conn (Confirms error now) k.numbers;
  repeats = end_confirmed a.conn error now k.repeats;
}

connects : (signs : Signs) (a : Attempt) (x : line.Attempt) (device : IndAddr) (error : Bool) (now : ℕ) → a.conn ≡ Asked device → x.flying ≡ Some frame.Connect → Knows a x
    → FitsPhase signs (connected a (client_confirmed (Asked device) error) (after_confirmed a.conn error now)) (confirmed_attempt (suc (earlier signs)) x now error (Some frame.Connect))
unfolding client_confirmed
connects signs a x device true now c e k = refl
connects signs a x device false now c e k = (line_landed (record x { end = after_confirmed x.end false now }), refl, knows_timed a x false now k)

abbrev Numbers : line.Attempt → Type 0
Numbers x = (n : ℕ) × (apdu : List ℕ) × (x.flying ≡ Some (frame.Numbered n apdu))

times : (signs : Signs) (a : Attempt) (x : line.Attempt) (error : Bool) (now : ℕ) → Numbers x → Knows a x → FitsPhase signs (Running (landed a (after_confirmed a.conn error now))) (confirmed_attempt (suc (earlier signs)) x now error x.flying)
times signs a x error now f k =
    subst (λ (g : Option TransportFrame). FitsPhase signs (Running (landed a (after_confirmed a.conn error now))) (confirmed_attempt (suc (earlier signs)) x now error g)) (sym f.2)
    (line_landed (record x { end = after_confirmed x.end error now }), refl, knows_timed a x error now k)

frame_confirmed : (signs : Signs) (a : Attempt) (x : line.Attempt) (conn : ClientEnd) (error : Bool) (now : ℕ) → a.conn ≡ conn → IsFrame conn x.flying → Knows a x
    → FitsPhase signs (connected a (client_confirmed conn error) (after_confirmed a.conn error now)) (confirmed_attempt (suc (earlier signs)) x now error x.flying)
unfolding client_confirmed
frame_confirmed signs a x (Asked device) error now c f k =
    subst (λ (g : Option TransportFrame). FitsPhase signs (connected a (client_confirmed (Asked device) error) (after_confirmed a.conn error now)) (confirmed_attempt (suc (earlier signs)) x now error g)) (sym f)
    (connects signs a x device error now c f k)
frame_confirmed signs a x (Up s) error now c f k = times signs a x error now f k
frame_confirmed signs a x (Asking s q) error now c f k = times signs a x error now f k
frame_confirmed signs a x (Awaiting s) error now c f k = times signs a x error now f k
frame_confirmed signs a x NoConnection error now c f k = times signs a x error now f k

reply_confirmed : (signs : Signs) (a : Attempt) (x : line.Attempt) (error : Bool) (now : ℕ) → IsReply x.flying → Knows a x → FitsPhase signs (Running (landed a a.conn)) (confirmed_attempt (suc (earlier signs)) x now error x.flying)
reply_confirmed signs a x error now (IsAck n e) k =
    subst (λ (g : Option TransportFrame). FitsPhase signs (Running (landed a a.conn)) (confirmed_attempt (suc (earlier signs)) x now error g)) (sym e) (line_landed x, refl, knows_landed a x k)
reply_confirmed signs a x error now (IsNak n e) k =
    subst (λ (g : Option TransportFrame). FitsPhase signs (Running (landed a a.conn)) (confirmed_attempt (suc (earlier signs)) x now error g)) (sym e) (line_landed x, refl, knows_landed a x k)

running_confirmed : (signs : Signs) (a : Attempt) (x : line.Attempt) (flight : Flight) (error : Bool) (now : ℕ) → a.flight ≡ flight → IsFlight flight a.conn x.flying → Knows a x
    → FitsPhase signs (attempt_confirmed a flight error now) (confirmed_attempt (suc (earlier signs)) x now error x.flying)
running_confirmed signs a x Nothing error now s f k =
    subst (λ (g : Option TransportFrame). FitsPhase signs (Running a) (confirmed_attempt (suc (earlier signs)) x now error g)) (sym f) (x, refl, k)
running_confirmed signs a x Frame error now s f k = frame_confirmed signs a x a.conn error now refl f k
running_confirmed signs a x Reply error now s f k = reply_confirmed signs a x error now f k

-- ---- an attempt that is to be left

closing_lands : (flight : Flight) (x : line.Attempt) → Closes flight x → Closes Nothing (line_landed x)
closing_lands flight x k = record { end = k.end; owes_nothing = k.owes_nothing; closing = k.closing; flying = refl }

closing_times : (flight : Flight) (x : line.Attempt) (error : Bool) (now : ℕ) → Closes flight x → Closes Nothing (line_landed (record x { end = after_confirmed x.end error now }))
closing_times flight x error now k = record { end = ended_confirmed x.end error now k.end; owes_nothing = k.owes_nothing; closing = k.closing; flying = refl }

closing_at : (signs : Signs) (flight : Flight) (x : line.Attempt) (outcome : Outcome) (error : Bool) (now : ℕ) → IsFlight flight NoConnection x.flying → Closes flight x
    → FitsPhase signs (Closing Nothing outcome) (confirmed_attempt (suc (earlier signs)) x now error x.flying)
closing_at signs Nothing x outcome error now f k = subst (λ (g : Option TransportFrame). FitsPhase signs (Closing Nothing outcome) (confirmed_attempt (suc (earlier signs)) x now error g)) (sym f) (x, refl, k)
closing_at signs Frame x outcome error now f k =
    subst (λ (g : Option TransportFrame). FitsPhase signs (Closing Nothing outcome) (confirmed_attempt (suc (earlier signs)) x now error g)) (sym f.2) (line_landed (record x { end = after_confirmed x.end error now }), refl, closing_times Frame x error now k)
closing_at signs Reply x outcome error now (IsAck n h) k =
    subst (λ (g : Option TransportFrame). FitsPhase signs (Closing Nothing outcome) (confirmed_attempt (suc (earlier signs)) x now error g)) (sym h) (line_landed x, refl, closing_lands Reply x k)
closing_at signs Reply x outcome error now (IsNak n h) k =
    subst (λ (g : Option TransportFrame). FitsPhase signs (Closing Nothing outcome) (confirmed_attempt (suc (earlier signs)) x now error g)) (sym h) (line_landed x, refl, closing_lands Reply x k)

leaving_at : (signs : Signs) (outcome : Outcome) (x : line.Attempt) (error : Bool) (now : ℕ) → Leaves x → FitsPhase signs (Ended outcome) (confirmed_attempt (suc (earlier signs)) x now error x.flying)
leaving_at signs outcome x error now k = ap (confirmed_attempt (suc (earlier signs)) x now error) k.flying

-- ---- all of it

abbrev tells_at : IndAddr → Plan → ℕ → Bool → Attempts → Attempts
tells_at device plan now error t = told device plan now None (Some error) None t

running_told : (device : IndAddr) (plan : Plan) (n now : ℕ) (error : Bool) (x : line.Attempt) (t : Attempts) → t ≡ line.Running n x → tells_at device plan now error t ≡ confirmed_attempt n x now error x.flying
running_told device plan n now error x t e = ap (tells_at device plan now error) e ∙ not_heard now (confirmed_attempt n x now error x.flying)

confirmed_at : (device : IndAddr) (plan : Plan) (signs : Signs) (phase : Phase) (error : Bool) (now : ℕ) (t : Attempts) → FitsPhase signs phase t → FitsPhase signs (phase_confirmed phase error now) (tells_at device plan now error t)
confirmed_at device plan signs Resting error now t f = (f.0, ap (tells_at device plan now error) f.1)
confirmed_at device plan signs (Running a) error now t f =
    subst (FitsPhase signs (attempt_confirmed a a.flight error now)) (sym (running_told device plan (suc (earlier signs)) now error f.0 t f.1)) (running_confirmed signs a f.0 a.flight error now refl f.2.flying f.2)
confirmed_at device plan signs (Closing flight outcome) error now t f =
    subst (FitsPhase signs (Closing Nothing outcome)) (sym (running_told device plan (suc (earlier signs)) now error f.0 t f.1)) (closing_at signs flight f.0 outcome error now f.2.flying f.2)
confirmed_at device plan signs (Leaving outcome) error now t f =
    subst (FitsPhase signs (Ended outcome)) (sym (running_told device plan (suc (earlier signs)) now error f.0 t f.1)) (leaving_at signs outcome f.0 error now f.2)
confirmed_at device plan signs (Ended outcome) error now t f = ap (tells_at device plan now error) f

pub confirmed_fits : (device : IndAddr) (plan : Plan) (signs : Signs) (phase : Phase) (error : Bool) (m : Moment) (t : Attempts) → FitsPhase signs phase t → IsMoment device None None (Some error) m
    → FitsPhase signs (phase_confirmed phase error m.now) (attempts_after device plan m t)
confirmed_fits device plan signs phase error m t f h = subst (FitsPhase signs (phase_confirmed phase error m.now)) (sym (line_told device plan None None (Some error) m t h)) (confirmed_at device plan signs phase error m.now t f)
