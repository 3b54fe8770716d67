-- One moment more in a session: what the connection knows of it still holds.
use Rattle.std.proofs.Common.{◌≡◌, ◌≢◌, ◌%◌, ℕ, suc, Bool, List, [], ◌∷◌, length, Option, Some, None, refl, ap, sym, ◌∙◌, arith}
use Rattle.knx_model.specs.declared.address.IndAddr.{IndAddr}
use Rattle.knx_model.specs.declared.connection.TransportFrame.{TransportFrame}
use Rattle.knx_model.specs.declared.connection.TransportFrame.TheVariants.{Ack}
use Rattle.knx_model.specs.Connection.{Session, at_time}
use Rattle.knx_model.specs.ClientConnection.{Question, question_confirmed, wait_begun}
use Rattle.line_model.specs.Moments.{Moment, confirmation_in, answers}
use Rattle.line_model.specs.Signs.{IsntAck, IsntConfirmation, IsAwaited, IsStill}
use Rattle.download_core.specs.declared.flight.Flight.{Flight}
use Rattle.download_core.specs.declared.flight.Flight.TheVariants.{Nothing, Frame}
use Rattle.download_core.specs.InSession.{Expects, UpFits, Tried, FirstPut, AskingFits, AwaitingFits}
use Rattle.download_core.specs.Follows.{IsMoment}
use Rattle.download_core.proofs.Readings.{IsSame}

expects_kept : (device e : ℕ) (m : Moment) (l : List Moment) → Expects device e l → IsSame device m l → Expects device e (m ∷ l)
expects_kept device e m l x s = x ∙ ap (λ (got : List (List ℕ)). length got % 16) (sym s.got)

pub isnt_ack : (device : IndAddr) (n : ℕ) (p h : Option TransportFrame) (c : Option Bool) (m : Moment) → IsMoment device p h c m → h ≢ Some (Ack n) → IsntAck device.raw n m
isnt_ack device n p h c m w e = λ a. e (sym w.heard_is ∙ a)

-- ---- nothing outstanding

pub up_kept : (device : ℕ) (s : Session) (sent : ℕ) (m : Moment) (l : List Moment) → UpFits device s sent l → IsSame device m l → UpFits device s sent (m ∷ l)
up_kept device s sent m l f e = record { own = e.own ∙ f.own; expects = expects_kept device s.expected m l f.expects e; over = e.over ∙ f.over }

pub up_timed : (device : ℕ) (s : Session) (sent now : ℕ) (l : List Moment) → UpFits device s sent l → UpFits device (at_time s now) sent l
up_timed device s sent now l f = record { own = f.own; expects = f.expects; over = f.over }

-- ---- a service outstanding

pub tried_kept : (device n : ℕ) (apdu : List ℕ) (repeats : ℕ) (con : Option ℕ) (flight : Flight) (m : Moment) (l : List Moment) → Tried device n apdu repeats con flight l → IsntAck device n m → (flight ≡ Frame → IsntConfirmation m)
    → Tried device n apdu repeats con flight (m ∷ l)
tried_kept device n apdu repeats None flight m l t h c = record {
  flies = t.flies;
  flown = m ∷ t.flown;
  put = t.put;
  before = t.before;
  split = ap (λ (x : List Moment). m ∷ x) t.split;
  put_is = t.put_is;
  first = (c t.flies, t.first);
  unheard = (h, t.unheard);
  rest = t.rest;
}
tried_kept device n apdu repeats (Some since) flight m l t h c = record {
  waited = m ∷ t.waited;
  con = t.con;
  flown = t.flown;
  put = t.put;
  before = t.before;
  split = ap (λ (x : List Moment). m ∷ x) t.split;
  put_is = t.put_is;
  error = t.error;
  con_is = t.con_is;
  at = t.at;
  first = t.first;
  unheard = t.unheard;
  unheard_later = (h, t.unheard_later);
  rest = t.rest;
}

tried_flight : (device n : ℕ) (apdu : List ℕ) (repeats : ℕ) (con : Option ℕ) (flight other : Flight) (l : List Moment) → (flight ≡ Frame → ⊥) → Tried device n apdu repeats con flight l → Tried device n apdu repeats con other l
tried_flight device n apdu repeats None flight other l isnt t = absurd (isnt t.flies)
tried_flight device n apdu repeats (Some since) flight other l isnt t = t

first_kept : (device n : ℕ) (apdu : List ℕ) (awaits : Bool) (m : Moment) (l : List Moment) → FirstPut device n apdu awaits l → answers device (m ∷ l) ≡ answers device l → FirstPut device n apdu awaits (m ∷ l)
first_kept device n apdu awaits m l f a = record {
  flown = m ∷ f.flown;
  put = f.put;
  before = f.before;
  split = ap (λ (x : List Moment). m ∷ x) f.split;
  put_is = f.put_is;
  fresh = f.fresh;
  answer = λ t. ((f.answer t).0, a ∙ (f.answer t).1);
}

pub asking_kept : (device : ℕ) (s : Session) (q : Question) (flight : Flight) (sent : ℕ) (m : Moment) (l : List Moment) → AskingFits device s q flight sent l → IsSame device m l → IsntAck device s.number m → (flight ≡ Frame → IsntConfirmation m)
    → AskingFits device s q flight sent (m ∷ l)
asking_kept device s q flight sent m l f e h c = record {
  own = e.own ∙ f.own;
  expects = expects_kept device s.expected m l f.expects e;
  over = ap suc e.over ∙ f.over;
  apdu = f.apdu;
  carries = f.carries;
  repeats = f.repeats;
  tried = tried_kept device s.number f.apdu q.repeats q.confirmed flight m l f.tried h c;
  first_put = first_kept device s.number f.apdu q.awaits m l f.first_put e.got;
}

pub asking_timed : (device : ℕ) (s : Session) (q : Question) (flight : Flight) (sent now : ℕ) (l : List Moment) → AskingFits device s q flight sent l → AskingFits device (at_time s now) q flight sent l
asking_timed device s q flight sent now l f = record { own = f.own; expects = f.expects; over = f.over; apdu = f.apdu; carries = f.carries; repeats = f.repeats; tried = f.tried; first_put = f.first_put }

-- what is in flight isn't the service
pub asking_flight : (device : ℕ) (s : Session) (q : Question) (flight other : Flight) (sent : ℕ) (l : List Moment) → (flight ≡ Frame → ⊥) → AskingFits device s q flight sent l → AskingFits device s q other sent l
asking_flight device s q flight other sent l isnt f = record {
  own = f.own;
  expects = f.expects;
  over = f.over;
  apdu = f.apdu;
  carries = f.carries;
  repeats = f.repeats;
  tried = tried_flight device s.number f.apdu q.repeats q.confirmed flight other l isnt f.tried;
  first_put = f.first_put;
}

-- ---- an answer awaited

awaited_more : (device : ℕ) (m : Moment) (l : List Moment) → IsAwaited device l → answers device (m ∷ l) ≡ answers device l → IsAwaited device (m ∷ l)
awaited_more device m l f a = record {
  n = f.n;
  apdu = f.apdu;
  after = m ∷ f.after;
  ack = f.ack;
  flown = f.flown;
  put = f.put;
  before = f.before;
  split = ap (λ (x : List Moment). m ∷ x) f.split;
  put_is = f.put_is;
  fresh = f.fresh;
  answered = f.answered;
  ack_is = f.ack_is;
  unanswered = a ∙ f.unanswered;
}

pub awaiting_kept : (device : ℕ) (s : Session) (sent : ℕ) (m : Moment) (l : List Moment) → AwaitingFits device s sent l → IsSame device m l → IsStill device s.number m → AwaitingFits device s sent (m ∷ l)
awaiting_kept device s sent m l f e t = record {
  own = e.own ∙ f.own;
  expects = expects_kept device s.expected m l f.expects e;
  over = e.over ∙ f.over;
  awaited = awaited_more device m l f.awaited e.got;
  quiet = m ∷ f.quiet;
  moment = f.moment;
  older = f.older;
  split = ap (λ (x : List Moment). m ∷ x) f.split;
  then_awaited = f.then_awaited;
  then_own = f.then_own;
  still = (t, f.still);
  since = f.since;
}

-- something was put to the device, or taken of it that isn't ignored
pub awaiting_moved : (device : ℕ) (s : Session) (sent : ℕ) (m : Moment) (l : List Moment) → AwaitingFits device s sent l → IsSame device m l → AwaitingFits device (at_time s m.now) sent (m ∷ l)
awaiting_moved device s sent m l f e = record {
  own = e.own ∙ f.own;
  expects = expects_kept device s.expected m l f.expects e;
  over = e.over ∙ f.over;
  awaited = awaited_more device m l f.awaited e.got;
  quiet = [];
  moment = m;
  older = l;
  split = refl;
  then_awaited = awaited_more device m l f.awaited e.got;
  then_own = e.own ∙ f.own;
  still = tt;
  since = omega arith;
}

-- ---- a confirmation

tried_confirmed : (device n : ℕ) (apdu : List ℕ) (repeats : ℕ) (con : Option ℕ) (error : Bool) (m : Moment) (l : List Moment) → Tried device n apdu repeats con Frame l → IsntAck device n m → confirmation_in m.what ≡ Some error
    → Tried device n apdu repeats (wait_begun con m.now) Nothing (m ∷ l)
tried_confirmed device n apdu repeats None error m l t h c = record {
  waited = [];
  con = m;
  flown = t.flown;
  put = t.put;
  before = t.before;
  split = ap (λ (x : List Moment). m ∷ x) t.split;
  put_is = t.put_is;
  error = error;
  con_is = c;
  at = refl;
  first = t.first;
  unheard = t.unheard;
  unheard_later = tt;
  rest = t.rest;
}
tried_confirmed device n apdu repeats (Some since) error m l t h c = record {
  waited = m ∷ t.waited;
  con = t.con;
  flown = t.flown;
  put = t.put;
  before = t.before;
  split = ap (λ (x : List Moment). m ∷ x) t.split;
  put_is = t.put_is;
  error = t.error;
  con_is = t.con_is;
  at = t.at;
  first = t.first;
  unheard = t.unheard;
  unheard_later = (h, t.unheard_later);
  rest = t.rest;
}

pub asking_confirmed : (device : ℕ) (s : Session) (q : Question) (sent : ℕ) (error : Bool) (m : Moment) (l : List Moment) → AskingFits device s q Frame sent l → IsSame device m l → IsntAck device s.number m → confirmation_in m.what ≡ Some error
    → AskingFits device s (question_confirmed q m.now) Nothing sent (m ∷ l)
asking_confirmed device s q sent error m l f e h c = record {
  own = e.own ∙ f.own;
  expects = expects_kept device s.expected m l f.expects e;
  over = ap suc e.over ∙ f.over;
  apdu = f.apdu;
  carries = f.carries;
  repeats = f.repeats;
  tried = tried_confirmed device s.number f.apdu q.repeats q.confirmed error m l f.tried h c;
  first_put = first_kept device s.number f.apdu q.awaits m l f.first_put e.got;
}
