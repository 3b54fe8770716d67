-- What one moment more changes in the readings of a session: the own number, how many services were acknowledged, the answers and the services.
use Rattle.std.proofs.Common.{◌≡◌, ◌||◌, ℕ, suc, Bool, true, false, ◌==◌, List, [], ◌∷◌, length, Option, refl, ◌∙◌, if◌then◌else◌, arith}
use Rattle.std.proofs.lemmas.Bool.Decides.{nat_tests}
use Rattle.knx_model.specs.declared.address.IndAddr.{IndAddr}
use Rattle.knx_model.specs.declared.connection.TransportFrame.{TransportFrame}
use Rattle.line_model.specs.Moments.{Moment, is_loss, number, number_put, number_heard, acknowledged, is_acknowledged, answers, answer_expected, services, service_put, ends_session, is_disconnect, closes_by, Course, Unconfirmed, InSession, Left, course, course_from}
use Rattle.download_core.specs.Follows.{IsMoment}

-- nothing changes
pub record IsSame (device : ℕ) (m : Moment) (l : List Moment) : Type 0 where
  pub own : number device (m ∷ l) ≡ number device l
  pub over : acknowledged device (m ∷ l) ≡ acknowledged device l
  pub got : answers device (m ∷ l) ≡ answers device l
  pub put : services device (m ∷ l) ≡ services device l

pub own_after : (device : IndAddr) (p h : Option TransportFrame) (c : Option Bool) (m : Moment) (l : List Moment) → IsMoment device p h c m → number device.raw (m ∷ l) ≡ number_heard h (number_put p (number device.raw l))
own_after device p h c m l w = let e = w.put_is in let f = w.heard_is in rw (e, f) refl

pub over_after : (device : IndAddr) (p h : Option TransportFrame) (c : Option Bool) (m : Moment) (l : List Moment) → IsMoment device p h c m
    → acknowledged device.raw (m ∷ l) ≡ (if is_acknowledged h (number device.raw l) then suc (acknowledged device.raw l) else acknowledged device.raw l)
over_after device p h c m l w = let f = w.heard_is in rw f refl

pub got_after : (device : IndAddr) (p h : Option TransportFrame) (c : Option Bool) (m : Moment) (l : List Moment) → IsMoment device p h c m → answers device.raw (m ∷ l) ≡ answer_expected h (length (answers device.raw l)) (answers device.raw l)
got_after device p h c m l w = let f = w.heard_is in rw f refl

pub put_after : (device : IndAddr) (p h : Option TransportFrame) (c : Option Bool) (m : Moment) (l : List Moment) → IsMoment device p h c m → services device.raw (m ∷ l) ≡ service_put p (number device.raw l) (services device.raw l)
put_after device p h c m l w = let e = w.put_is in rw e refl

unless : (t : Bool) (n : ℕ) → t ≡ false → (if t then suc n else n) ≡ n
unless true n e = absurd (cc e)
unless false n e = refl

-- what was put and heard counts for nothing there
pub same_by : (device : IndAddr) (p h : Option TransportFrame) (c : Option Bool) (m : Moment) (l : List Moment) → IsMoment device p h c m → number_heard h (number_put p (number device.raw l)) ≡ number device.raw l → is_acknowledged h (number device.raw l) ≡ false
    → answer_expected h (length (answers device.raw l)) (answers device.raw l) ≡ answers device.raw l → service_put p (number device.raw l) (services device.raw l) ≡ services device.raw l → IsSame device.raw m l
same_by device p h c m l w o a g s = record {
  own = own_after device p h c m l w ∙ o;
  over = over_after device p h c m l w ∙ unless (is_acknowledged h (number device.raw l)) (acknowledged device.raw l) a;
  got = got_after device p h c m l w ∙ g;
  put = put_after device p h c m l w ∙ s;
}

-- ---- the session goes on, or ends

pub ends_after : (device : IndAddr) (p h : Option TransportFrame) (c : Option Bool) (m : Moment) (l : List Moment) → IsMoment device p h c m → ends_session device.raw m l ≡ (is_disconnect p || closes_by h (number device.raw l))
ends_after device p h c m l w = let d = w.lasts in let e = w.put_is in let f = w.heard_is in rw (d, e, f) refl

chosen : (t : Bool) (A B : Course) → t ≡ false → (if t then A else B) ≡ B
chosen true A B e = absurd (cc e)
chosen false A B e = refl

other : (t : Bool) (A B : Course) → t ≡ true → (if t then A else B) ≡ A
other true A B e = refl
other false A B e = absurd (cc e)

pub goes_on : (device : ℕ) (m : Moment) (x l : List Moment) → course device x ≡ InSession l → ends_session device m l ≡ false → course device (m ∷ x) ≡ InSession (m ∷ l)
goes_on device m x l c e = rw c (chosen (ends_session device m l) (Left (m ∷ l)) (InSession (m ∷ l)) e)

pub comes_to_end : (device : ℕ) (m : Moment) (x l : List Moment) → course device x ≡ InSession l → ends_session device m l ≡ true → course device (m ∷ x) ≡ Left (m ∷ l)
comes_to_end device m x l c e = rw c (other (ends_session device m l) (Left (m ∷ l)) (InSession (m ∷ l)) e)

-- while the T_Connect isn't confirmed
pub isnt_confirmed : (device : IndAddr) (p h : Option TransportFrame) (c : Option Bool) (m : Moment) (x : List Moment) → course device.raw x ≡ Unconfirmed → IsMoment device p h c m → course device.raw (m ∷ x) ≡ course_from c
isnt_confirmed device p h c m x e w = let d = w.lasts in let f = w.confirmed_is in rw (e, d, f) refl

pub lost_early : (device : ℕ) (m : Moment) (x : List Moment) → course device x ≡ Unconfirmed → is_loss m.what ≡ true → course device (m ∷ x) ≡ Left []
lost_early device m x e d = rw (e, d) refl

-- ---- numbers

pub same_number : (c : ℕ) → (c == c) ≡ true
same_number c = grind (arith, nat_tests)
