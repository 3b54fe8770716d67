-- A T_ACK or an answer in a session: what the connection knows of it then.
use Rattle.std.proofs.Common.{◌≡◌, ◌%◌, ◌+◌, ◌==◌, ℕ, suc, Bool, true, false, List, [], ◌∷◌, length, Some, None, refl, ap, sym, subst, ◌∙◌, if◌then◌else◌, arith}
use Rattle.knx_model.specs.declared.address.IndAddr.{IndAddr}
use Rattle.knx_model.specs.declared.connection.TransportFrame.TheVariants.{Ack, Numbered}
use Rattle.knx_model.specs.Connection.{Session, next_number, advanced, acknowledged as settled}
use Rattle.knx_model.specs.ClientConnection.{Question, question_answered}
use Rattle.line_model.specs.Moments.{Moment, Number, Next as NextNumber, Outstanding, number, number_heard, acknowledged, is_acknowledged, answers}
use Rattle.line_model.specs.Signs.{IsAwaited}
use Rattle.download_core.specs.declared.flight.Flight.{Flight}
use Rattle.download_core.specs.InSession.{Expects, UpFits, FirstPut, AskingFits, AwaitingFits}
use Rattle.download_core.specs.Follows.{IsMoment}
use Rattle.download_core.proofs.Readings.{own_after, over_after, got_after, same_number}
use Rattle.download_core.proofs.Sessions.{isnt_ack, tried_kept}

-- ---- the T_ACK of what is outstanding

chosen : (t : Bool) (A B : Number) → t ≡ true → (if t then A else B) ≡ A
chosen true A B e = refl
chosen false A B e = absurd (cc e)

taken_number : (t : Bool) (a b : ℕ) → t ≡ true → (if t then a else b) ≡ a
taken_number true a b e = refl
taken_number false a b e = absurd (cc e)

acked_own : (device : IndAddr) (n : ℕ) (m : Moment) (l : List Moment) → number device.raw l ≡ Outstanding n → IsMoment device None (Some (Ack n)) None m → number device.raw (m ∷ l) ≡ NextNumber (next_number n)
acked_own device n m l o w = own_after device None (Some (Ack n)) None m l w ∙ ap (number_heard (Some (Ack n))) o ∙ chosen (n == n) (NextNumber (next_number n)) (Outstanding n) (same_number n)

acked_over : (device : IndAddr) (n : ℕ) (m : Moment) (l : List Moment) → number device.raw l ≡ Outstanding n → IsMoment device None (Some (Ack n)) None m → acknowledged device.raw (m ∷ l) ≡ suc (acknowledged device.raw l)
acked_over device n m l o w =
    over_after device None (Some (Ack n)) None m l w ∙ taken_number (is_acknowledged (Some (Ack n)) (number device.raw l)) (suc (acknowledged device.raw l)) (acknowledged device.raw l) (ap (is_acknowledged (Some (Ack n))) o ∙ same_number n)

pub acked_got : (device : IndAddr) (n : ℕ) (m : Moment) (l : List Moment) → IsMoment device None (Some (Ack n)) None m → answers device.raw (m ∷ l) ≡ answers device.raw l
acked_got device n m l w = got_after device None (Some (Ack n)) None m l w

expects_same : (device e : ℕ) (m : Moment) (l : List Moment) → Expects device e l → answers device (m ∷ l) ≡ answers device l → Expects device e (m ∷ l)
expects_same device e m l x a = x ∙ ap (λ (got : List (List ℕ)). length got % 16) (sym a)

pub acked_up : (device : IndAddr) (s : Session) (q : Question) (flight : Flight) (sent now : ℕ) (m : Moment) (l : List Moment) → AskingFits device.raw s q flight sent l → IsMoment device None (Some (Ack s.number)) None m
    → UpFits device.raw (settled s now) sent (m ∷ l)
acked_up device s q flight sent now m l f w = record {
  own = acked_own device s.number m l f.own w;
  expects = expects_same device.raw s.expected m l f.expects (acked_got device s.number m l w);
  over = acked_over device s.number m l f.own w ∙ f.over;
}

awaited_now : (device : IndAddr) (n : ℕ) (apdu : List ℕ) (m : Moment) (l : List Moment) → FirstPut device.raw n apdu true l → IsMoment device None (Some (Ack n)) None m → IsAwaited device.raw (m ∷ l)
awaited_now device n apdu m l f w = record {
  n = n;
  apdu = apdu;
  after = [];
  ack = m;
  flown = f.flown;
  put = f.put;
  before = f.before;
  split = ap (λ (x : List Moment). m ∷ x) f.split;
  put_is = f.put_is;
  fresh = f.fresh;
  answered = (f.answer refl).0;
  ack_is = w.heard_is;
  unanswered = acked_got device n m l w ∙ (f.answer refl).1;
}

pub acked_awaiting : (device : IndAddr) (s : Session) (q : Question) (flight : Flight) (sent : ℕ) (m : Moment) (l : List Moment) → AskingFits device.raw s q flight sent l → q.awaits ≡ true → IsMoment device None (Some (Ack s.number)) None m
    → AwaitingFits device.raw (settled s m.now) sent (m ∷ l)
acked_awaiting device s q flight sent m l f t w =
    let first : FirstPut device.raw s.number f.apdu true l = subst (λ (b : Bool). FirstPut device.raw s.number f.apdu b l) t f.first_put in
    let awaited : IsAwaited device.raw (m ∷ l) = awaited_now device s.number f.apdu m l first w in
    let own : number device.raw (m ∷ l) ≡ NextNumber (next_number s.number) = acked_own device s.number m l f.own w in
    record {
      own = own;
      expects = expects_same device.raw s.expected m l f.expects (acked_got device s.number m l w);
      over = acked_over device s.number m l f.own w ∙ f.over;
      awaited = awaited;
      quiet = [];
      moment = m;
      older = l;
      split = refl;
      then_awaited = awaited;
      then_own = own;
      still = tt;
      since = omega arith;
    }

-- ---- an answer with the expected number

mod_next : (a : ℕ) → (a % 16 + 1) % 16 ≡ suc a % 16
mod_next a = omega arith

taken_answers : (t : Bool) (a b : List (List ℕ)) → t ≡ true → (if t then a else b) ≡ a
taken_answers true a b e = refl
taken_answers false a b e = absurd (cc e)

expected_is : (device n e : ℕ) (l : List Moment) → Expects device e l → n ≡ e → (n == length (answers device l) % 16) ≡ true
expected_is device n e l x y = subst (λ (k : ℕ). (n == k) ≡ true) (y ∙ x) (same_number n)

pub answered_got : (device : IndAddr) (n : ℕ) (apdu : List ℕ) (e : ℕ) (m : Moment) (l : List Moment) → Expects device.raw e l → n ≡ e → IsMoment device None (Some (Numbered n apdu)) None m → answers device.raw (m ∷ l) ≡ apdu ∷ answers device.raw l
answered_got device n apdu e m l x y w =
    got_after device None (Some (Numbered n apdu)) None m l w ∙ taken_answers (n == length (answers device.raw l) % 16) (apdu ∷ answers device.raw l) (answers device.raw l) (expected_is device.raw n e l x y)

expects_next : (device : IndAddr) (n : ℕ) (apdu : List ℕ) (e : ℕ) (m : Moment) (l : List Moment) → Expects device.raw e l → n ≡ e → IsMoment device None (Some (Numbered n apdu)) None m → Expects device.raw (next_number e) (m ∷ l)
expects_next device n apdu e m l x y w = ap next_number x ∙ mod_next (length (answers device.raw l)) ∙ ap (λ (got : List (List ℕ)). length got % 16) (sym (answered_got device n apdu e m l x y w))

numbered_own : (device : IndAddr) (n : ℕ) (apdu : List ℕ) (o : Number) (m : Moment) (l : List Moment) → number device.raw l ≡ o → IsMoment device None (Some (Numbered n apdu)) None m → number device.raw (m ∷ l) ≡ o
numbered_own device n apdu o m l q w = own_after device None (Some (Numbered n apdu)) None m l w ∙ q

numbered_over : (device : IndAddr) (n : ℕ) (apdu : List ℕ) (m : Moment) (l : List Moment) → IsMoment device None (Some (Numbered n apdu)) None m → acknowledged device.raw (m ∷ l) ≡ acknowledged device.raw l
numbered_over device n apdu m l w = over_after device None (Some (Numbered n apdu)) None m l w

pub answered_up : (device : IndAddr) (s : Session) (n : ℕ) (apdu : List ℕ) (sent now : ℕ) (m : Moment) (l : List Moment) → number device.raw l ≡ NextNumber s.number → Expects device.raw s.expected l → acknowledged device.raw l ≡ sent
    → n ≡ s.expected → IsMoment device None (Some (Numbered n apdu)) None m → UpFits device.raw (advanced s now) sent (m ∷ l)
answered_up device s n apdu sent now m l o x a y w = record {
  own = numbered_own device n apdu (NextNumber s.number) m l o w;
  expects = expects_next device n apdu s.expected m l x y w;
  over = numbered_over device n apdu m l w ∙ a;
}

pub answered_asking : (device : IndAddr) (s : Session) (q : Question) (flight : Flight) (n : ℕ) (apdu : List ℕ) (sent now : ℕ) (m : Moment) (l : List Moment) → AskingFits device.raw s q flight sent l → n ≡ s.expected
    → IsMoment device None (Some (Numbered n apdu)) None m → AskingFits device.raw (advanced s now) (question_answered q) flight sent (m ∷ l)
answered_asking device s q flight n apdu sent now m l f y w = record {
  own = numbered_own device n apdu (Outstanding s.number) m l f.own w;
  expects = expects_next device n apdu s.expected m l f.expects y w;
  over = ap suc (numbered_over device n apdu m l w) ∙ f.over;
  apdu = f.apdu;
  carries = f.carries;
  repeats = f.repeats;
  tried = tried_kept device.raw s.number f.apdu q.repeats q.confirmed flight m l f.tried (isnt_ack device s.number None (Some (Numbered n apdu)) None m w (λ e. cc e)) (λ e. w.confirmed_is);
  first_put = record {
    flown = m ∷ f.first_put.flown;
    put = f.first_put.put;
    before = f.first_put.before;
    split = ap (λ (x : List Moment). m ∷ x) f.first_put.split;
    put_is = f.first_put.put_is;
    fresh = f.first_put.fresh;
    answer = λ t. absurd (cc t);
  };
}
