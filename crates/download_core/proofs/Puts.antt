-- A service that is put, for the first time or again, and what a wait that has passed shows: a service in vain four times, or no answer.
use Rattle.std.proofs.Common.{◌≡◌, ◌<◌, ◌≤◌, ◌-◌, ◌+◌, ◌%◌, ℕ, suc, nat_lt, Bool, true, false, List, [], ◌∷◌, length, Option, Some, None, refl, ap, sym, subst, ◌∙◌, if◌then◌else◌, arith, add-one}
use Rattle.std.proofs.lemmas.Bool.Decides.{nat_tests}
use Rattle.knx_model.specs.declared.address.IndAddr.{IndAddr}
use Rattle.knx_model.specs.declared.connection.TransportFrame.TheVariants.{Numbered}
use Rattle.knx_model.specs.declared.connection.ClientExpired.TheVariants as due
use Rattle.knx_model.specs.Connection.{Session, frame_in, at_time, has_passed, ack_wait, idle_wait, most_repeats}
use Rattle.knx_model.specs.ClientConnection.{Question, first_question, question_again, question_expired}
use Rattle.line_model.specs.Moments.{Moment, time, Outstanding, number, acknowledged, answers}
use Rattle.line_model.specs.Signs.{SentInVain, FourTimes, Unanswered}
use Rattle.download_core.specs.declared.flight.Flight.{Flight}
use Rattle.download_core.specs.declared.flight.Flight.TheVariants.{Frame}
use Rattle.download_core.specs.InSession.{Expects, UpFits, Waiting, Tried, AskingFits, AwaitingFits}
use Rattle.download_core.specs.Follows.{IsMoment}
use Rattle.download_core.proofs.Readings.{own_after, over_after, got_after}

abbrev pub PutsNumbered : IndAddr → ℕ → List ℕ → Moment → Type 0
PutsNumbered device n apdu m = IsMoment device (Some (Numbered n apdu)) None None m

put_own : (device : IndAddr) (n : ℕ) (apdu : List ℕ) (m : Moment) (l : List Moment) → PutsNumbered device n apdu m → number device.raw (m ∷ l) ≡ Outstanding n
put_own device n apdu m l w = own_after device (Some (Numbered n apdu)) None None m l w

put_over : (device : IndAddr) (n : ℕ) (apdu : List ℕ) (m : Moment) (l : List Moment) → PutsNumbered device n apdu m → acknowledged device.raw (m ∷ l) ≡ acknowledged device.raw l
put_over device n apdu m l w = over_after device (Some (Numbered n apdu)) None None m l w

pub put_got : (device : IndAddr) (n : ℕ) (apdu : List ℕ) (m : Moment) (l : List Moment) → PutsNumbered device n apdu m → answers device.raw (m ∷ l) ≡ answers device.raw l
put_got device n apdu m l w = got_after device (Some (Numbered n apdu)) None None m l w

put_expects : (device : IndAddr) (n e : ℕ) (apdu : List ℕ) (m : Moment) (l : List Moment) → Expects device.raw e l → PutsNumbered device n apdu m → Expects device.raw e (m ∷ l)
put_expects device n e apdu m l x w = x ∙ ap (λ (got : List (List ℕ)). length got % 16) (sym (put_got device n apdu m l w))

-- ---- for the first time

pub put_first : (device : IndAddr) (s : Session) (frame apdu : List ℕ) (sent now : ℕ) (m : Moment) (l : List Moment) → UpFits device.raw s sent l → frame_in frame ≡ Numbered s.number apdu → PutsNumbered device s.number apdu m
    → AskingFits device.raw (at_time s now) (first_question frame apdu) Frame (sent + 1) (m ∷ l)
put_first device s frame apdu sent now m l f c w = record {
  own = put_own device s.number apdu m l w;
  expects = put_expects device s.number s.expected apdu m l f.expects w;
  over = ap suc (put_over device s.number apdu m l w ∙ f.over) ∙ sym (add-one sent);
  apdu = apdu;
  carries = c;
  repeats = omega arith;
  tried = record { flies = refl; flown = []; put = m; before = l; split = refl; put_is = w.put_is; first = tt; unheard = tt; rest = tt };
  first_put = record { flown = []; put = m; before = l; split = refl; put_is = w.put_is; fresh = f.own; answer = λ t. (t, put_got device s.number apdu m l w) };
}

-- ---- a wait that has passed

pub record IsOverdue (con : Option ℕ) (now : ℕ) : Type 0 where
  pub since : ℕ
  pub confirmed_is : con ≡ Some since
  pub passed : ack_wait ≤ now - since

passed_is : (since now : ℕ) → has_passed ack_wait since now ≡ true → ack_wait ≤ now - since
passed_is since now t = grind (arith, nat_tests)

repeat_in : (q : Question) (since now : ℕ) (g : List ℕ) (t u : Bool) → has_passed ack_wait since now ≡ t → nat_lt q.repeats most_repeats ≡ u → (if t then (if u then due.Repeat q.frame else due.Silent ack_wait) else due.Nothing) ≡ due.Repeat g
    → IsOverdue (Some since) now × (q.repeats < most_repeats) × (g ≡ q.frame)
repeat_in q since now g true true t u e = (record { since = since; confirmed_is = refl; passed = passed_is since now t }, grind (arith, nat_tests), cc e)
repeat_in q since now g true false t u e = absurd (cc e)
repeat_in q since now g false true t u e = absurd (cc e)
repeat_in q since now g false false t u e = absurd (cc e)

pub repeat_is : (q : Question) (con : Option ℕ) (now : ℕ) (g : List ℕ) → question_expired q con now ≡ due.Repeat g → IsOverdue con now × (q.repeats < most_repeats) × (g ≡ q.frame)
repeat_is q None now g e = absurd (cc e)
repeat_is q (Some since) now g e = repeat_in q since now g (has_passed ack_wait since now) (nat_lt q.repeats most_repeats) refl refl e

silent_in : (q : Question) (since now ms : ℕ) (t u : Bool) → has_passed ack_wait since now ≡ t → nat_lt q.repeats most_repeats ≡ u → (if t then (if u then due.Repeat q.frame else due.Silent ack_wait) else due.Nothing) ≡ due.Silent ms
    → IsOverdue (Some since) now × (most_repeats ≤ q.repeats) × (ms ≡ ack_wait)
silent_in q since now ms true true t u e = absurd (cc e)
silent_in q since now ms true false t u e = (record { since = since; confirmed_is = refl; passed = passed_is since now t }, grind (arith, nat_tests), cc e)
silent_in q since now ms false true t u e = absurd (cc e)
silent_in q since now ms false false t u e = absurd (cc e)

pub silent_is : (q : Question) (con : Option ℕ) (now ms : ℕ) → question_expired q con now ≡ due.Silent ms → IsOverdue con now × (most_repeats ≤ q.repeats) × (ms ≡ ack_wait)
silent_is q None now ms e = absurd (cc e)
silent_is q (Some since) now ms e = silent_in q since now ms (has_passed ack_wait since now) (nat_lt q.repeats most_repeats) refl refl e

in_vain : (device n : ℕ) (apdu : List ℕ) (repeats since now : ℕ) (l : List Moment) → Waiting device n apdu repeats since l → time l ≡ now → ack_wait ≤ now - since → SentInVain device n apdu (suc repeats) l
in_vain device n apdu repeats since now l w t p = record {
  waited = w.waited;
  con = w.con;
  flown = w.flown;
  put = w.put;
  before = w.before;
  split = w.split;
  put_is = w.put_is;
  error = w.error;
  con_is = w.con_is;
  first = w.first;
  unheard = w.unheard;
  unheard_later = w.unheard_later;
  passed = let a = w.at in rw (t, a) p;
  rest = w.rest;
}

once_more : (device n : ℕ) (apdu : List ℕ) (repeats now : ℕ) (con : Option ℕ) (flight : Flight) (l : List Moment) → Tried device n apdu repeats con flight l → IsOverdue con now → time l ≡ now → SentInVain device n apdu (suc repeats) l
once_more device n apdu repeats now None flight l t o e = absurd (cc o.confirmed_is)
once_more device n apdu repeats now (Some since) flight l t o e =
    let same : o.since ≡ since = sym (cc o.confirmed_is) in in_vain device n apdu repeats since now l t e (subst (λ (k : ℕ). ack_wait ≤ now - k) same o.passed)

-- ---- again

pub put_again : (device : IndAddr) (s : Session) (q : Question) (flight : Flight) (sent now : ℕ) (m : Moment) (l : List Moment) → (f : AskingFits device.raw s q flight sent l) → IsOverdue q.confirmed now → q.repeats < most_repeats → time l ≡ now
    → PutsNumbered device s.number f.apdu m → AskingFits device.raw (at_time s now) (question_again q) Frame sent (m ∷ l)
put_again device s q flight sent now m l f o less e w = record {
  own = put_own device s.number f.apdu m l w;
  expects = put_expects device s.number s.expected f.apdu m l f.expects w;
  over = ap suc (put_over device s.number f.apdu m l w) ∙ f.over;
  apdu = f.apdu;
  carries = f.carries;
  repeats = omega arith;
  tried = record {
    flies = refl;
    flown = [];
    put = m;
    before = l;
    split = refl;
    put_is = w.put_is;
    first = tt;
    unheard = tt;
    rest = subst (λ (k : ℕ). SentInVain device.raw s.number f.apdu k l) (sym (add-one q.repeats)) (once_more device.raw s.number f.apdu q.repeats now q.confirmed flight l f.tried o e);
  };
  first_put = record {
    flown = m ∷ f.first_put.flown;
    put = f.first_put.put;
    before = f.first_put.before;
    split = ap (λ (x : List Moment). m ∷ x) f.first_put.split;
    put_is = f.first_put.put_is;
    fresh = f.first_put.fresh;
    answer = λ t. ((f.first_put.answer t).0, put_got device s.number f.apdu m l w ∙ (f.first_put.answer t).1);
  };
}

-- ---- the signs of silence

pub four_times : (device : ℕ) (s : Session) (q : Question) (flight : Flight) (sent now : ℕ) (l : List Moment) → AskingFits device s q flight sent l → IsOverdue q.confirmed now → most_repeats ≤ q.repeats → time l ≡ now → FourTimes device l
four_times device s q flight sent now l f o r e =
    let le : q.repeats ≤ 3 = f.repeats in
    let is : q.repeats ≡ 3 = omega arith in
    record { n = s.number; apdu = f.apdu; all = subst (λ (k : ℕ). SentInVain device s.number f.apdu (suc k) l) is (once_more device s.number f.apdu q.repeats now q.confirmed flight l f.tried o e) }

pub unanswered : (device : ℕ) (s : Session) (sent now : ℕ) (l : List Moment) → AwaitingFits device s sent l → time l ≡ now → idle_wait ≤ now - s.last → Unanswered device l
unanswered device s sent now l f e p =
    let since = f.since in
    record { quiet = f.quiet; last = f.moment; older = f.older; split = f.split; awaited = f.then_awaited; n = s.number; own = f.then_own; still = f.still; passed = rw e (omega arith) }
