-- An answer, in the downloader and in the line's view: whether it is the expected one, and what is left of the plan then.
use Rattle.std.proofs.Common.{◌≡◌, ◌&&◌, ℕ, Bool, true, false, is_some, List, [], Option, Some, None, refl, ap, sym, subst, ◌∙◌, if◌then◌else◌}
use Rattle.std.proofs.lemmas.Bool.{and_left}
use Rattle.knx_model.specs.declared.plan.Expect.{Expect}
use Rattle.knx_model.specs.declared.plan.Expect.TheVariants.{AckOnly, Is, Note}
use Rattle.knx_model.specs.Plans.{Plan, Over, Asks, followed}
use Rattle.knx_model.specs.GoodPlan.{IsSendable}
use Rattle.line_model.specs.Progress.{suits}
use Rattle.line_model.specs.Attempts as line
use Rattle.line_model.specs.Attempts.{awaits}
use Rattle.download_core.specs.declared.outcome.Refusal.{Refusal}
use Rattle.download_core.specs.Attempt.{Standing, Next, AnswerOf, Attempt, suits_expect, or_else, wanted_of, gone_wrong, answered, answered_at}
use Rattle.download_core.specs.Fits.{Knows, plan_of, StandsWith}

-- ---- answers

-- what is known of the plan after an answer
pub record Learns (a : Attempt) (x : line.Attempt) (b : Attempt) (y : line.Attempt) : Type 0 where
  pub end : y.end ≡ x.end
  pub owed : y.owed ≡ x.owed
  pub flying : y.flying ≡ x.flying
  pub same_conn : b.conn ≡ a.conn
  pub same_owed : b.owed ≡ a.owed
  pub same_flight : b.flight ≡ a.flight
  pub closing : y.closing ≡ is_some b.wrong
  pub left : b.wrong ≡ None → y.left ≡ plan_of b.standing
  pub stands : b.wrong ≡ None → StandsWith false b.standing
  pub sendable : IsSendable (plan_of b.standing)

some_or : (w : Option Refusal) (r : Refusal) → true ≡ is_some (or_else w r)
some_or None r = refl
some_or (Some f) r = refl

pub some_isnt_none : (w : Option Refusal) (r : Refusal) → or_else w r ≡ None → ⊥
some_isnt_none None r h = absurd (cc h)
some_isnt_none (Some f) r h = absurd (cc h)

-- it is wrong in both views
learns_wrong : (a : Attempt) (x : line.Attempt) (got expected : List ℕ) → Knows a x → Learns a x (gone_wrong a got expected) (record x { closing = true })
learns_wrong a x got expected k = record {
  end = refl;
  owed = refl;
  flying = refl;
  same_conn = refl;
  same_owed = refl;
  same_flight = refl;
  closing = some_or a.wrong (record { op = a.last; got = got; expected = expected });
  left = λ h. absurd (some_isnt_none a.wrong (record { op = a.last; got = got; expected = expected }) h);
  stands = λ h. absurd (some_isnt_none a.wrong (record { op = a.last; got = got; expected = expected }) h);
  sendable = k.sendable;
}

not_none : (w : Option Refusal) → is_some w ≡ true → w ≡ None → ⊥
not_none None s h = cc s
not_none (Some r) s h = cc h

late : (t : Bool) (a : Attempt) (x : line.Attempt) (b : Attempt) (got : List ℕ) → x.closing ≡ true → b.conn ≡ a.conn → b.owed ≡ a.owed → b.flight ≡ a.flight → is_some b.wrong ≡ true → IsSendable (plan_of b.standing)
    → Learns a x b (if t then record x { left = followed x.left got } else record x { closing = true })
late true a x b got c e o f w s = record {
  end = refl;
  owed = refl;
  flying = refl;
  same_conn = e;
  same_owed = o;
  same_flight = f;
  closing = c ∙ sym w;
  left = λ h. absurd (not_none b.wrong w h);
  stands = λ h. absurd (not_none b.wrong w h);
  sendable = s;
}
late false a x b got c e o f w s = record {
  end = refl;
  owed = refl;
  flying = refl;
  same_conn = e;
  same_owed = o;
  same_flight = f;
  closing = sym w;
  left = λ h. absurd (not_none b.wrong w h);
  stands = λ h. absurd (not_none b.wrong w h);
  sendable = s;
}

late_wrong : (a : Attempt) (x : line.Attempt) (got expected : List ℕ) → x.closing ≡ true → Knows a x → Learns a x (gone_wrong a got expected) (line.answered x got)
late_wrong a x got expected c k = late (awaits x.end && suits x.left got) a x (gone_wrong a got expected) got c refl refl refl (sym (some_or a.wrong (record { op = a.last; got = got; expected = expected }))) k.sendable

late_test : (u : Bool) (a : Attempt) (x : line.Attempt) (place : ℕ) (apdu : List ℕ) (expect : Expect) (next : Option (List ℕ) → Plan) (got expected : List ℕ) → x.closing ≡ true → is_some a.wrong ≡ true → IsSendable (Asks place apdu expect next) → Knows a x
    → Learns a x (if u then record a { standing = Next (next (Some got)) } else gone_wrong a got expected) (line.answered x got)
late_test true a x place apdu expect next got expected c w s k = late (awaits x.end && suits x.left got) a x (record a { standing = Next (next (Some got)) }) got c refl refl refl w (s.2 (Some got))
late_test false a x place apdu expect next got expected c w s k = late_wrong a x got expected c k

late_at : (a : Attempt) (x : line.Attempt) (st : Standing) (got : List ℕ) → is_some a.wrong ≡ true → a.standing ≡ st → Knows a x → Learns a x (answered_at a st got) (line.answered x got)
late_at a x (Next plan) got w p k = late_wrong a x got [] (k.closing ∙ w) k
late_at a x (AnswerOf Over) got w p k = late_wrong a x got [] (k.closing ∙ w) k
late_at a x (AnswerOf (Asks place apdu expect next)) got w p k =
    late_test (suits_expect apdu expect got) a x place apdu expect next got (wanted_of expect) (k.closing ∙ w) w (subst IsSendable (ap plan_of p) k.sendable) k

-- while none was wrong
line_wrong : (a : Attempt) (x : line.Attempt) (b : Attempt) (got : List ℕ) (t : Bool) → t ≡ false → Learns a x b (record x { closing = true }) → Learns a x b (if t then record x { left = followed x.left got } else record x { closing = true })
line_wrong a x b got true e l = absurd (cc e)
line_wrong a x b got false e l = l

line_right : (a : Attempt) (x : line.Attempt) (b : Attempt) (got : List ℕ) (t : Bool) → t ≡ true → Learns a x b (record x { left = followed x.left got }) → Learns a x b (if t then record x { left = followed x.left got } else record x { closing = true })
line_right a x b got true e l = l
line_right a x b got false e l = absurd (cc e)

suits_same : (place : ℕ) (apdu : List ℕ) (expect : Expect) (next : Option (List ℕ) → Plan) (got : List ℕ) → suits (Asks place apdu expect next) got ≡ suits_expect apdu expect got
suits_same place apdu AckOnly next got = refl
suits_same place apdu (Is wanted) next got = refl
suits_same place apdu Note next got = refl

and_same : (b c d : Bool) → b ≡ true → c ≡ d → (b && c) ≡ d
and_same true c d e f = f
and_same false c d e f = absurd (cc e)

in_time : (u : Bool) (a : Attempt) (x : line.Attempt) (place : ℕ) (apdu : List ℕ) (expect : Expect) (next : Option (List ℕ) → Plan) (got : List ℕ) → (awaits x.end && suits x.left got) ≡ u → a.wrong ≡ None → plan_of a.standing ≡ Asks place apdu expect next → Knows a x
    → Learns a x (if u then record a { standing = Next (next (Some got)) } else gone_wrong a got (wanted_of expect)) (line.answered x got)
in_time true a x place apdu expect next got e w p k = line_right a x (record a { standing = Next (next (Some got)) }) got (awaits x.end && suits x.left got) e (record {
  end = refl;
  owed = refl;
  flying = refl;
  same_conn = refl;
  same_owed = refl;
  same_flight = refl;
  closing = k.closing;
  left = λ _. ap (λ (q : Plan). followed q got) (k.left w ∙ p);
  stands = λ _. refl;
  sendable = (subst IsSendable p k.sendable).2 (Some got);
})
in_time false a x place apdu expect next got e w p k = line_wrong a x (gone_wrong a got (wanted_of expect)) got (awaits x.end && suits x.left got) e (learns_wrong a x got (wanted_of expect) k)

early_at : (a : Attempt) (x : line.Attempt) (st : Standing) (got : List ℕ) → a.wrong ≡ None → a.standing ≡ st → StandsWith (awaits a.conn) st → Knows a x → Learns a x (answered_at a st got) (line.answered x got)
early_at a x (Next plan) got w p s k = line_wrong a x (gone_wrong a got []) got (awaits x.end && suits x.left got) (and_left (awaits x.end) (suits x.left got) (ap awaits k.end ∙ s)) (learns_wrong a x got [] k)
early_at a x (AnswerOf Over) got w p s k = absurd s.1
early_at a x (AnswerOf (Asks place apdu expect next)) got w p s k =
    in_time (suits_expect apdu expect got) a x place apdu expect next got
    (and_same (awaits x.end) (suits x.left got) (suits_expect apdu expect got) (ap awaits k.end ∙ s.0) (ap (λ (q : Plan). suits q got) (k.left w ∙ ap plan_of p) ∙ suits_same place apdu expect next got))
    w (ap plan_of p) k

learns_at : (a : Attempt) (x : line.Attempt) (w : Option Refusal) (got : List ℕ) → a.wrong ≡ w → Knows a x → Learns a x (answered a got) (line.answered x got)
learns_at a x None got w k = early_at a x a.standing got w refl (k.stands w) k
learns_at a x (Some r) got w k = late_at a x a.standing got (ap is_some w) refl k

pub learns : (a : Attempt) (x : line.Attempt) (got : List ℕ) → Knows a x → Learns a x (answered a got) (line.answered x got)
learns a x got k = learns_at a x a.wrong got refl k
