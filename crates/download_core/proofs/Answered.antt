-- An answer, and how far the plan has come by the record then.
use Rattle.std.proofs.Common.{◌≡◌, inl, inr, ℕ, suc, Bool, true, false, List, [], ◌∷◌, ◌++◌, length, reverse, Option, Some, None, refl, ap, sym, subst, ◌∙◌, if◌then◌else◌}
use Rattle.std.proofs.lemmas.Slice.Eq.{bytes_eq-Decides}
use Rattle.knx_model.specs.declared.plan.Expect.{Expect}
use Rattle.knx_model.specs.declared.plan.Expect.TheVariants.{AckOnly, Is, Note}
use Rattle.knx_model.specs.Plans.{Plan, Over, Asks, Suits}
use Rattle.line_model.specs.Moments.{Moment, answers, services}
use Rattle.line_model.specs.Progress.{Reaches, last_of, Differs}
use Rattle.download_core.specs.declared.outcome.Refusal.{Refusal}
use Rattle.download_core.specs.Attempt.{Standing, Next, AnswerOf, Attempt, suits_expect, wanted_of, or_else, gone_wrong, answered_at, answered}
use Rattle.download_core.specs.Fits.{HasAnswer, StandsWith}
use Rattle.download_core.specs.InSession.{StandsAt, WentWrong, PlanFits, LastFits}
use Rattle.download_core.proofs.Reaching.{reaches_answered, last_asked, last_answered, reverse_one}
use Rattle.download_core.proofs.Learns.{some_isnt_none}
use Rattle.download_core.proofs.Tally.{SameServices, same_length, why_kept}

-- one more answer was accepted
abbrev pub OneAnswer : ℕ → List ℕ → Moment → List Moment → Type 0
OneAnswer device got m l = answers device (m ∷ l) ≡ got ∷ answers device l

-- ---- what it changes in the attempt

pub record Keeps (a b : Attempt) : Type 0 where
  pub sent : b.sent ≡ a.sent
  pub flight : b.flight ≡ a.flight

test_keeps : (t : Bool) (a : Attempt) (left : Plan) (got expected : List ℕ) → Keeps a (if t then record a { standing = Next left } else gone_wrong a got expected)
test_keeps true a left got expected = record { sent = refl; flight = refl }
test_keeps false a left got expected = record { sent = refl; flight = refl }

keeps_at : (a : Attempt) (st : Standing) (got : List ℕ) → Keeps a (answered_at a st got)
keeps_at a (Next left) got = record { sent = refl; flight = refl }
keeps_at a (AnswerOf Over) got = record { sent = refl; flight = refl }
keeps_at a (AnswerOf (Asks place apdu expect next)) got = test_keeps (suits_expect apdu expect got) a (next (Some got)) got (wanted_of expect)

pub answered_keeps : (a : Attempt) (got : List ℕ) → Keeps a (answered a got)
answered_keeps a got = keeps_at a a.standing got

-- ---- after a wrong one

test_late : (t : Bool) (a : Attempt) (left : Plan) (got expected : List ℕ) (r : Refusal) → a.wrong ≡ Some r → (if t then record a { standing = Next left } else gone_wrong a got expected).wrong ≡ Some r
test_late true a left got expected r e = e
test_late false a left got expected r e = ap (λ (w : Option Refusal). or_else w (record { op = a.last; got = got; expected = expected })) e

late_at : (a : Attempt) (st : Standing) (got : List ℕ) (r : Refusal) → a.wrong ≡ Some r → (answered_at a st got).wrong ≡ Some r
late_at a (Next left) got r e = ap (λ (w : Option Refusal). or_else w (record { op = a.last; got = got; expected = [] })) e
late_at a (AnswerOf Over) got r e = ap (λ (w : Option Refusal). or_else w (record { op = a.last; got = got; expected = [] })) e
late_at a (AnswerOf (Asks place apdu expect next)) got r e = test_late (suits_expect apdu expect got) a (next (Some got)) got (wanted_of expect) r e

more_wrong : (device : ℕ) (plan : Plan) (r : Refusal) (got : List ℕ) (m : Moment) (l : List Moment) → OneAnswer device got m l → SameServices device m l → WentWrong device plan r l → WentWrong device plan r (m ∷ l)
more_wrong device plan r got m l g s f = record { later = got ∷ f.later; before = f.before; taken = g ∙ ap (λ (x : List (List ℕ)). got ∷ x) f.taken; why = why_kept device plan r f.before m l s f.why }

-- ---- the first wrong one

abbrev pub PlanOf : ℕ → Plan → Attempt → List Moment → Type 0
PlanOf device plan a l = PlanFits device plan a.wrong a.standing a.sent l

wrong_now : (device : ℕ) (plan : Plan) (a : Attempt) (got expected : List ℕ) (l : List Moment) → a.wrong ≡ None → WentWrong device plan (record { op = a.last; got = got; expected = expected }) l → PlanOf device plan (gone_wrong a got expected) l
wrong_now device plan a got expected l e f = subst (λ (w : Option Refusal). PlanFits device plan (or_else w (record { op = a.last; got = got; expected = expected })) a.standing a.sent l) (sym e) f

-- no answer was awaited
unawaited : (device : ℕ) (plan left : Plan) (sent op : ℕ) (got : List ℕ) (m : Moment) (l : List Moment) → length (services device l) ≡ sent → op ≡ last_of 0 plan sent (reverse (answers device l)) → Reaches plan sent (reverse (answers device l)) left
    → OneAnswer device got m l → SameServices device m l → WentWrong device plan (record { op = op; got = got; expected = [] }) (m ∷ l)
unawaited device plan left sent op got m l n o f g s =
    let count : length (services device (m ∷ l)) ≡ sent = same_length device m l s ∙ n in
    record {
      later = [];
      before = answers device l;
      taken = g;
      why = inr (record { empty = refl; left = left; so_far = subst (λ (k : ℕ). Reaches plan k (reverse (answers device l)) left) (sym count) f; last = o ∙ ap (λ (k : ℕ). last_of 0 plan k (reverse (answers device l))) (sym count) });
    }

-- it differs from the expected one
differs_in : (place : ℕ) (apdu : List ℕ) (expect : Expect) (next : Option (List ℕ) → Plan) (op : ℕ) (got : List ℕ) → op ≡ place → HasAnswer (Asks place apdu expect next) → suits_expect apdu expect got ≡ false → Differs (Asks place apdu expect next) op got (wanted_of expect)
differs_in place apdu AckOnly next op got o a t = absurd a
differs_in place apdu (Is wanted) next op got o a t = (refl, λ e. cc (sym ((bytes_eq-Decides got wanted).1 e) ∙ t), o)
differs_in place apdu Note next op got o a t = (refl, t, o)

differs : (device : ℕ) (plan : Plan) (place : ℕ) (apdu : List ℕ) (expect : Expect) (next : Option (List ℕ) → Plan) (sent k op : ℕ) (got : List ℕ) (m : Moment) (l : List Moment) → length (services device l) ≡ sent → sent ≡ suc k → op ≡ place → HasAnswer (Asks place apdu expect next)
    → suits_expect apdu expect got ≡ false → Reaches plan k (reverse (answers device l)) (Asks place apdu expect next) → OneAnswer device got m l → SameServices device m l → WentWrong device plan (record { op = op; got = got; expected = wanted_of expect }) (m ∷ l)
differs device plan place apdu expect next sent k op got m l n e o a t f g s =
    record {
      later = [];
      before = answers device l;
      taken = g;
      why = inl (record {
        earlier = k;
        last = same_length device m l s ∙ n ∙ e;
        left = Asks place apdu expect next;
        so_far = f;
        differs = differs_in place apdu expect next op got o a t;
      });
    }

-- ---- the expected one

suits_in : (apdu : List ℕ) (expect : Expect) (got : List ℕ) → suits_expect apdu expect got ≡ true → Suits apdu expect (Some got)
suits_in apdu AckOnly got t = absurd (cc t)
suits_in apdu (Is wanted) got t = (bytes_eq-Decides got wanted).0 t
suits_in apdu Note got t = t

goes_further : (device : ℕ) (plan : Plan) (place : ℕ) (apdu : List ℕ) (expect : Expect) (next : Option (List ℕ) → Plan) (sent k : ℕ) (got : List ℕ) (m : Moment) (l : List Moment) → sent ≡ suc k → suits_expect apdu expect got ≡ true
    → Reaches plan k (reverse (answers device l)) (Asks place apdu expect next) → OneAnswer device got m l → StandsAt plan (Next (next (Some got))) sent (answers device (m ∷ l))
goes_further device plan place apdu expect next sent k got m l e t f g =
    let here : Reaches plan (suc k) (reverse (answers device l) ++ got ∷ []) (next (Some got)) = reaches_answered plan k (reverse (answers device l)) place apdu expect next got f (suits_in apdu expect got t) in
    subst (λ (x : List (List ℕ)). Reaches plan sent (reverse x) (next (Some got))) (sym g)
    (subst (λ (x : List (List ℕ)). Reaches plan sent x (next (Some got))) (sym (reverse_one got (answers device l))) (subst (λ (j : ℕ). Reaches plan j (reverse (answers device l) ++ got ∷ []) (next (Some got))) (sym e) here))

-- ---- the number of the operation that awaits it

last_is : (device : ℕ) (plan : Plan) (place : ℕ) (apdu : List ℕ) (expect : Expect) (next : Option (List ℕ) → Plan) (sent k : ℕ) (l : List Moment) → sent ≡ suc k → Reaches plan k (reverse (answers device l)) (Asks place apdu expect next)
    → last_of 0 plan sent (reverse (answers device l)) ≡ place
last_is device plan place apdu expect next sent k l e f =
    subst (λ (j : ℕ). last_of 0 plan j (reverse (answers device l)) ≡ place) (sym e) (last_asked 0 plan k (reverse (answers device l)) place apdu expect next f)

last_still : (device : ℕ) (plan : Plan) (place : ℕ) (apdu : List ℕ) (expect : Expect) (next : Option (List ℕ) → Plan) (sent k : ℕ) (got : List ℕ) (m : Moment) (l : List Moment) → sent ≡ suc k → Reaches plan k (reverse (answers device l)) (Asks place apdu expect next)
    → OneAnswer device got m l → last_of 0 plan sent (reverse (answers device (m ∷ l))) ≡ place
last_still device plan place apdu expect next sent k got m l e f g =
    subst (λ (x : List (List ℕ)). last_of 0 plan sent (reverse x) ≡ place) (sym g)
    (subst (λ (x : List (List ℕ)). last_of 0 plan sent x ≡ place) (sym (reverse_one got (answers device l)))
    (subst (λ (j : ℕ). last_of 0 plan j (reverse (answers device l) ++ got ∷ []) ≡ place) (sym e) (last_answered 0 plan k (reverse (answers device l)) (got ∷ []) place apdu expect next f)))

last_test : (device : ℕ) (plan : Plan) (a : Attempt) (left : Plan) (got expected : List ℕ) (m : Moment) (l : List Moment) (t : Bool) → (a.wrong ≡ None → a.last ≡ last_of 0 plan a.sent (reverse (answers device (m ∷ l))))
    → LastFits device plan (if t then record a { standing = Next left } else gone_wrong a got expected) (m ∷ l)
last_test device plan a left got expected m l true o w = o w
last_test device plan a left got expected m l false o w = absurd (some_isnt_none a.wrong (record { op = a.last; got = got; expected = expected }) w)

last_at : (device : ℕ) (plan : Plan) (a : Attempt) (st : Standing) (got : List ℕ) (m : Moment) (l : List Moment) → (a.wrong ≡ None → StandsAt plan st a.sent (answers device l)) → LastFits device plan a l → OneAnswer device got m l
    → LastFits device plan (answered_at a st got) (m ∷ l)
last_at device plan a (Next left) got m l f o g w = absurd (some_isnt_none a.wrong (record { op = a.last; got = got; expected = [] }) w)
last_at device plan a (AnswerOf Over) got m l f o g w = absurd (some_isnt_none a.wrong (record { op = a.last; got = got; expected = [] }) w)
last_at device plan a (AnswerOf (Asks place apdu expect next)) got m l f o g w =
    last_test device plan a (next (Some got)) got (wanted_of expect) m l (suits_expect apdu expect got)
    (λ w. o w ∙ last_is device plan place apdu expect next a.sent (f w).0 l (f w).1 (f w).2 ∙ sym (last_still device plan place apdu expect next a.sent (f w).0 got m l (f w).1 (f w).2 g)) w

stands_unless : (device : ℕ) (plan : Plan) (wrong : Option Refusal) (st : Standing) (sent : ℕ) (l : List Moment) → PlanFits device plan wrong st sent l → wrong ≡ None → StandsAt plan st sent (answers device l)
stands_unless device plan wrong st sent l f w = subst (λ (o : Option Refusal). PlanFits device plan o st sent l) w f

pub last_fits : (device : ℕ) (plan : Plan) (a : Attempt) (got : List ℕ) (m : Moment) (l : List Moment) → PlanOf device plan a l → LastFits device plan a l → OneAnswer device got m l → LastFits device plan (answered a got) (m ∷ l)
last_fits device plan a got m l f o g = last_at device plan a a.standing got m l (λ w. stands_unless device plan a.wrong a.standing a.sent l f w) o g

-- ---- whatever it is

plan_test : (device : ℕ) (plan : Plan) (a : Attempt) (place : ℕ) (apdu : List ℕ) (expect : Expect) (next : Option (List ℕ) → Plan) (k : ℕ) (got : List ℕ) (m : Moment) (l : List Moment) (t : Bool) → suits_expect apdu expect got ≡ t → a.wrong ≡ None → length (services device l) ≡ a.sent → a.sent ≡ suc k → a.last ≡ place
    → HasAnswer (Asks place apdu expect next) → Reaches plan k (reverse (answers device l)) (Asks place apdu expect next) → OneAnswer device got m l → SameServices device m l
    → PlanOf device plan (if t then record a { standing = Next (next (Some got)) } else gone_wrong a got (wanted_of expect)) (m ∷ l)
plan_test device plan a place apdu expect next k got m l true t w n e o h f g s =
    subst (λ (o : Option Refusal). PlanFits device plan o (Next (next (Some got))) a.sent (m ∷ l)) (sym w) (goes_further device plan place apdu expect next a.sent k got m l e t f g)
plan_test device plan a place apdu expect next k got m l false t w n e o h f g s =
    wrong_now device plan a got (wanted_of expect) (m ∷ l) w (differs device plan place apdu expect next a.sent k a.last got m l n e o h t f g s)

early_plan : (device : ℕ) (plan : Plan) (a : Attempt) (st : Standing) (awaited : Bool) (got : List ℕ) (m : Moment) (l : List Moment) → a.wrong ≡ None → length (services device l) ≡ a.sent → StandsWith awaited st → LastFits device plan a l → StandsAt plan st a.sent (answers device l)
    → OneAnswer device got m l → SameServices device m l → PlanOf device plan (answered_at a st got) (m ∷ l)
early_plan device plan a (Next left) awaited got m l w n h o f g s = wrong_now device plan a got [] (m ∷ l) w (unawaited device plan left a.sent a.last got m l n (o w) f g s)
early_plan device plan a (AnswerOf Over) awaited got m l w n h o f g s = absurd h.1
early_plan device plan a (AnswerOf (Asks place apdu expect next)) awaited got m l w n h o f g s =
    plan_test device plan a place apdu expect next f.0 got m l (suits_expect apdu expect got) refl w n f.1 (o w ∙ last_is device plan place apdu expect next a.sent f.0 l f.1 f.2) h.1 f.2 g s

plan_by : (device : ℕ) (plan : Plan) (a : Attempt) (o : Option Refusal) (awaited : Bool) (got : List ℕ) (m : Moment) (l : List Moment) → a.wrong ≡ o → length (services device l) ≡ a.sent → (o ≡ None → StandsWith awaited a.standing) → LastFits device plan a l → PlanFits device plan o a.standing a.sent l
    → OneAnswer device got m l → SameServices device m l → PlanOf device plan (answered a got) (m ∷ l)
plan_by device plan a None awaited got m l w n h o f g s = early_plan device plan a a.standing awaited got m l w n (h refl) o f g s
plan_by device plan a (Some r) awaited got m l w n h o f g s =
    subst (λ (o : Option Refusal). PlanFits device plan o (answered a got).standing (answered a got).sent (m ∷ l)) (sym (late_at a a.standing got r w)) (more_wrong device plan r got m l g s f)

pub plan_answered : (device : ℕ) (plan : Plan) (a : Attempt) (awaited : Bool) (got : List ℕ) (m : Moment) (l : List Moment) → length (services device l) ≡ a.sent → (a.wrong ≡ None → StandsWith awaited a.standing) → LastFits device plan a l → PlanOf device plan a l
    → OneAnswer device got m l → SameServices device m l → PlanOf device plan (answered a got) (m ∷ l)
plan_answered device plan a awaited got m l n h o f g s = plan_by device plan a a.wrong awaited got m l refl n h o f g s
