-- What an attempt comes to is what its session shows.
use Rattle.std.proofs.Common.{◌≡◌, ◌<◌, inl, inr, ℕ, suc, Bool, true, false, List, ◌∷◌, ◌++◌, length, reverse, Option, Some, None, refl, ap, sym, subst, ◌∙◌, arith}
use Rattle.knx_model.specs.declared.plan.Expect.{Expect}
use Rattle.knx_model.specs.ClientConnection.{ClientEnd, Asked, Up, Asking, Awaiting, Ended as NoConnection, awaits_nothing}
use Rattle.knx_model.specs.Plans.{Plan, Over, Asks}
use Rattle.line_model.specs.Attempts.{awaits}
use Rattle.line_model.specs.Moments.{Moment, Next as NextNumber, Outstanding, acknowledged, answers, services}
use Rattle.line_model.specs.Progress.{Reaches}
use Rattle.line_model.specs.Told.{IsRefused}
use Rattle.download_core.specs.declared.outcome.Refusal.{Refusal}
use Rattle.download_core.specs.Attempt.{Standing, Next, AnswerOf, Attempt}
use Rattle.download_core.specs.Fits.{HasAnswer, StandsWith}
use Rattle.download_core.specs.InSession.{WentWrong, PlanFits, StandsAt}
use Rattle.download_core.specs.Record.{IsUnfinished}
use Rattle.download_core.proofs.Reaching.{same_place, reaches_more, past_over, past_missing, past_wrong, reverse_split}
use Rattle.download_core.proofs.Tally.{Counts, Tally}

-- the answers are split at the wrong one
split_reaches : (plan : Plan) (k : ℕ) (got later before : List (List ℕ)) (y : List ℕ) (left : Plan) → got ≡ later ++ y ∷ before → Reaches plan k (reverse got) left → Reaches plan k (reverse before ++ y ∷ reverse later) left
split_reaches plan k got later before y left e h = subst (λ (x : List (List ℕ)). Reaches plan k x left) (ap (λ (x : List (List ℕ)). reverse x) e ∙ reverse_split later y before) h

not_less : (n : ℕ) → n < n → ⊥
not_less n h = omega arith

-- as many operations as this don't go so far, and no answer was refused
abbrev StaysAt : Plan → ℕ → List (List ℕ) → Type 0
StaysAt plan k got = Reaches plan k (reverse got) Over → ⊥

-- ---- while one is outstanding

wrong_outstanding : (device : ℕ) (plan : Plan) (w : Refusal) (k : ℕ) (l : List Moment) → length (services device l) ≡ suc k → WentWrong device plan w l → StaysAt plan k (answers device l)
wrong_outstanding device plan w k l s f h = elim (f.why) [
  | inl a ↦ let same : a.earlier ≡ k = (let p : suc a.earlier ≡ suc k = sym a.last ∙ s in omega arith) in
      not_less k (subst (λ (j : ℕ). j < k) same (reaches_more plan a.earlier k (reverse f.before) w.got (reverse f.later) a.left Over a.so_far (split_reaches plan k (answers device l) f.later f.before w.got Over f.taken h)))
  | inr u ↦ let less : length (services device l) < k = reaches_more plan (length (services device l)) k (reverse f.before) w.got (reverse f.later) u.left Over u.so_far (split_reaches plan k (answers device l) f.later f.before w.got Over f.taken h) in
      (let p : length (services device l) ≡ suc k = s in omega arith)
]

stands_outstanding : (plan : Plan) (st : Standing) (awaited : Bool) (k sent : ℕ) (got : List (List ℕ)) → suc k ≡ sent → StandsWith awaited st → StandsAt plan st sent got → StaysAt plan k got
stands_outstanding plan (Next left) awaited k sent got e s f h = past_over plan k (reverse got) left h (subst (λ (j : ℕ). Reaches plan j (reverse got) left) (sym e) f)
stands_outstanding plan (AnswerOf left) awaited k sent got e s f h =
    let same : f.0 ≡ k = (let p : suc k ≡ suc f.0 = e ∙ f.1 in omega arith) in
    let is : left ≡ Over = same_place plan k (reverse got) left Over (subst (λ (j : ℕ). Reaches plan j (reverse got) left) same f.2) h in
    subst HasAnswer is s.1

outstanding : (device : ℕ) (plan : Plan) (w : Option Refusal) (st : Standing) (awaited : Bool) (k sent : ℕ) (l : List Moment) → suc k ≡ sent → length (services device l) ≡ sent → (w ≡ None → StandsWith awaited st) → PlanFits device plan w st sent l
    → StaysAt plan k (answers device l)
outstanding device plan None st awaited k sent l e s c f h = stands_outstanding plan st awaited k sent (answers device l) e (c refl) f h
outstanding device plan (Some w) st awaited k sent l e s c f h = wrong_outstanding device plan w k l (s ∙ sym e) f h

-- ---- while an answer is awaited

pub record IsMissing (plan : Plan) (sent : ℕ) (got : List (List ℕ)) : Type 0 where
  pub k : ℕ
  pub is : sent ≡ suc k
  pub left : Plan
  pub reaches : Reaches plan k (reverse got) left
  pub answer : HasAnswer left

missing_in : (plan : Plan) (st : Standing) (sent : ℕ) (got : List (List ℕ)) → StandsWith true st → StandsAt plan st sent got → IsMissing plan sent got
missing_in plan (Next left) sent got s f = absurd (cc s)
missing_in plan (AnswerOf left) sent got s f = record { k = f.0; is = f.1; left = left; reaches = f.2; answer = s.1 }

missing : (device : ℕ) (plan : Plan) (w : Option Refusal) (st : Standing) (sent : ℕ) (l : List Moment) → w ≡ None → (w ≡ None → StandsWith true st) → PlanFits device plan w st sent l → IsMissing plan sent (answers device l)
missing device plan None st sent l e c f = missing_in plan st sent (answers device l) (c refl) f
missing device plan (Some w) st sent l e c f = absurd (cc e)

missing_stays : (plan : Plan) (sent : ℕ) (got : List (List ℕ)) → IsMissing plan sent got → StaysAt plan sent got
missing_stays plan sent got x h = past_missing plan x.k (reverse got) x.left Over x.reaches x.answer (subst (λ (j : ℕ). Reaches plan j (reverse got) Over) x.is h)

pub missing_agrees : (device : ℕ) (plan : Plan) (sent : ℕ) (l : List Moment) → length (services device l) ≡ sent → IsMissing plan sent (answers device l) → (op : ℕ) (got expected : List ℕ) → IsRefused device plan op got expected l → ⊥
missing_agrees device plan sent l s x op got expected r =
    let split = split_reaches plan x.k (answers device l) r.later r.before got x.left r.taken x.reaches in elim (r.why) [
      | inl a ↦ let same : a.earlier ≡ x.k = (let p : suc a.earlier ≡ suc x.k = sym a.last ∙ s ∙ x.is in omega arith) in
          not_less x.k (subst (λ (j : ℕ). j < x.k) same (reaches_more plan a.earlier x.k (reverse r.before) got (reverse r.later) a.left x.left a.so_far split))
      | inr u ↦ let less : length (services device l) < x.k = reaches_more plan (length (services device l)) x.k (reverse r.before) got (reverse r.later) u.left x.left u.so_far split in (let p : length (services device l) ≡ suc x.k = s ∙ x.is in omega arith)
    ]

-- ---- while nothing is awaited, and operations are left

pub next_agrees : (device : ℕ) (plan left : Plan) (sent : ℕ) (l : List Moment) → length (services device l) ≡ sent → Reaches plan sent (reverse (answers device l)) left → (op : ℕ) (got expected : List ℕ) → IsRefused device plan op got expected l → ⊥
next_agrees device plan left sent l s f op got expected r =
    let split = split_reaches plan sent (answers device l) r.later r.before got left r.taken f in elim (r.why) [
      | inl a ↦ past_wrong plan a.earlier (reverse r.before) got (reverse r.later) a.left left op expected a.so_far a.differs (subst (λ (j : ℕ). Reaches plan j (reverse r.before ++ got ∷ reverse r.later) left) (sym s ∙ a.last) split)
      | inr u ↦ let less : length (services device l) < sent = reaches_more plan (length (services device l)) sent (reverse r.before) got (reverse r.later) u.left left u.so_far split in (let p : length (services device l) ≡ sent = s in omega arith)
    ]

-- operations are left, so it isn't over
pub same_over : (plan : Plan) (sent : ℕ) (got : List (List ℕ)) (place : ℕ) (apdu : List ℕ) (expect : Expect) (next : Option (List ℕ) → Plan) → Reaches plan sent (reverse got) (Asks place apdu expect next) → Reaches plan sent (reverse got) Over → ⊥
same_over plan sent got place apdu expect next f h = cc (same_place plan sent (reverse got) (Asks place apdu expect next) Over f h)

-- ---- an attempt that fails is unfinished

not_next : (n k : ℕ) → Outstanding n ≡ NextNumber k → ⊥
not_next n k h = cc h

pub unfinished_at : (device : ℕ) (plan : Plan) (a : Attempt) (conn : ClientEnd) (l : List Moment) → a.conn ≡ conn → awaits_nothing conn ≡ false → (a.wrong ≡ None → StandsWith (awaits conn) a.standing) → Tally device plan a l → IsUnfinished device plan l
unfinished_at device plan a (Asked to) l c n s t = absurd (subst (λ (e : ClientEnd). Counts device e a.sent l) c t.counts)
unfinished_at device plan a (Up x) l c n s t = absurd (cc n)
unfinished_at device plan a (Asking x q) l c n s t =
    let counts = subst (λ (e : ClientEnd). Counts device e a.sent l) c t.counts in
    record {
      goes_on = outstanding device plan a.wrong a.standing q.awaits (acknowledged device l) a.sent l counts.1 t.sent s t.stands;
      agrees = λ op got expected r. not_next x.number r.n (sym counts.0 ∙ r.judged);
    }
unfinished_at device plan a (Awaiting x) l c n s t =
    let counts = subst (λ (e : ClientEnd). Counts device e a.sent l) c t.counts in
    let right = subst (λ (e : ClientEnd). awaits e ≡ true → a.wrong ≡ None) c t.right refl in
    let gap = missing device plan a.wrong a.standing a.sent l right s t.stands in
    record {
      goes_on = λ h. missing_stays plan a.sent (answers device l) gap (subst (λ (j : ℕ). Reaches plan j (reverse (answers device l)) Over) counts.1 h);
      agrees = missing_agrees device plan a.sent l t.sent gap;
    }
unfinished_at device plan a NoConnection l c n s t = absurd (subst (λ (e : ClientEnd). Counts device e a.sent l) c t.counts)
