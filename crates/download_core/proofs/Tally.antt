-- What an attempt comes to is what its session shows: done where every operation was acknowledged and answered, refused where an answer was
-- wrong, and neither where it fails.
use Rattle.std.proofs.Common.{◌≡◌, ◌⊎◌, inl, inr, ℕ, suc, true, List, ◌∷◌, length, reverse, Option, Some, None, ap, sym, subst, ◌∙◌}
use Rattle.knx_model.specs.ClientConnection.{ClientEnd, Asked, Up, Asking, Awaiting, Ended as NoConnection}
use Rattle.knx_model.specs.Plans.{Plan}
use Rattle.line_model.specs.Attempts.{awaits}
use Rattle.line_model.specs.Moments.{Moment, Next as NextNumber, Outstanding, number, acknowledged, answers, services}
use Rattle.line_model.specs.Progress.{Reaches, last_of}
use Rattle.line_model.specs.Told.{AnsweredWrong, Unawaited}
use Rattle.download_core.specs.declared.outcome.Refusal.{Refusal}
use Rattle.download_core.specs.Attempt.{Standing, Attempt}
use Rattle.download_core.specs.InSession.{ConnFits, StandsAt, WentWrong, PlanFits, LastFits, SessionFits}
use Rattle.download_core.proofs.Readings.{IsSame}

-- ---- what is counted in a session

abbrev pub Counts : ℕ → ClientEnd → ℕ → List Moment → Type 0
Counts device (Asked to) sent l = ⊥
Counts device (Up s) sent l = (number device l ≡ NextNumber s.number) × (acknowledged device l ≡ sent)
Counts device (Asking s q) sent l = (number device l ≡ Outstanding s.number) × (suc (acknowledged device l) ≡ sent)
Counts device (Awaiting s) sent l = (number device l ≡ NextNumber s.number) × (acknowledged device l ≡ sent)
Counts device NoConnection sent l = ⊥

pub record Tally (device : ℕ) (plan : Plan) (a : Attempt) (l : List Moment) : Type 0 where
  pub counts : Counts device a.conn a.sent l
  pub sent : length (services device l) ≡ a.sent
  pub stands : PlanFits device plan a.wrong a.standing a.sent l
  pub right : awaits a.conn ≡ true → a.wrong ≡ None

counts_of : (device : ℕ) (a : Attempt) (conn : ClientEnd) (l : List Moment) → ConnFits device conn a.flight a.sent l → Counts device conn a.sent l
counts_of device a (Asked to) l f = f
counts_of device a (Up s) l f = (f.own, f.over)
counts_of device a (Asking s q) l f = (f.own, f.over)
counts_of device a (Awaiting s) l f = (f.own, f.over)
counts_of device a NoConnection l f = f

pub tally_of : (device : ℕ) (plan : Plan) (a : Attempt) (l : List Moment) → SessionFits device plan a l → Tally device plan a l
tally_of device plan a l f = record { counts = counts_of device a a.conn l f.conn; sent = f.sent; stands = f.stands; right = f.right }

-- ---- a moment that counts for nothing

abbrev pub SameAnswers : ℕ → Moment → List Moment → Type 0
SameAnswers device m l = answers device (m ∷ l) ≡ answers device l

abbrev pub SameServices : ℕ → Moment → List Moment → Type 0
SameServices device m l = services device (m ∷ l) ≡ services device l

pub same_length : (device : ℕ) (m : Moment) (l : List Moment) → SameServices device m l → length (services device (m ∷ l)) ≡ length (services device l)
same_length device m l e = ap (λ (x : List (List ℕ)). length x) e

pub why_kept : (device : ℕ) (plan : Plan) (w : Refusal) (before : List (List ℕ)) (m : Moment) (l : List Moment) → SameServices device m l → AnsweredWrong device plan w.op w.got w.expected before l ⊎ Unawaited device plan w.op w.expected before l
    → AnsweredWrong device plan w.op w.got w.expected before (m ∷ l) ⊎ Unawaited device plan w.op w.expected before (m ∷ l)
why_kept device plan w before m l e (inl a) = inl (record { earlier = a.earlier; last = same_length device m l e ∙ a.last; left = a.left; so_far = a.so_far; differs = a.differs })
why_kept device plan w before m l e (inr u) = inr (record {
  empty = u.empty;
  left = u.left;
  so_far = subst (λ (k : ℕ). Reaches plan k (reverse before) u.left) (sym (same_length device m l e)) u.so_far;
  last = u.last ∙ ap (λ (k : ℕ). last_of 0 plan k (reverse before)) (sym (same_length device m l e));
})

wrong_kept : (device : ℕ) (plan : Plan) (w : Refusal) (m : Moment) (l : List Moment) → SameAnswers device m l → SameServices device m l → WentWrong device plan w l → WentWrong device plan w (m ∷ l)
wrong_kept device plan w m l g e f = record { later = f.later; before = f.before; taken = g ∙ f.taken; why = why_kept device plan w f.before m l e f.why }

pub plan_kept : (device : ℕ) (plan : Plan) (w : Option Refusal) (standing : Standing) (sent : ℕ) (m : Moment) (l : List Moment) → SameAnswers device m l → SameServices device m l → PlanFits device plan w standing sent l
    → PlanFits device plan w standing sent (m ∷ l)
plan_kept device plan None standing sent m l g e f = subst (StandsAt plan standing sent) (sym g) f
plan_kept device plan (Some w) standing sent m l g e f = wrong_kept device plan w m l g e f

pub last_kept : (device : ℕ) (plan : Plan) (a : Attempt) (m : Moment) (l : List Moment) → SameAnswers device m l → LastFits device plan a l → LastFits device plan a (m ∷ l)
last_kept device plan a m l g f w = f w ∙ ap (λ (x : List (List ℕ)). last_of 0 plan a.sent (reverse x)) (sym g)

counts_kept : (device : ℕ) (conn : ClientEnd) (sent : ℕ) (m : Moment) (l : List Moment) → IsSame device m l → Counts device conn sent l → Counts device conn sent (m ∷ l)
counts_kept device (Asked to) sent m l e f = f
counts_kept device (Up s) sent m l e f = (e.own ∙ f.0, e.over ∙ f.1)
counts_kept device (Asking s q) sent m l e f = (e.own ∙ f.0, ap suc e.over ∙ f.1)
counts_kept device (Awaiting s) sent m l e f = (e.own ∙ f.0, e.over ∙ f.1)
counts_kept device NoConnection sent m l e f = f

pub tally_kept : (device : ℕ) (plan : Plan) (a : Attempt) (m : Moment) (l : List Moment) → IsSame device m l → Tally device plan a l → Tally device plan a (m ∷ l)
tally_kept device plan a m l e t = record {
  counts = counts_kept device a.conn a.sent m l e t.counts;
  sent = same_length device m l e.put ∙ t.sent;
  stands = plan_kept device plan a.wrong a.standing a.sent m l e.got e.put t.stands;
  right = t.right;
}
