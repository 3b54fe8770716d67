-- How far a job has come is what the record shows.
use Rattle.std.proofs.Common.{◌≡◌, ℕ, suc, ◌-◌, List, [], ◌∷◌, Option, Some, None, reverse, refl, sym, ap, subst, ◌∙◌, arith}
use Rattle.knx_model.specs.Plans.{Plan}
use Rattle.line_model.specs.Moments.{Moment, Course, Unconfirmed, WithError, InSession, Left, answers, course, session, stretches}
use Rattle.line_model.specs.Progress.{Reaches}
use Rattle.line_model.specs.Told.{last_stretch}
use Rattle.download_core.specs.declared.outcome.Refusal.{Refusal}
use Rattle.download_core.specs.declared.signs.Signs.{Signs}
use Rattle.download_core.specs.Attempt.{Standing, Next, AnswerOf, Attempt, Phase, Resting, Running, Closing, Leaving, Ended, DownloaderState}
use Rattle.download_core.specs.Going.{HasGoneIn, gone_in, gone_of, over_of, over_unless}
use Rattle.download_core.specs.InSession.{PlanFits, StandsAt}
use Rattle.download_core.specs.Record.{FitsRecord, LastFits, PhaseFits, RunFits}

some_is : (m n : ℕ) → Some m ≡ Some n → m ≡ n
some_is m n e = cc

by_standing : (plan : Plan) (standing : Standing) (sent done : ℕ) (got : List (List ℕ)) → over_of standing sent ≡ done → StandsAt plan standing sent got → (left : Plan) × Reaches plan done (reverse got) left
by_standing plan (Next left) sent done got e h = (left, subst (λ (n : ℕ). Reaches plan n (reverse got) left) e h)
by_standing plan (AnswerOf left) sent done got e h = let is : h.0 ≡ done = (let a : sent ≡ suc h.0 = h.1 in let b : sent - 1 ≡ done = e in omega (arith, a, b)) in (left, subst (λ (n : ℕ). Reaches plan n (reverse got) left) is h.2)

by_answers : (device : ℕ) (plan : Plan) (wrong : Option Refusal) (standing : Standing) (sent done : ℕ) (l : List Moment) → over_unless wrong (over_of standing sent) ≡ Some done → PlanFits device plan wrong standing sent l
    → (left : Plan) × Reaches plan done (reverse (answers device l)) left
by_answers device plan (Some wrong) standing sent done l e h = absurd (cc)
by_answers device plan None standing sent done l e h = by_standing plan standing sent done (answers device l) (some_is (over_of standing sent) done e) h

by_course : (device : ℕ) (plan : Plan) (a : Attempt) (done : ℕ) (c : Course) → gone_of a ≡ Some done → RunFits device plan a c → (left : Plan) × Reaches plan done (reverse (answers device (session c))) left
by_course device plan a done Unconfirmed e h =
    let z : 0 ≡ done = some_is 0 done (sym (ap (λ (w : Option Refusal). over_unless w (over_of a.standing a.sent)) h.wrong ∙ ap (λ (s : Standing). Some (over_of s a.sent)) h.standing ∙ ap Some h.sent) ∙ e) in
    (plan, subst (λ (n : ℕ). Reaches plan n [] plan) z refl)
by_course device plan a done WithError e h = absurd h
by_course device plan a done (InSession l) e h = by_answers device plan a.wrong a.standing a.sent done l e h.stands
by_course device plan a done (Left l) e h = absurd h

by_stretches : (device : ℕ) (plan : Plan) (a : Attempt) (signs : Signs) (done : ℕ) (xs : List (List Moment)) → gone_of a ≡ Some done → LastFits (λ x. RunFits device plan a (course device x)) device signs xs
    → (left : Plan) × Reaches plan done (reverse (answers device (session (course device (last_stretch xs))))) left
by_stretches device plan a signs done [] e h = absurd h
by_stretches device plan a signs done (x ∷ xs) e h = by_course device plan a done (course device x) e h.0

by_phase : (device : ℕ) (plan : Plan) (signs : Signs) (phase : Phase) (done : ℕ) (xs : List (List Moment)) → gone_in phase ≡ Some done → PhaseFits device plan signs phase xs
    → (left : Plan) × Reaches plan done (reverse (answers device (session (course device (last_stretch xs))))) left
by_phase device plan signs Resting done xs e h =
    let z : 0 ≡ done = some_is 0 done e in
    (plan, subst (λ (n : ℕ). Reaches plan n (reverse (answers device (session (course device (last_stretch xs))))) plan) z (subst (λ (ys : List (List Moment)). Reaches plan 0 (reverse (answers device (session (course device (last_stretch ys))))) plan) (sym h) refl))
by_phase device plan signs (Running a) done xs e h = by_stretches device plan a signs done xs e h
by_phase device plan signs (Closing flight outcome) done xs e h = absurd (cc)
by_phase device plan signs (Leaving outcome) done xs e h = absurd (cc)
by_phase device plan signs (Ended outcome) done xs e h = absurd (cc)

-- of all moments since the job was taken
pub gone_is_shown : (s : DownloaderState) (now : ℕ) (l : List Moment) (done : ℕ) → FitsRecord s now l → gone_in s.phase ≡ Some done → HasGoneIn s.device.raw s.plan done l
gone_is_shown s now l done fits e = by_phase s.device.raw s.plan s.signs s.phase done (stretches s.device.raw l) e fits.shown
