-- What an attempt that ends comes to, by the record of its session; and that this stays.
use Rattle.std.proofs.Common.{◌≡◌, ◌≢◌, ℕ, Bool, true, false, List, [], ◌∷◌, ◌++◌, length, reverse, Option, Some, None, refl, ap, sym, subst, ◌∙◌, if◌then◌else◌}
use Rattle.knx_model.specs.declared.log.Sign.{Sign}
use Rattle.knx_model.specs.declared.log.Sign.TheVariants as sign
use Rattle.knx_model.specs.ClientConnection.{ClientEnd, Asked, Up, Asking, Awaiting, Ended as NoConnection, awaits_nothing}
use Rattle.knx_model.specs.Plans.{Plan, Over, Asks}
use Rattle.line_model.specs.Attempts.{awaits}
use Rattle.line_model.specs.Moments.{Moment, Next as NextNumber, number, acknowledged, answers, services, Course, Unconfirmed, WithError, InSession, Left, course, course_after, session, ends_session}
use Rattle.line_model.specs.Progress.{Reaches}
use Rattle.line_model.specs.Signs.{Holds, Once, Later, SilentFor, ClosesNow}
use Rattle.line_model.specs.Told.{WentThrough, IsRefused}
use Rattle.download_core.specs.declared.outcome.Refusal.{Refusal}
use Rattle.download_core.specs.declared.outcome.Outcome.{Outcome}
use Rattle.download_core.specs.declared.outcome.Outcome.TheVariants.{Failed, Done, Refused}
use Rattle.download_core.specs.Attempt.{Standing, Next, AnswerOf, Attempt, is_over, result_or, comes_to}
use Rattle.download_core.specs.Fits.{StandsWith}
use Rattle.download_core.specs.InSession.{PlanFits, StandsAt}
use Rattle.download_core.specs.Record.{IsUnfinished, IsFinal, Shows, CameTo}
use Rattle.download_core.proofs.Readings.{IsSame, comes_to_end}
use Rattle.download_core.proofs.Tally.{Counts, Tally, tally_kept}
use Rattle.download_core.proofs.Outcomes.{same_over, next_agrees, unfinished_at}

-- ---- where it ends with a sign, this outcome is so

abbrev pub CameWith : (Sign → Type 0) → ℕ → Plan → Outcome → List Moment → Type 0
CameWith H device plan (Failed why) l = H why × IsUnfinished device plan l
CameWith H device plan Done l = WentThrough device plan l
CameWith H device plan (Refused w) l = IsRefused device plan w.op w.got w.expected l

-- nothing is awaited
pub record IsCalm (device : ℕ) (plan : Plan) (a : Attempt) (l : List Moment) : Type 0 where
  pub n : ℕ
  pub own : number device l ≡ NextNumber n
  pub over : acknowledged device l ≡ a.sent

calm_at : (device : ℕ) (plan : Plan) (a : Attempt) (conn : ClientEnd) (l : List Moment) → a.conn ≡ conn → awaits_nothing conn ≡ true → Tally device plan a l → IsCalm device plan a l
calm_at device plan a (Asked to) l c u t = absurd (cc u)
calm_at device plan a (Up s) l c u t = let counts = subst (λ (e : ClientEnd). Counts device e a.sent l) c t.counts in record { n = s.number; own = counts.0; over = counts.1 }
calm_at device plan a (Asking s q) l c u t = absurd (cc u)
calm_at device plan a (Awaiting s) l c u t = absurd (cc u)
calm_at device plan a NoConnection l c u t = absurd (cc u)

pub isnt_awaited : (conn : ClientEnd) → awaits_nothing conn ≡ true → awaits conn ≡ false
isnt_awaited (Asked to) u = absurd (cc u)
isnt_awaited (Up s) u = refl
isnt_awaited (Asking s q) u = absurd (cc u)
isnt_awaited (Awaiting s) u = absurd (cc u)
isnt_awaited NoConnection u = absurd (cc u)

comes_over : (H : Sign → Type 0) (device : ℕ) (plan : Plan) (given : Sign) (st : Standing) (sent : ℕ) (l : List Moment) → H given → acknowledged device l ≡ sent → length (services device l) ≡ sent → StandsWith false st → StandsAt plan st sent (answers device l)
    → CameWith H device plan (if is_over st then Done else Failed given) l
comes_over H device plan given (Next Over) sent l h o v s f = subst (λ (k : ℕ). Reaches plan k (reverse (answers device l)) Over) (sym o) f
comes_over H device plan given (Next (Asks place apdu expect next)) sent l h o v s f = (
  h,
  record {
    goes_on = λ g. same_over plan sent (answers device l) place apdu expect next f (subst (λ (k : ℕ). Reaches plan k (reverse (answers device l)) Over) o g);
    agrees = next_agrees device plan (Asks place apdu expect next) sent l v f;
  },
)
comes_over H device plan given (AnswerOf left) sent l h o v s f = absurd (cc s.0)

comes_result : (H : Sign → Type 0) (device : ℕ) (plan : Plan) (given : Sign) (a : Attempt) (w : Option Refusal) (l : List Moment) → H given → IsCalm device plan a l → a.wrong ≡ w → (w ≡ None → StandsWith false a.standing) → PlanFits device plan w a.standing a.sent l → Tally device plan a l
    → CameWith H device plan (result_or w (is_over a.standing) given) l
comes_result H device plan given a None l h c e s f t = comes_over H device plan given a.standing a.sent l h c.over t.sent (s refl) f
comes_result H device plan given a (Some r) l h c e s f t = record { n = c.n; judged = c.own; later = f.later; before = f.before; taken = f.taken; why = f.why }

comes_test : (H : Sign → Type 0) (device : ℕ) (plan : Plan) (given : Sign) (a : Attempt) (u : Bool) (l : List Moment) → H given → awaits_nothing a.conn ≡ u → (a.wrong ≡ None → StandsWith (awaits a.conn) a.standing) → Tally device plan a l
    → CameWith H device plan (if u then result_or a.wrong (is_over a.standing) given else Failed given) l
comes_test H device plan given a true l h u s t =
    comes_result H device plan given a a.wrong l h (calm_at device plan a a.conn l refl u t) refl (λ e. subst (λ (b : Bool). StandsWith b a.standing) (isnt_awaited a.conn u) (s e)) t.stands t
comes_test H device plan given a false l h u s t = (h, unfinished_at device plan a a.conn l refl u s t)

pub comes_with : (H : Sign → Type 0) (device : ℕ) (plan : Plan) (given : Sign) (a : Attempt) (l : List Moment) → H given → (a.wrong ≡ None → StandsWith (awaits a.conn) a.standing) → Tally device plan a l → CameWith H device plan (comes_to a given) l
comes_with H device plan given a l h s t = comes_test H device plan given a (awaits_nothing a.conn) l h refl s t

-- ---- and so the stretch shows it

pub shows_with : (device : ℕ) (plan : Plan) (o : Outcome) (x s : List Moment) → session (course device x) ≡ s → CameWith (λ (why : Sign). Holds device why x) device plan o s → Shows device plan o x
shows_with device plan (Failed why) x s e c = (c.0, subst (IsUnfinished device plan) (sym e) c.1)
shows_with device plan Done x s e c = subst (WentThrough device plan) (sym e) c
shows_with device plan (Refused w) x s e c = subst (IsRefused device plan w.op w.got w.expected) (sym e) c

-- a session that ended with this moment
pub came_left : (device : ℕ) (plan : Plan) (o : Outcome) (x s : List Moment) → course device x ≡ Left s → CameWith (λ (why : Sign). Holds device why x) device plan o s → CameTo device plan o x
came_left device plan o x s e c = record { final = subst IsFinal (sym e) tt; shows = shows_with device plan o x s (ap session e) c }

pub came_at_end : (device : ℕ) (plan : Plan) (given : Sign) (a : Attempt) (m : Moment) (x l : List Moment) → course device x ≡ InSession l → ends_session device m l ≡ true → IsSame device m l → Holds device given (m ∷ x)
    → (a.wrong ≡ None → StandsWith (awaits a.conn) a.standing) → Tally device plan a l → CameTo device plan (comes_to a given) (m ∷ x)
came_at_end device plan given a m x l c e k h s t =
    came_left device plan (comes_to a given) (m ∷ x) (m ∷ l) (comes_to_end device m x l c e) (comes_with (λ (why : Sign). Holds device why (m ∷ x)) device plan given a (m ∷ l) h s (tally_kept device plan a m l k t))

-- ---- no T_Connect was confirmed without error

pub nothing_done : (device : ℕ) (plan : Plan) → plan ≢ Over → IsUnfinished device plan []
nothing_done device plan n = record { goes_on = λ h. n h; agrees = λ op got expected r. none_taken r.later got r.before r.taken }
  where
    none_taken : (later : List (List ℕ)) (got : List ℕ) (before : List (List ℕ)) → [] ≡ later ++ got ∷ before → ⊥
    none_taken [] got before e = cc e
    none_taken (x ∷ later) got before e = cc e

-- ---- it stays so

final_stays : (device : ℕ) (m : Moment) (c : Course) → IsFinal c → course_after device m c ≡ c
final_stays device m Unconfirmed f = absurd f
final_stays device m WithError f = refl
final_stays device m (InSession l) f = absurd f
final_stays device m (Left l) f = refl

course_stays : (device : ℕ) (m : Moment) (x : List Moment) → IsFinal (course device x) → course device (m ∷ x) ≡ course device x
course_stays device m x f = final_stays device m (course device x) f

holds_stay : (device : ℕ) (why : Sign) (m : Moment) (x : List Moment) → IsFinal (course device x) → Holds device why x → Holds device why (m ∷ x)
holds_stay device (sign.Silent ms) m x f h = subst (λ (c : Course). Once (SilentFor device ms) (session c)) (sym (course_stays device m x f)) h
holds_stay device sign.Closed m x f h = subst (λ (c : Course). Once (ClosesNow device) (session c)) (sym (course_stays device m x f)) h
holds_stay device sign.NoCon m x f h = course_stays device m x f ∙ h
holds_stay device sign.TunnelLost m x f h = Later h

pub came_stays : (device : ℕ) (plan : Plan) (o : Outcome) (m : Moment) (x : List Moment) → CameTo device plan o x → CameTo device plan o (m ∷ x)
came_stays device plan (Failed why) m x c = record { final = subst IsFinal (sym (course_stays device m x c.final)) c.final; shows = (holds_stay device why m x c.final c.shows.0, subst (λ (k : Course). IsUnfinished device plan (session k)) (sym (course_stays device m x c.final)) c.shows.1) }
came_stays device plan Done m x c = record { final = subst IsFinal (sym (course_stays device m x c.final)) c.final; shows = subst (λ (k : Course). WentThrough device plan (session k)) (sym (course_stays device m x c.final)) c.shows }
came_stays device plan (Refused w) m x c = record { final = subst IsFinal (sym (course_stays device m x c.final)) c.final; shows = subst (λ (k : Course). IsRefused device plan w.op w.got w.expected (session k)) (sym (course_stays device m x c.final)) c.shows }
