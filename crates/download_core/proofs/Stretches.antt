-- One moment more in the stretches of a job: which one it joins, and the time of a session.
use Rattle.std.proofs.Common.{◌≡◌, ℕ, Bool, true, false, List, [], ◌∷◌, Option, Some, None, refl, ap, sym, ◌∙◌, if◌then◌else◌}
use Rattle.knx_model.specs.Plans.{Plan}
use Rattle.line_model.specs.Moments.{Moment, is_loss, put_to, confirmation_in, is_connect, grown, stretches, Course, Unconfirmed, WithError, InSession, Left, course, course_from, course_after, ends_session}
use Rattle.line_model.specs.Signs.{EachHolds}
use Rattle.download_core.specs.declared.signs.Signs.{Signs}
use Rattle.download_core.specs.Attempt.{Phase, Resting, Running, Closing, Leaving, Ended}
use Rattle.download_core.specs.Record.{signs_of, PhaseFits, IsTime}
use Rattle.download_core.proofs.Fares.{Fares}
use Rattle.download_core.proofs.SentBy.{Timed}

-- ---- the last stretch grows, or a new one begins

grows : (t : Bool) (A B : List (List Moment)) → t ≡ false → (if t then A else B) ≡ B
grows true A B e = absurd (cc e)
grows false A B e = refl

begins : (t : Bool) (A B : List (List Moment)) → t ≡ true → (if t then A else B) ≡ A
begins true A B e = refl
begins false A B e = absurd (cc e)

pub grown_is : (device : ℕ) (m : Moment) (l : List Moment) → is_connect (put_to device m.what) ≡ false → stretches device (m ∷ l) ≡ grown m (stretches device l)
grown_is device m l e = grows (is_connect (put_to device m.what)) ([] ∷ stretches device l) (grown m (stretches device l)) e

pub begun_is : (device : ℕ) (m : Moment) (l : List Moment) → is_connect (put_to device m.what) ≡ true → stretches device (m ∷ l) ≡ [] ∷ stretches device l
begun_is device m l e = begins (is_connect (put_to device m.what)) ([] ∷ stretches device l) (grown m (stretches device l)) e

pub fares_fit : (device : ℕ) (plan : Plan) (signs : Signs) (phase : Phase) (x : List Moment) (past : List (List Moment)) → Fares device plan phase x → EachHolds device (signs_of signs) past → PhaseFits device plan signs phase (x ∷ past)
fares_fit device plan signs Resting x past f e = absurd f
fares_fit device plan signs (Running a) x past f e = (f, e)
fares_fit device plan signs (Closing flight outcome) x past f e = (f, e)
fares_fit device plan signs (Leaving outcome) x past f e = (f, e)
fares_fit device plan signs (Ended outcome) x past f e = (f, e)

-- ---- the newest moment of a session is that of its stretch, and of the record

pub record Begins (y : Moment) (x : List Moment) : Type 0 where
  pub rest : List Moment
  pub is : x ≡ y ∷ rest

from_none : (c : Option Bool) (y : Moment) (ys : List Moment) → course_from c ≡ InSession (y ∷ ys) → ⊥
from_none None y ys e = cc e
from_none (Some true) y ys e = cc e
from_none (Some false) y ys e = cc e

lost_none : (t : Bool) (c : Option Bool) (y : Moment) (ys : List Moment) → (if t then Left [] else course_from c) ≡ InSession (y ∷ ys) → ⊥
lost_none true c y ys e = cc e
lost_none false c y ys e = from_none c y ys e

session_head : (t : Bool) (m : Moment) (l : List Moment) (y : Moment) (ys : List Moment) → (if t then Left (m ∷ l) else InSession (m ∷ l)) ≡ InSession (y ∷ ys) → m ≡ y
session_head true m l y ys e = absurd (cc e)
session_head false m l y ys e = cc e

course_head_at : (device : ℕ) (m : Moment) (x : List Moment) (c : Course) (y : Moment) (ys : List Moment) → course_after device m c ≡ InSession (y ∷ ys) → Begins y (m ∷ x)
course_head_at device m x Unconfirmed y ys e = absurd (lost_none (is_loss m.what) (confirmation_in m.what) y ys e)
course_head_at device m x WithError y ys e = absurd (cc e)
course_head_at device m x (InSession l) y ys e = record { rest = x; is = ap (λ (k : Moment). k ∷ x) (session_head (ends_session device m l) m l y ys e) }
course_head_at device m x (Left l) y ys e = absurd (cc e)

course_head : (device : ℕ) (x : List Moment) (y : Moment) (ys : List Moment) → course device x ≡ InSession (y ∷ ys) → Begins y x
course_head device [] y ys e = absurd (cc e)
course_head device (m ∷ x) y ys e = course_head_at device m x (course device x) y ys e

grown_head : (m : Moment) (xs : List (List Moment)) (y : Moment) (ys : List Moment) (past : List (List Moment)) → grown m xs ≡ (y ∷ ys) ∷ past → m ≡ y
grown_head m [] y ys past e = absurd (cc e)
grown_head m (x ∷ xs) y ys past e = cc e

stretch_head : (t : Bool) (m : Moment) (xs : List (List Moment)) (y : Moment) (ys : List Moment) (past : List (List Moment)) → (if t then [] ∷ xs else grown m xs) ≡ (y ∷ ys) ∷ past → m ≡ y
stretch_head true m xs y ys past e = absurd (cc e)
stretch_head false m xs y ys past e = grown_head m xs y ys past e

newest : (device now : ℕ) (l : List Moment) (y : Moment) (ys : List Moment) (past : List (List Moment)) → stretches device l ≡ (y ∷ ys) ∷ past → IsTime now l → y.now ≡ now
newest device now [] y ys past e t = absurd (cc e)
newest device now (m ∷ l) y ys past e t = sym (ap (λ (k : Moment). k.now) (stretch_head (is_connect (put_to device m.what)) m (stretches device l) y ys past e)) ∙ t

pub session_timed : (device now : ℕ) (l x s : List Moment) (past : List (List Moment)) → stretches device l ≡ x ∷ past → course device x ≡ InSession s → IsTime now l → Timed now s
session_timed device now l x s past e c t =
    λ y ys is. let b = course_head device x y ys (c ∙ ap InSession is) in newest device now l y b.rest past (e ∙ ap (λ (k : List Moment). k ∷ past) b.is) t
