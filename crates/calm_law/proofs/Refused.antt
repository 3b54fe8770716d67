-- Where a plan went through no answer was refused; so a job whose device gives each wanted answer isn't refused on a calm line.
use Rattle.std.proofs.Common.{◌≡◌, ℕ, zero, suc, ◌≤◌, ◌⊎◌, List, [], ◌∷◌, ◌++◌, length, reverse, true, false, Option, Some, None, sym, ◌∙◌, ap, subst, inl, inr, arith, append_assoc}
use Rattle.std.proofs.lemmas.List.{reverse-append}
use Rattle.knx_model.specs.declared.address.IndAddr.{IndAddr}
use Rattle.knx_model.specs.declared.frames.cemi.Ldata.{Ldata}
use Rattle.knx_model.specs.declared.plan.Expect.TheVariants.{AckOnly, Is, Note}
use Rattle.knx_model.specs.DeviceState.{DeviceState}
use Rattle.knx_model.specs.Plans.{Plan, Over, Asks}
use Rattle.line_model.specs.Moments.{Moment, stretches, Course, Unconfirmed, WithError, InSession, Left, course, session, acknowledged, answers, services}
use Rattle.line_model.specs.Progress.{Reaches, Differs}
use Rattle.line_model.specs.Told.{last_stretch, WentThrough, AnsweredWrong, Unawaited, IsRefused}
use Rattle.line_model.specs.Waiting.{IsResting}
use Rattle.calm_law.proofs.Phases.{Phase, Rests}
use Rattle.calm_law.proofs.Books.{tried, IsLeft, Decided, Books}
use Rattle.calm_law.proofs.Rows.{Willing, Row}
use Rattle.calm_law.proofs.JoinedTime.{phase_rests}

abbrev Texts : Type 0
Texts = List (List ℕ)

-- ---- a plan that goes on past an answer wants it

head_not : (plan : Plan) (n : ℕ) (later : Texts) (op : ℕ) (got expected : List ℕ) (y : Plan) → Differs plan op got expected → Reaches plan n (got ∷ later) y → ⊥
head_not Over zero later op got expected y d r = d
head_not Over (suc n) later op got expected y d r = d
head_not (Asks place apdu AckOnly next) n later op got expected y d r = d
head_not (Asks place apdu (Is wanted) next) zero later op got expected y d r = r
head_not (Asks place apdu (Is wanted) next) (suc n) later op got expected y d r = d.1 r.0
head_not (Asks place apdu Note next) zero later op got expected y d r = r
head_not (Asks place apdu Note next) (suc n) later op got expected y d r = let c : true ≡ false = sym r.0 ∙ d.1 in cc

clashes : (plan : Plan) (k n : ℕ) (before later : Texts) (op : ℕ) (got expected : List ℕ) (left y : Plan) → Reaches plan k before left → Differs left op got expected → Reaches plan n (before ++ got ∷ later) y → ⊥
clashes plan zero n [] later op got expected left y h d r = head_not left n later op got expected y d (subst (λ z. Reaches z n (got ∷ later) y) h r)
clashes plan zero n (x ∷ before) later op got expected left y h d r = h
clashes Over (suc k) n before later op got expected left y h d r = h
clashes (Asks place apdu AckOnly next) (suc k) zero [] later op got expected left y h d r = r
clashes (Asks place apdu AckOnly next) (suc k) zero (x ∷ before) later op got expected left y h d r = r
clashes (Asks place apdu AckOnly next) (suc k) (suc n) [] later op got expected left y h d r = clashes (next None) k n [] later op got expected left y h d r
clashes (Asks place apdu AckOnly next) (suc k) (suc n) (x ∷ before) later op got expected left y h d r = clashes (next None) k n (x ∷ before) later op got expected left y h d r
clashes (Asks place apdu (Is wanted) next) (suc k) n [] later op got expected left y h d r = h
clashes (Asks place apdu (Is wanted) next) (suc k) zero (x ∷ before) later op got expected left y h d r = r
clashes (Asks place apdu (Is wanted) next) (suc k) (suc n) (x ∷ before) later op got expected left y h d r = clashes (next (Some x)) k n before later op got expected left y h.1 d r.1
clashes (Asks place apdu Note next) (suc k) n [] later op got expected left y h d r = h
clashes (Asks place apdu Note next) (suc k) zero (x ∷ before) later op got expected left y h d r = r
clashes (Asks place apdu Note next) (suc k) (suc n) (x ∷ before) later op got expected left y h d r = clashes (next (Some x)) k n before later op got expected left y h.1 d r.1

-- one more answer than so many operations take
too_many : (plan : Plan) (n k : ℕ) (got later : Texts) (one : List ℕ) (x y : Plan) → k ≤ n → Reaches plan n got x → Reaches plan k (got ++ one ∷ later) y → ⊥
too_many plan zero zero [] later one x y le h g = g
too_many plan zero zero (z ∷ got) later one x y le h g = h
too_many plan zero (suc k) got later one x y le h g = omega (arith, le)
too_many plan (suc n) zero [] later one x y le h g = g
too_many plan (suc n) zero (z ∷ got) later one x y le h g = g
too_many Over (suc n) (suc k) got later one x y le h g = h
too_many (Asks place apdu AckOnly next) (suc n) (suc k) [] later one x y le h g = too_many (next None) n k [] later one x y (omega (arith, le)) h g
too_many (Asks place apdu AckOnly next) (suc n) (suc k) (z ∷ got) later one x y le h g = too_many (next None) n k (z ∷ got) later one x y (omega (arith, le)) h g
too_many (Asks place apdu (Is wanted) next) (suc n) (suc k) [] later one x y le h g = h
too_many (Asks place apdu (Is wanted) next) (suc n) (suc k) (z ∷ got) later one x y le h g = too_many (next (Some z)) n k got later one x y (omega (arith, le)) h.1 g.1
too_many (Asks place apdu Note next) (suc n) (suc k) [] later one x y le h g = h
too_many (Asks place apdu Note next) (suc n) (suc k) (z ∷ got) later one x y le h g = too_many (next (Some z)) n k got later one x y (omega (arith, le)) h.1 g.1

-- ---- so no answer of a session that went through is refused

module _ (a : ℕ) (plan : Plan) (op : ℕ) (got expected : List ℕ) (s : List Moment) where
  through_not : WentThrough a plan s → acknowledged a s ≤ length (services a s) → IsRefused a plan op got expected s → ⊥
  through_not through counted r = by_why r.why where
    in_order : reverse (answers a s) ≡ reverse r.before ++ got ∷ reverse r.later
    in_order =
        ap (λ (z : Texts). reverse z) r.taken ∙ reverse-append r.later (got ∷ r.before) ∙ ap (λ z. z ++ reverse r.later) (reverse-append (got ∷ []) r.before) ∙ append_assoc (reverse r.before) (got ∷ []) (reverse r.later)

    all : Reaches plan (acknowledged a s) (reverse r.before ++ got ∷ reverse r.later) Over
    all = subst (λ z. Reaches plan (acknowledged a s) z Over) in_order through

    by_why : AnsweredWrong a plan op got expected r.before s ⊎ Unawaited a plan op expected r.before s → ⊥
    by_why (inl w) = clashes plan w.earlier (acknowledged a s) (reverse r.before) (reverse r.later) op got expected w.left Over w.so_far w.differs all
    by_why (inr w) = too_many plan (length (services a s)) (acknowledged a s) (reverse r.before) (reverse r.later) got w.left Over counted w.so_far all

  none_not : IsRefused a plan op got expected [] → ⊥
  none_not r = by_later r.later r.taken where
    by_later : (later : Texts) → [] ≡ later ++ got ∷ r.before → ⊥
    by_later [] e = cc
    by_later (x ∷ later) e = cc

-- ---- where no attempt runs at a willing device

pub refused_not : (me : IndAddr) (a : ℕ) (plan : Plan) (old : Option DeviceState) (l : List Moment) (fly : Option Ldata) (q : List Ldata) (d : DeviceState) (now op : ℕ) (got expected : List ℕ) → Row me a plan old l fly q d now → IsResting (tried a plan l) → Willing plan old
    → IsRefused a plan op got expected (session (course a (last_stretch (stretches a l)))) → ⊥
refused_not me a plan old l fly q d now op got expected row rest willing r = rested row.phase (phase_rests me d.address plan row.k row.n row.e now row.phase (subst IsResting row.line.attempts_are rest)) row.books.0 where
  by_course : (c : Course) → IsLeft (Decided (Willing plan old) a plan) c → IsRefused a plan op got expected (session c) → ⊥
  by_course Unconfirmed h r = h
  by_course WithError h r = h
  by_course (InSession s) h r = h
  by_course (Left s) h r = through_not a plan op got expected s (h.through willing) h.counted r

  by_books : Books (Willing plan old) a plan row.k row.n row.e Rests l → ⊥
  by_books (inl b) = none_not a plan op got expected [] (subst (λ z. IsRefused a plan op got expected (session (course a (last_stretch z)))) b.1 r)
  by_books (inr (one, o)) = by_course (course a o.stretch) o.so (subst (λ z. IsRefused a plan op got expected (session (course a (last_stretch z)))) o.is r)

  rested : (phase : Phase) → phase ≡ Rests → Books (Willing plan old) a plan row.k row.n row.e phase l → ⊥
  rested phase e b = by_books (subst (λ z. Books (Willing plan old) a plan row.k row.n row.e z l) e b)
