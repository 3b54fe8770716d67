-- One device of a calm line: what the record says of the one attempt of its job, by the phase. The client's number and the one that it expects are those
-- of the session, as many services were acknowledged and answered as the plan has gone on, and once the T_Disconnect is put the job is decided.
use Rattle.std.proofs.Common.{◌≡◌, ℕ, suc, ◌+◌, ◌%◌, ◌≤◌, ◌⊎◌, List, [], ◌∷◌, length, reverse, Bool, true, false, ◌||◌, cond, Option, Some, None, refl, sym, ◌∙◌, ap, subst, inl, inr}
use Rattle.knx_model.specs.declared.address.IndAddr.{IndAddr}
use Rattle.knx_model.specs.declared.connection.TransportFrame.{TransportFrame}
use Rattle.knx_model.specs.declared.connection.TransportFrame.TheVariants.{Connect}
use Rattle.knx_model.specs.Plans.{Plan, Asks}
use Rattle.line_model.specs.Attempts.{Attempts, Resting, begun, put_so, confirmed_so, heard_so, attempts}
use Rattle.line_model.specs.Moments.{Moment, confirmation_in, put_to, heard_from, Number, Next, Outstanding, number_put, number_heard, number, is_disconnect, closes_by, is_loss, ends_session, is_connect, grown, stretches, Course, Unconfirmed, WithError, InSession, Left, course_from, course_after, course, is_acknowledged, acknowledged, answer_expected, answers, service_put, services}
use Rattle.line_model.specs.Progress.{Reaches, last_of}
use Rattle.line_model.specs.Told.{WentThrough, AnsweredWrong, Unawaited, IsRefused}
use Rattle.calm_law.proofs.Phases.{Phase, Rests, Opens, Ready, Sends, Served, Awaits, Owes, Acks, Leaves}

-- ---- what a moment is to a device: what was put to it, whether a frame was confirmed, and what was taken of it; and no channel was lost

pub record Says (a : ℕ) (m : Moment) (p : Option TransportFrame) (c : Option Bool) (h : Option TransportFrame) : Type 0 where
  pub lasts : is_loss m.what ≡ false
  pub put : put_to a m.what ≡ p
  pub confirmed : confirmation_in m.what ≡ c
  pub heard : heard_from a m.what ≡ h

-- the attempts of a plan at the device
abbrev pub tried : ℕ → Plan → List Moment → Attempts
tried a plan l = attempts (record { raw = a }) plan l

pub tried_more : (a : ℕ) (plan : Plan) (m : Moment) (l : List Moment) (p : Option TransportFrame) (c : Option Bool) (h : Option TransportFrame) → Says a m p c h
    → tried a plan (m ∷ l) ≡ heard_so m.now (confirmed_so m.now (put_so (record { raw = a }) plan m.now (tried a plan l) p) c) h
tried_more a plan m l p c h s =
    let t : Attempts = tried a plan l in
    let device : IndAddr = record { raw = a } in
    ap (λ z. cond {A = Attempts} z (Resting (begun t)) (heard_so m.now (confirmed_so m.now (put_so device plan m.now t (put_to a m.what)) (confirmation_in m.what)) (heard_from a m.what))) s.lasts
    ∙ ap (λ z. heard_so m.now (confirmed_so m.now (put_so device plan m.now t z) (confirmation_in m.what)) (heard_from a m.what)) s.put
    ∙ ap (λ z. heard_so m.now (confirmed_so m.now (put_so device plan m.now t p) z) (heard_from a m.what)) s.confirmed
    ∙ ap (λ z. heard_so m.now (confirmed_so m.now (put_so device plan m.now t p) c) z) s.heard

-- ---- the counts of a session

abbrev pub outstanding : Number → ℕ
outstanding (Next n) = 0
outstanding (Outstanding n) = 1

-- the client's number, the one that it expects, and as many services as were acknowledged, and the outstanding one
pub record Stands (a : ℕ) (o : Number) (e : ℕ) (s : List Moment) : Type 0 where
  pub number_is : number a s ≡ o
  pub expected_is : e ≡ length (answers a s) % 16
  pub asked_is : length (services a s) ≡ acknowledged a s + outstanding o

abbrev pub IsAt : ℕ → Plan → Plan → List Moment → Type 0
IsAt a plan left s = Reaches plan (acknowledged a s) (reverse (answers a s)) left

-- the operation that is acknowledged last lacks its answer
abbrev pub Lacks : ℕ → Plan → Plan → List Moment → Type 0
Lacks a plan left s = (k : ℕ) × (suc k ≡ acknowledged a s) × Reaches plan k (reverse (answers a s)) left

-- an answer wasn't the wanted one
abbrev pub Refusal : ℕ → Plan → List Moment → Type 0
Refusal a plan s = (op : ℕ) × (got : List ℕ) × (expected : List ℕ) × IsRefused a plan op got expected s

abbrev pub GoesSo : ℕ → Plan → Bool → Plan → List Moment → Type 0
GoesSo a plan true left s = Refusal a plan s
GoesSo a plan false left s = IsAt a plan left s

-- the plan went through or an answer was refused, and went through where W says that none is
pub record Decided (W : Type 0) (a : ℕ) (plan : Plan) (s : List Moment) : Type 0 where
  pub which : WentThrough a plan s ⊎ Refusal a plan s
  pub through : W → WentThrough a plan s
  pub counted : acknowledged a s ≤ length (services a s)

-- in a session, by the phase
abbrev pub InSo : ℕ → Plan → ℕ → ℕ → Phase → List Moment → Type 0
InSo a plan n e Rests s = ⊥
InSo a plan n e (Opens fly) s = ⊥
InSo a plan n e (Ready left closing) s = Stands a (Next n) e s × GoesSo a plan closing left s
InSo a plan n e (Sends place apdu expect next) s = Stands a (Outstanding n) e s × IsAt a plan (Asks place apdu expect next) s
InSo a plan n e (Served told place apdu expect next o) s = Stands a (Outstanding n) e s × IsAt a plan (Asks place apdu expect next) s
InSo a plan n e (Awaits place apdu expect next v) s = Stands a (Next n) e s × Lacks a plan (Asks place apdu expect next) s
InSo a plan n e (Owes left closing v m) s = Stands a (Next n) e s × GoesSo a plan closing left s
InSo a plan n e (Acks fly left closing v m) s = Stands a (Next n) e s × GoesSo a plan closing left s
InSo a plan n e (Leaves fly left) s = ⊥

-- ---- the one stretch

pub record One (a : ℕ) (l : List Moment) (P : Course → Type 0) : Type 0 where
  pub stretch : List Moment
  pub is : stretches a l ≡ stretch ∷ []
  pub so : P (course a stretch)

abbrev pub IsOpening : Course → Type 0
IsOpening Unconfirmed = Unit {0}
IsOpening WithError = ⊥
IsOpening (InSession s) = ⊥
IsOpening (Left s) = ⊥

abbrev pub IsIn : (List Moment → Type 0) → Course → Type 0
IsIn P Unconfirmed = ⊥
IsIn P WithError = ⊥
IsIn P (InSession s) = P s
IsIn P (Left s) = ⊥

abbrev pub IsLeft : (List Moment → Type 0) → Course → Type 0
IsLeft P Unconfirmed = ⊥
IsLeft P WithError = ⊥
IsLeft P (InSession s) = ⊥
IsLeft P (Left s) = P s

abbrev pub CourseIs : Type 0 → ℕ → Plan → ℕ → ℕ → Phase → Course → Type 0
CourseIs W a plan n e Rests c = IsLeft (Decided W a plan) c
CourseIs W a plan n e (Opens fly) c = IsOpening c
CourseIs W a plan n e (Ready left closing) c = IsIn (InSo a plan n e (Ready left closing)) c
CourseIs W a plan n e (Sends place apdu expect next) c = IsIn (InSo a plan n e (Sends place apdu expect next)) c
CourseIs W a plan n e (Served told place apdu expect next o) c = IsIn (InSo a plan n e (Served told place apdu expect next o)) c
CourseIs W a plan n e (Awaits place apdu expect next v) c = IsIn (InSo a plan n e (Awaits place apdu expect next v)) c
CourseIs W a plan n e (Owes left closing v m) c = IsIn (InSo a plan n e (Owes left closing v m)) c
CourseIs W a plan n e (Acks fly left closing v m) c = IsIn (InSo a plan n e (Acks fly left closing v m)) c
CourseIs W a plan n e (Leaves fly left) c = IsLeft (Decided W a plan) c

-- k attempts began: none or this one
abbrev pub NotBegun : ℕ → ℕ → Phase → List Moment → Type 0
NotBegun a k Rests l = (k ≡ 0) × (stretches a l ≡ [])
NotBegun a k phase l = ⊥

abbrev pub Books : Type 0 → ℕ → Plan → ℕ → ℕ → ℕ → Phase → List Moment → Type 0
Books W a plan k n e phase l = NotBegun a k phase l ⊎ ((k ≡ 1) × One a l (CourseIs W a plan n e phase))

-- ---- what a moment does to the counts

module _ (a : ℕ) (m : Moment) (p : Option TransportFrame) (c : Option Bool) (h : Option TransportFrame) (says : Says a m p c h) where
  pub numbers : (s : List Moment) → number a (m ∷ s) ≡ number_heard h (number_put p (number a s))
  numbers s = ap (λ z. number_heard z (number_put (put_to a m.what) (number a s))) says.heard ∙ ap (λ z. number_heard h (number_put z (number a s))) says.put

  pub ackeds : (s : List Moment) → acknowledged a (m ∷ s) ≡ cond (is_acknowledged h (number a s)) (suc (acknowledged a s)) (acknowledged a s)
  ackeds s = ap (λ z. cond {A = ℕ} (is_acknowledged z (number a s)) (suc (acknowledged a s)) (acknowledged a s)) says.heard

  pub answereds : (s : List Moment) → answers a (m ∷ s) ≡ answer_expected h (length (answers a s)) (answers a s)
  answereds s = ap (λ z. answer_expected z (length (answers a s)) (answers a s)) says.heard

  pub askeds : (s : List Moment) → services a (m ∷ s) ≡ service_put p (number a s) (services a s)
  askeds s = ap (λ z. service_put z (number a s) (services a s)) says.put

  pub ends : (s : List Moment) → ends_session a m s ≡ (is_disconnect p || closes_by h (number a s))
  ends s =
      ap (λ z. z || is_disconnect (put_to a m.what) || closes_by (heard_from a m.what) (number a s)) says.lasts
      ∙ ap (λ z. is_disconnect z || closes_by (heard_from a m.what) (number a s)) says.put ∙ ap (λ z. is_disconnect p || closes_by z (number a s)) says.heard

-- nothing of them changes
pub record Same (a : ℕ) (s t : List Moment) : Type 0 where
  pub numbers_are : number a t ≡ number a s
  pub ackeds_are : acknowledged a t ≡ acknowledged a s
  pub answers_are : answers a t ≡ answers a s
  pub services_are : services a t ≡ services a s

module _ (a : ℕ) (plan : Plan) (s t : List Moment) (same : Same a s t) where
  pub same_stands : (o : Number) (e : ℕ) → Stands a o e s → Stands a o e t
  same_stands o e h =
      record {
        number_is = same.numbers_are ∙ h.number_is;
        expected_is = h.expected_is ∙ ap (λ (z : List (List ℕ)). length z % 16) (sym same.answers_are);
        asked_is = ap (λ (z : List (List ℕ)). length z) same.services_are ∙ h.asked_is ∙ ap (λ z. z + outstanding o) (sym same.ackeds_are);
      }

  pub same_at : (left : Plan) → IsAt a plan left s → IsAt a plan left t
  same_at left h = subst (λ z. Reaches plan z (reverse (answers a t)) left) (sym same.ackeds_are) (subst (λ z. Reaches plan (acknowledged a s) (reverse z) left) (sym same.answers_are) h)

  same_lacks : (left : Plan) → Lacks a plan left s → Lacks a plan left t
  same_lacks left (k, last, r) = (k, last ∙ sym same.ackeds_are, subst (λ z. Reaches plan k (reverse z) left) (sym same.answers_are) r)

  same_why : (op : ℕ) (got expected : List ℕ) (before : List (List ℕ)) → AnsweredWrong a plan op got expected before s ⊎ Unawaited a plan op expected before s → AnsweredWrong a plan op got expected before t ⊎ Unawaited a plan op expected before t
  same_why op got expected before (inl w) = inl (record { earlier = w.earlier; last = ap (λ (z : List (List ℕ)). length z) same.services_are ∙ w.last; left = w.left; so_far = w.so_far; differs = w.differs })
  same_why op got expected before (inr w) =
      inr (record {
        empty = w.empty;
        left = w.left;
        so_far = subst (λ (z : List (List ℕ)). Reaches plan (length z) (reverse before) w.left) (sym same.services_are) w.so_far;
        last = w.last ∙ ap (λ (z : List (List ℕ)). last_of 0 plan (length z) (reverse before)) (sym same.services_are);
      })

  pub same_refusal : Refusal a plan s → Refusal a plan t
  same_refusal (op, got, expected, r) =
      (op, got, expected, record { n = r.n; judged = same.numbers_are ∙ r.judged; later = r.later; before = r.before; taken = same.answers_are ∙ r.taken; why = same_why op got expected r.before r.why })

  pub same_goes : (closing : Bool) (left : Plan) → GoesSo a plan closing left s → GoesSo a plan closing left t
  same_goes true left h = same_refusal h
  same_goes false left h = same_at left h

  pub same_in : (n e : ℕ) (phase : Phase) → InSo a plan n e phase s → InSo a plan n e phase t
  same_in n e Rests h = h
  same_in n e (Opens fly) h = h
  same_in n e (Ready left closing) h = (same_stands (Next n) e h.0, same_goes closing left h.1)
  same_in n e (Sends place apdu expect next) h = (same_stands (Outstanding n) e h.0, same_at (Asks place apdu expect next) h.1)
  same_in n e (Served told place apdu expect next o) h = (same_stands (Outstanding n) e h.0, same_at (Asks place apdu expect next) h.1)
  same_in n e (Awaits place apdu expect next v) h = (same_stands (Next n) e h.0, same_lacks (Asks place apdu expect next) h.1)
  same_in n e (Owes left closing v m) h = (same_stands (Next n) e h.0, same_goes closing left h.1)
  same_in n e (Acks fly left closing v m) h = (same_stands (Next n) e h.0, same_goes closing left h.1)
  same_in n e (Leaves fly left) h = h

-- ---- the stretch grows

module _ (a : ℕ) (m : Moment) (l : List Moment) where
  not_connect : is_connect (put_to a m.what) ≡ false → stretches a (m ∷ l) ≡ grown m (stretches a l)
  not_connect n = ap (λ b. cond {A = List (List Moment)} b ([] ∷ stretches a l) (grown m (stretches a l))) n

  pub one_more : (P Q : Course → Type 0) → is_connect (put_to a m.what) ≡ false → ((c : Course) → P c → Q (course_after a m c)) → One a l P → One a (m ∷ l) Q
  one_more P Q n f o = record { stretch = m ∷ o.stretch; is = not_connect n ∙ ap (grown m) o.is; so = f (course a o.stretch) o.so }

  pub none_more : is_connect (put_to a m.what) ≡ false → stretches a l ≡ [] → stretches a (m ∷ l) ≡ []
  none_more n h = not_connect n ∙ ap (grown m) h

  -- an attempt begins
  pub one_begins : (P : Course → Type 0) → put_to a m.what ≡ Some Connect → stretches a l ≡ [] → P Unconfirmed → One a (m ∷ l) P
  one_begins P put none p =
      record { stretch = []; is = ap (λ z. cond {A = List (List Moment)} (is_connect z) ([] ∷ stretches a l) (grown m (stretches a l))) put ∙ ap (λ z. [] ∷ z) none; so = p }

module _ (a : ℕ) (m : Moment) (p : Option TransportFrame) (c : Option Bool) (h : Option TransportFrame) (says : Says a m p c h) where
  pub in_on : (P Q : List Moment → Type 0) → ((s : List Moment) → P s → ((is_disconnect p || closes_by h (number a s)) ≡ false) × Q (m ∷ s)) → (x : Course) → IsIn P x → IsIn Q (course_after a m x)
  in_on P Q f Unconfirmed i = absurd i
  in_on P Q f WithError i = absurd i
  in_on P Q f (InSession s) i = let two = f s i in subst (λ b. IsIn Q (cond {A = Course} b (Left (m ∷ s)) (InSession (m ∷ s)))) (sym (ends a m p c h says s ∙ two.0)) two.1
  in_on P Q f (Left s) i = absurd i

  pub in_ends : (P Q : List Moment → Type 0) → ((s : List Moment) → P s → ((is_disconnect p || closes_by h (number a s)) ≡ true) × Q (m ∷ s)) → (x : Course) → IsIn P x → IsLeft Q (course_after a m x)
  in_ends P Q f Unconfirmed i = absurd i
  in_ends P Q f WithError i = absurd i
  in_ends P Q f (InSession s) i = let two = f s i in subst (λ b. IsLeft Q (cond {A = Course} b (Left (m ∷ s)) (InSession (m ∷ s)))) (sym (ends a m p c h says s ∙ two.0)) two.1
  in_ends P Q f (Left s) i = absurd i

  pub left_on : (P : List Moment → Type 0) → (x : Course) → IsLeft P x → IsLeft P (course_after a m x)
  left_on P Unconfirmed i = absurd i
  left_on P WithError i = absurd i
  left_on P (InSession s) i = absurd i
  left_on P (Left s) i = i

  unconfirmed_is : course_after a m Unconfirmed ≡ course_from c
  unconfirmed_is = ap (λ b. cond {A = Course} b (Left []) (course_from (confirmation_in m.what))) says.lasts ∙ ap course_from says.confirmed

  -- the T_Connect stays unconfirmed, or is confirmed
  pub opening_on : c ≡ None → (x : Course) → IsOpening x → IsOpening (course_after a m x)
  opening_on e Unconfirmed i = subst IsOpening (sym (unconfirmed_is ∙ ap course_from e)) tt
  opening_on e WithError i = absurd i
  opening_on e (InSession s) i = absurd i
  opening_on e (Left s) i = absurd i

  pub opened : (P : List Moment → Type 0) → c ≡ Some false → P [] → (x : Course) → IsOpening x → IsIn P (course_after a m x)
  opened P e q Unconfirmed i = subst (IsIn P) (sym (unconfirmed_is ∙ ap course_from e)) q
  opened P e q WithError i = absurd i
  opened P e q (InSession s) i = absurd i
  opened P e q (Left s) i = absurd i

-- ---- a moment that is nothing to the device, but for a confirmation perhaps

pub nothing_same : (a : ℕ) (m : Moment) (c : Option Bool) → Says a m None c None → (s : List Moment) → Same a s (m ∷ s)
nothing_same a m c says s = record { numbers_are = numbers a m None c None says s; ackeds_are = ackeds a m None c None says s; answers_are = answereds a m None c None says s; services_are = askeds a m None c None says s }

-- the T_Connect isn't on its way
abbrev pub IsntOpening : Phase → Type 0
IsntOpening (Opens fly) = ⊥
IsntOpening phase = Unit {0}

module _ (W : Type 0) (a : ℕ) (plan : Plan) (m : Moment) (c : Option Bool) (says : Says a m None c None) (n e : ℕ) where
  stays : (phase : Phase) (s : List Moment) → InSo a plan n e phase s → ((is_disconnect None || closes_by None (number a s)) ≡ false) × InSo a plan n e phase (m ∷ s)
  stays phase s h = (refl, same_in a plan s (m ∷ s) (nothing_same a m c says s) n e phase h)

  course_more : (phase : Phase) → (c ≡ None) ⊎ IsntOpening phase → (x : Course) → CourseIs W a plan n e phase x → CourseIs W a plan n e phase (course_after a m x)
  course_more Rests why = left_on a m None c None says (Decided W a plan)
  course_more (Opens fly) (inl none) = opening_on a m None c None says none
  course_more (Opens fly) (inr isnt) = absurd isnt
  course_more (Ready left closing) why = in_on a m None c None says _ _ (stays (Ready left closing))
  course_more (Sends place apdu expect next) why = in_on a m None c None says _ _ (stays (Sends place apdu expect next))
  course_more (Served told place apdu expect next o) why = in_on a m None c None says _ _ (stays (Served told place apdu expect next o))
  course_more (Awaits place apdu expect next v) why = in_on a m None c None says _ _ (stays (Awaits place apdu expect next v))
  course_more (Owes left closing v k) why = in_on a m None c None says _ _ (stays (Owes left closing v k))
  course_more (Acks fly left closing v k) why = in_on a m None c None says _ _ (stays (Acks fly left closing v k))
  course_more (Leaves fly left) why = left_on a m None c None says (Decided W a plan)

  nothing_put : is_connect (put_to a m.what) ≡ false
  nothing_put = ap is_connect says.put

  not_begun_more : (k : ℕ) (phase : Phase) (l : List Moment) → NotBegun a k phase l → NotBegun a k phase (m ∷ l)
  not_begun_more k Rests l h = (h.0, none_more a m l nothing_put h.1)
  not_begun_more k (Opens fly) l h = h
  not_begun_more k (Ready left closing) l h = h
  not_begun_more k (Sends place apdu expect next) l h = h
  not_begun_more k (Served told place apdu expect next o) l h = h
  not_begun_more k (Awaits place apdu expect next v) l h = h
  not_begun_more k (Owes left closing v j) l h = h
  not_begun_more k (Acks fly left closing v j) l h = h
  not_begun_more k (Leaves fly left) l h = h

  pub books_more : (k : ℕ) (phase : Phase) (l : List Moment) → (c ≡ None) ⊎ IsntOpening phase → Books W a plan k n e phase l → Books W a plan k n e phase (m ∷ l)
  books_more k phase l why (inl b) = inl (not_begun_more k phase l b)
  books_more k phase l why (inr (one, o)) = inr (one, one_more a m l (CourseIs W a plan n e phase) (CourseIs W a plan n e phase) nothing_put (course_more phase why) o)
