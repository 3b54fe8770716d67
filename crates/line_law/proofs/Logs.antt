-- Which job of a device is held, by the entries up to a moment; and the moments since it was taken.
use Rattle.std.proofs.Common.{◌≡◌, ℕ, suc, ◌<◌, ◌≤◌, ◌⊎◌, List, [], ◌∷◌, length, Bool, true, false, ◌&&◌, cond, Option, Some, None, refl, sym, ◌∙◌, ap, subst, inl, inr, arith}
use Rattle.std.specs.Prelude.{◌==◌, nat_lt, nat_le}
use Rattle.std.specs.List.{filter}
use Rattle.std.proofs.lemmas.Bool.{eqb-true}
use Rattle.line_model.specs.declared.group.GroupTurn.{GroupTurn}
use Rattle.line_model.specs.declared.log.LogEntry.{LogEntry}
use Rattle.line_model.specs.declared.log.LogWhat.{LogWhat}
use Rattle.line_model.specs.declared.log.LogWhat.TheVariants.{Took, Done, Failed, Refused, Sent, Lost}
use Rattle.line_model.specs.Log.{Job, JobState, Untaken, Held, Over, job_of, log_before, takes_it, ends_it, state_after, state_of, latest, IsLog, IsFree, SameDevice, OneDownloaderPerDevice}
use Rattle.line_model.specs.Moments.{Moment, moments, between}
use Rattle.line_model.specs.Record.{Item, placed_if, placed, item_at}
use Rattle.line_model.specs.World.{World, Event, now, replay}
use Rattle.tunnel_law.proofs.Inside.{Every}

-- ---- one entry more

pub before_in : (n : ℕ) (e : LogEntry) (log : List LogEntry) (b : Bool) → nat_lt e.at n ≡ b → log_before n (e ∷ log) ≡ cond b (e ∷ log_before n log) (log_before n log)
before_in n e log b h = ap (λ z. cond {A = List LogEntry} z (e ∷ log_before n log) (log_before n log)) h

pub after_other : (k : ℕ) (e : LogEntry) (s : JobState) → takes_it k e.what ≡ false → ends_it k e.what ≡ false → state_after k e s ≡ s
after_other k e s t d = rw t (rw d refl)

-- what an entry is to a job
pub data IsTo (k : ℕ) (e : LogEntry) : Type 0 where
  TakesIt : takes_it k e.what ≡ true → IsTo k e
  EndsIt : takes_it k e.what ≡ false → ends_it k e.what ≡ true → IsTo k e
  Else : takes_it k e.what ≡ false → ends_it k e.what ≡ false → IsTo k e

pub is_to : (k : ℕ) (e : LogEntry) → IsTo k e
is_to k e = by_both (takes_it k e.what) (ends_it k e.what) refl refl where
  by_both : (t d : Bool) → takes_it k e.what ≡ t → ends_it k e.what ≡ d → IsTo k e
  by_both true d p q = TakesIt p
  by_both false true p q = EndsIt p q
  by_both false false p q = Else p q

pub took_state : (k : ℕ) (e : LogEntry) (s : JobState) (worker since : ℕ) → takes_it k e.what ≡ true → state_after k e s ≡ Held worker since → since ≡ e.at
took_state k e s worker since t h = let z : Held e.worker e.at ≡ Held worker since = sym (let y : state_after k e s ≡ Held e.worker e.at = rw t refl in y) ∙ h in cc

pub ended_state : (k : ℕ) (e : LogEntry) (s : JobState) (worker since : ℕ) → takes_it k e.what ≡ false → ends_it k e.what ≡ true → state_after k e s ≡ Held worker since → ⊥
ended_state k e s worker since t d h = let z : Over ≡ Held worker since = sym (let y : state_after k e s ≡ Over = rw t (rw d refl) in y) ∙ h in cc

-- ---- a job was taken before the moment

pub less : (m n : ℕ) → (nat_lt m n ≡ true) ⊎ (nat_lt m n ≡ false)
less m n = by_bool (nat_lt m n) refl where
  by_bool : (b : Bool) → nat_lt m n ≡ b → (nat_lt m n ≡ true) ⊎ (nat_lt m n ≡ false)
  by_bool true e = inl e
  by_bool false e = inr e

pub held_before : (k n worker since : ℕ) (log : List LogEntry) → state_of k (log_before (suc n) log) ≡ Held worker since → since ≤ n
held_before k n worker since [] h = absurd (let z : Untaken ≡ Held worker since = h in cc)
held_before k n worker since (e ∷ log) h =
    elim (less e.at (suc n)) [
      | inl lt ↦ by_entry lt (is_to k e) (ap (state_of k) (sym (before_in (suc n) e log true lt)) ∙ h) (held_before k n worker since log)
      | inr ge ↦ held_before k n worker since log (ap (state_of k) (sym (before_in (suc n) e log false ge)) ∙ h)
    ]
  where
    by_entry : nat_lt e.at (suc n) ≡ true → IsTo k e → state_after k e (state_of k (log_before (suc n) log)) ≡ Held worker since → (state_of k (log_before (suc n) log) ≡ Held worker since → since ≤ n) → since ≤ n
    by_entry lt (TakesIt t) g f = let at : since ≡ e.at = took_state k e _ worker since t g in grind (arith, lt, at)
    by_entry lt (EndsIt t d) g f = absurd (ended_state k e _ worker since t d g)
    by_entry lt (Else t d) g f = f (sym (after_other k e _ t d) ∙ g)

-- one that is held later was held before, or is taken at that moment
pub held_later : (k n worker since : ℕ) (log : List LogEntry) → state_of k (log_before (suc (suc n)) log) ≡ Held worker since → (since ≡ suc n) ⊎ (state_of k (log_before (suc n) log) ≡ Held worker since)
held_later k n worker since [] h = absurd (let z : Untaken ≡ Held worker since = h in cc)
held_later k n worker since (e ∷ log) h =
    elim (less e.at (suc n)) [
      | inl lt ↦
          (let more : nat_lt e.at (suc (suc n)) ≡ true = grind (arith, lt) in
          by_both lt (is_to k e) (ap (state_of k) (sym (before_in (suc (suc n)) e log true more)) ∙ h) (held_later k n worker since log))
      | inr ge ↦
          elim (less e.at (suc (suc n))) [
            | inl lt ↦ by_one ge lt (is_to k e) (ap (state_of k) (sym (before_in (suc (suc n)) e log true lt)) ∙ h) (held_later k n worker since log)
            | inr more ↦ elim (held_later k n worker since log (ap (state_of k) (sym (before_in (suc (suc n)) e log false more)) ∙ h)) [ inl at ↦ inl at | inr was ↦ inr (ap (state_of k) (before_in (suc n) e log false ge) ∙ was) ]
          ]
    ]
  where
    by_both : nat_lt e.at (suc n) ≡ true → IsTo k e → state_after k e (state_of k (log_before (suc (suc n)) log)) ≡ Held worker since
        → (state_of k (log_before (suc (suc n)) log) ≡ Held worker since → (since ≡ suc n) ⊎ (state_of k (log_before (suc n) log) ≡ Held worker since)) → (since ≡ suc n) ⊎ (state_of k (log_before (suc n) (e ∷ log)) ≡ Held worker since)
    by_both lt (TakesIt t) g f = inr (ap (state_of k) (before_in (suc n) e log true lt) ∙ (let y : state_after k e (state_of k (log_before (suc n) log)) ≡ state_after k e (state_of k (log_before (suc (suc n)) log)) = rw t refl in y) ∙ g)
    by_both lt (EndsIt t d) g f = absurd (ended_state k e _ worker since t d g)
    by_both lt (Else t d) g f =
        elim (f (sym (after_other k e _ t d) ∙ g)) [ inl at ↦ inl at | inr was ↦ inr (ap (state_of k) (before_in (suc n) e log true lt) ∙ after_other k e _ t d ∙ was) ]

    by_one : nat_lt e.at (suc n) ≡ false → nat_lt e.at (suc (suc n)) ≡ true → IsTo k e → state_after k e (state_of k (log_before (suc (suc n)) log)) ≡ Held worker since
        → (state_of k (log_before (suc (suc n)) log) ≡ Held worker since → (since ≡ suc n) ⊎ (state_of k (log_before (suc n) log) ≡ Held worker since)) → (since ≡ suc n) ⊎ (state_of k (log_before (suc n) (e ∷ log)) ≡ Held worker since)
    by_one ge lt (TakesIt t) g f = inl (let at : since ≡ e.at = took_state k e _ worker since t g in grind (arith, lt, ge, at))
    by_one ge lt (EndsIt t d) g f = absurd (ended_state k e _ worker since t d g)
    by_one ge lt (Else t d) g f = elim (f (sym (after_other k e _ t d) ∙ g)) [ inl at ↦ inl at | inr was ↦ inr (ap (state_of k) (before_in (suc n) e log false ge) ∙ was) ]

-- ---- one at most of each device

pub all_before : (jobs : List Job) (turns : List GroupTurn) (count n m : ℕ) (log : List LogEntry) → IsLog jobs turns count log → latest log ≤ m → m < n → log_before n log ≡ log
all_before jobs turns count n m [] h l lt = refl
all_before jobs turns count n m (e ∷ log) h l lt =
    let first : nat_lt e.at n ≡ true = grind (arith, l, lt) in
    before_in n e log true first ∙ ap (λ z. e ∷ z) (all_before jobs turns count n e.at log h.1 h.0.later (omega (arith, l, lt)))

taken_job : (k : ℕ) (what : LogWhat) → takes_it k what ≡ true → what ≡ Took k
taken_job k (Took j) h = ap (λ z. Took z) (eqb-true j k h)
taken_job k (Done j) h = absurd (cc)
taken_job k (Failed j signs) h = absurd (cc)
taken_job k (Refused j op got expected) h = absurd (cc)
taken_job k (Sent j) h = absurd (cc)
taken_job k (Lost j) h = absurd (cc)

-- after one was taken no other is held
module _ (jobs : List Job) (turns : List GroupTurn) (count n : ℕ) where
  taken_alone : (j k w s : ℕ) (e : LogEntry) (log : List LogEntry) → takes_it j e.what ≡ true → takes_it k e.what ≡ false → ends_it k e.what ≡ false → nat_lt e.at n ≡ true → IsLog jobs turns count (e ∷ log) → OneDownloaderPerDevice jobs (e ∷ log) → SameDevice (job_of jobs j) (job_of jobs k)
      → state_of k (log_before n (e ∷ log)) ≡ Held w s → ⊥
  taken_alone j k w s e log t no_take no_end lt h one same held =
      let is : e.what ≡ Took j = taken_job j e.what t in
      let free : IsFree jobs log j = subst (Rattle.line_model.specs.Log.TakesFree jobs log) is one.0 in
      let whole : log_before n log ≡ log = all_before jobs turns count n e.at log h.1 h.0.later (grind (arith, lt)) in
      free.alone k w s same (sym (after_other k e (state_of k log) no_take no_end) ∙ ap (λ z. state_after k e (state_of k z)) (sym whole) ∙ ap (state_of k) (sym (before_in n e log true lt)) ∙ held)

  not_both : (j k : ℕ) (what : LogWhat) → takes_it j what ≡ true → (j ≡ k → ⊥) → (takes_it k what ≡ false) × (ends_it k what ≡ false)
  not_both j k what t other = by_what what (taken_job j what t) where
    by_what : (x : LogWhat) → x ≡ Took j → (takes_it k x ≡ false) × (ends_it k x ≡ false)
    by_what x e = subst (λ (y : LogWhat). (takes_it k y ≡ false) × (ends_it k y ≡ false)) (sym e) (unlike (j == k) refl, refl) where
      unlike : (b : Bool) → (j == k) ≡ b → (j == k) ≡ false
      unlike true q = absurd (other (eqb-true j k q))
      unlike false q = q

  pub one_held : (j k w s w2 s2 : ℕ) (log : List LogEntry) → IsLog jobs turns count log → OneDownloaderPerDevice jobs log → SameDevice (job_of jobs j) (job_of jobs k) → SameDevice (job_of jobs k) (job_of jobs j) → (j ≡ k → ⊥)
      → state_of j (log_before n log) ≡ Held w s → state_of k (log_before n log) ≡ Held w2 s2 → ⊥
  one_held j k w s w2 s2 [] h one same back other a b = let z : Untaken ≡ Held w s = a in cc
  one_held j k w s w2 s2 (e ∷ log) h one same back other a b =
      elim (less e.at n) [
        | inl lt ↦ by_entry lt (is_to j e) (is_to k e) (one_held j k w s w2 s2 log h.1 one.1 same back other)
        | inr ge ↦ one_held j k w s w2 s2 log h.1 one.1 same back other (ap (state_of j) (sym (before_in n e log false ge)) ∙ a) (ap (state_of k) (sym (before_in n e log false ge)) ∙ b)
      ]
    where
      by_entry : nat_lt e.at n ≡ true → IsTo j e → IsTo k e → (state_of j (log_before n log) ≡ Held w s → state_of k (log_before n log) ≡ Held w2 s2 → ⊥) → ⊥
      by_entry lt (TakesIt t) x f = let q = not_both j k e.what t other in taken_alone j k w2 s2 e log t q.0 q.1 lt h one same b
      by_entry lt (EndsIt t d) x f = ended_state j e _ w s t d (ap (state_of j) (sym (before_in n e log true lt)) ∙ a)
      by_entry lt (Else t d) (TakesIt u) f = let q = not_both k j e.what u (λ z. other (sym z)) in taken_alone k j w s e log u q.0 q.1 lt h one back a
      by_entry lt (Else t d) (EndsIt u c) f = ended_state k e _ w2 s2 u c (ap (state_of k) (sym (before_in n e log true lt)) ∙ b)
      by_entry lt (Else t d) (Else u c) f =
          f (sym (after_other j e _ t d) ∙ ap (state_of j) (sym (before_in n e log true lt)) ∙ a) (sym (after_other k e _ u c) ∙ ap (state_of k) (sym (before_in n e log true lt)) ∙ b)

-- ---- the moments since a job was taken

abbrev pub after : ℕ → List Moment → List Moment
after since l = filter (λ (m : Moment). nat_lt since m.at) l

abbrev pub AreUpto : ℕ → List Moment → Type 0
AreUpto n l = Every (λ (m : Moment). m.at ≤ n) l

pub upto_more : (n : ℕ) (l : List Moment) → AreUpto n l → AreUpto (suc n) l
upto_more n [] h = tt
upto_more n (m ∷ l) h = (omega (arith, h.0), upto_more n l h.1)

-- all are up to a later place
pub between_after : (since n : ℕ) (l : List Moment) → AreUpto n l → between since n l ≡ after since l
between_after since n [] h = refl
between_after since n (m ∷ l) h = by_test (nat_lt since m.at) (nat_le m.at n) (grind (arith, h.0)) (between_after since n l h.1) where
  by_test : (b c : Bool) → c ≡ true → between since n l ≡ after since l → ◌≡◌ {A = List Moment} (cond (b && c) (m ∷ between since n l) (between since n l)) (cond b (m ∷ after since l) (after since l))
  by_test true true e q = ap (λ z. m ∷ z) q
  by_test true false e q = absurd (cc)
  by_test false c e q = q

-- nothing is since a place that is the last
pub after_last : (n : ℕ) (l : List Moment) → AreUpto n l → after n l ≡ []
after_last n [] h = refl
after_last n (m ∷ l) h = by_test (nat_lt n m.at) (grind (arith, h.0)) (after_last n l h.1) where
  by_test : (b : Bool) → b ≡ false → after n l ≡ [] → ◌≡◌ {A = List Moment} (cond b (m ∷ after n l) (after n l)) []
  by_test true e q = absurd (cc)
  by_test false e q = q

pub after_more : (since : ℕ) (m : Moment) (l : List Moment) → since < m.at → after since (m ∷ l) ≡ m ∷ after since l
after_more since m l h = let lt : nat_lt since m.at ≡ true = grind (arith, h) in rw lt refl

-- ---- places

pub moments_upto : (start : World) (events : List Event) → AreUpto (length events) (moments (placed start events))
moments_upto start [] = tt
moments_upto start (e ∷ events) = by_item (item_at (replay start events) e) (moments_upto start events) where
  by_item : (o : Option Item) → AreUpto (length events) (moments (placed start events)) → AreUpto (suc (length events)) (moments (placed_if (length (e ∷ events)) (now (replay start (e ∷ events))) o (placed start events)))
  by_item None q = upto_more (length events) (moments (placed start events)) q
  by_item (Some what) q = (omega arith, upto_more (length events) (moments (placed start events)) q)
