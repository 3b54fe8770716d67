-- Which job of a device is held, by the entries up to a moment; the moments since it was taken; and that what is finished stays so.
use Rattle.std.proofs.Common.{◌≡◌, ℕ, suc, ◌<◌, ◌≤◌, ◌⊎◌, List, [], ◌∷◌, ◌++◌, length, Bool, true, false, ◌&&◌, cond, Option, Some, None, refl, sym, ◌∙◌, ap, subst, inl, inr, arith, length-append}
use Rattle.std.specs.Prelude.{nat_lt, nat_le}
use Rattle.std.specs.List.{filter}
use Rattle.std.proofs.lemmas.Bool.{eqb-true}
use Rattle.line_model.specs.declared.group.GroupTurn.{GroupTurn}
use Rattle.line_model.specs.declared.log.LogEntry.{LogEntry}
use Rattle.line_model.specs.declared.log.LogWhat.{LogWhat}
use Rattle.line_model.specs.declared.log.LogWhat.TheVariants.{Took, Done, Failed, Refused, Sent, Lost}
use Rattle.line_model.specs.Log.{Job, JobState, Untaken, Held, Over, job_of, log_before, takes_it, ends_it, state_after, state_of, latest, IsLog}
use Rattle.line_model.specs.Moments.{Moment, moments, between}
use Rattle.line_model.specs.Record.{Item, placed_if, placed, item_at}
use Rattle.line_model.specs.World.{World, Event, now, replay}
use Rattle.line_model.proofs.Moments.{not_yet}
use Rattle.tunnel_law.proofs.Inside.{Every}

-- ---- the job of a device that is held

pub record HeldJob (jobs : List Job) (log : List LogEntry) (a : ℕ) : Type 0 where
  pub number : ℕ
  pub job : Job
  pub worker : ℕ
  pub since : ℕ
  pub there : job_of jobs number ≡ Some job
  pub of_device : job.device.raw ≡ a
  pub held : state_of number log ≡ Held worker since

-- ---- what an entry is to a job

pub data IsTo (k : ℕ) (e : LogEntry) : Type 0 where
  TakesIt : takes_it k e.what ≡ true → IsTo k e
  EndsIt : takes_it k e.what ≡ false → ends_it k e.what ≡ true → IsTo k e
  Else : takes_it k e.what ≡ false → ends_it k e.what ≡ false → IsTo k e

pub is_to : (k : ℕ) (e : LogEntry) → IsTo k e
is_to k e = by_both (takes_it k e.what) (ends_it k e.what) refl refl where
  by_both : (t d : Bool) → takes_it k e.what ≡ t → ends_it k e.what ≡ d → IsTo k e
  by_both true d p q = TakesIt p
  by_both false true p q = EndsIt p q
  by_both false false p q = Else p q

pub after_other : (k : ℕ) (e : LogEntry) (s : JobState) → takes_it k e.what ≡ false → ends_it k e.what ≡ false → state_after k e s ≡ s
after_other k e s t d = rw t (rw d refl)

pub after_took : (k : ℕ) (e : LogEntry) (s : JobState) → takes_it k e.what ≡ true → state_after k e s ≡ Held e.worker e.at
after_took k e s t = rw t refl

pub after_end : (k : ℕ) (e : LogEntry) (s : JobState) → takes_it k e.what ≡ false → ends_it k e.what ≡ true → state_after k e s ≡ Over
after_end k e s t d = rw t (rw d refl)

pub took_since : (k : ℕ) (e : LogEntry) (s : JobState) (worker since : ℕ) → takes_it k e.what ≡ true → state_after k e s ≡ Held worker since → since ≡ e.at
took_since k e s worker since t h = let z : Held e.worker e.at ≡ Held worker since = sym (after_took k e s t) ∙ h in cc

pub ended_not : (k : ℕ) (e : LogEntry) (s : JobState) (worker since : ℕ) → takes_it k e.what ≡ false → ends_it k e.what ≡ true → state_after k e s ≡ Held worker since → ⊥
ended_not k e s worker since t d h = let z : Over ≡ Held worker since = sym (after_end k e s t d) ∙ h in cc

pub taken_is : (k : ℕ) (what : LogWhat) → takes_it k what ≡ true → what ≡ Took k
taken_is k (Took j) h = ap (λ z. Took z) (eqb-true j k h)
taken_is k (Done j) h = absurd (cc)
taken_is k (Failed j signs) h = absurd (cc)
taken_is k (Refused j op got expected) h = absurd (cc)
taken_is k (Sent j) h = absurd (cc)
taken_is k (Lost j) h = absurd (cc)

-- ---- the entries before a moment

pub before_in : (n : ℕ) (e : LogEntry) (log : List LogEntry) (b : Bool) → nat_lt e.at n ≡ b → log_before n (e ∷ log) ≡ cond b (e ∷ log_before n log) (log_before n log)
before_in n e log b h = ap (λ z. cond {A = List LogEntry} z (e ∷ log_before n log) (log_before n log)) h

pub less : (m n : ℕ) → (nat_lt m n ≡ true) ⊎ (nat_lt m n ≡ false)
less m n = by_bool (nat_lt m n) refl where
  by_bool : (b : Bool) → nat_lt m n ≡ b → (nat_lt m n ≡ true) ⊎ (nat_lt m n ≡ false)
  by_bool true e = inl e
  by_bool false e = inr e

-- a job that is held was taken before
pub held_before : (k n worker since : ℕ) (log : List LogEntry) → state_of k (log_before (suc n) log) ≡ Held worker since → since ≤ n
held_before k n worker since [] h = absurd (let z : Untaken ≡ Held worker since = h in cc)
held_before k n worker since (e ∷ log) h =
    elim (less e.at (suc n)) [
      | inl lt ↦ by_entry lt (is_to k e) (ap (state_of k) (sym (before_in (suc n) e log true lt)) ∙ h) (held_before k n worker since log)
      | inr ge ↦ held_before k n worker since log (ap (state_of k) (sym (before_in (suc n) e log false ge)) ∙ h)
    ]
  where
    by_entry : nat_lt e.at (suc n) ≡ true → IsTo k e → state_after k e (state_of k (log_before (suc n) log)) ≡ Held worker since → (state_of k (log_before (suc n) log) ≡ Held worker since → since ≤ n) → since ≤ n
    by_entry lt (TakesIt t) g f = let at : since ≡ e.at = took_since k e _ worker since t g in grind (arith, lt, at)
    by_entry lt (EndsIt t d) g f = absurd (ended_not k e _ worker since t d g)
    by_entry lt (Else t d) g f = f (sym (after_other k e _ t d) ∙ g)

module _ (jobs : List Job) (turns : List GroupTurn) (count : ℕ) where
  pub all_before : (n m : ℕ) (log : List LogEntry) → IsLog jobs turns count log → latest log ≤ m → m < n → log_before n log ≡ log
  all_before n m [] h l lt = refl
  all_before n m (e ∷ log) h l lt =
      let first : nat_lt e.at n ≡ true = grind (arith, l, lt) in
      before_in n e log true first ∙ ap (λ z. e ∷ z) (all_before n e.at log h.1 h.0.later (omega (arith, l, lt)))

  -- what holds of the entries before a moment holds of those before the next one, where each entry of that moment keeps it
  pub next_moment : (n : ℕ) (whole : List LogEntry) (P : List LogEntry → Type 0) → ((newer older : List LogEntry) (e : LogEntry) → whole ≡ newer ++ e ∷ older → e.at ≡ n → P older → P (e ∷ older))
      → (newer log : List LogEntry) → whole ≡ newer ++ log → IsLog jobs turns count log → P (log_before n log) → P (log_before (suc n) log)
  next_moment n whole P f newer [] is form p = p
  next_moment n whole P f newer (e ∷ log) is form p = by_at (λ q. next_moment n whole P f (newer ++ e ∷ []) log (is ∙ append_one newer) form.1 q) (less e.at n) (less e.at (suc n)) where
    append_one : (l : List LogEntry) → l ++ e ∷ log ≡ (l ++ e ∷ []) ++ log
    append_one [] = refl
    append_one (x ∷ l) = ap (λ z. x ∷ z) (append_one l)

    all : (m : ℕ) → e.at < m → log_before m log ≡ log
    all m lt = all_before m e.at log form.1 form.0.later lt

    by_at : (P (log_before n log) → P (log_before (suc n) log)) → (nat_lt e.at n ≡ true) ⊎ (nat_lt e.at n ≡ false) → (nat_lt e.at (suc n) ≡ true) ⊎ (nat_lt e.at (suc n) ≡ false) → P (log_before (suc n) (e ∷ log))
    by_at further (inl lt) x =
        let a : e.at < n = grind (arith, lt) in
        let lt2 : nat_lt e.at (suc n) ≡ true = grind (arith, lt) in
        let old : log_before n (e ∷ log) ≡ e ∷ log = before_in n e log true lt ∙ ap (λ z. e ∷ z) (all n a) in
        let new : log_before (suc n) (e ∷ log) ≡ e ∷ log = before_in (suc n) e log true lt2 ∙ ap (λ z. e ∷ z) (all (suc n) (omega (arith, a))) in
        subst P (old ∙ sym new) p
    by_at further (inr ge) (inl lt) =
        let at : e.at ≡ n = grind (arith, ge, lt) in
        let new : log_before (suc n) log ≡ log = all (suc n) (omega (arith, at)) in
        subst P (sym (before_in (suc n) e log true lt ∙ ap (λ z. e ∷ z) new)) (f newer log e is at (subst P new (further (subst P (before_in n e log false ge) p))))
    by_at further (inr ge) (inr ge2) = subst P (sym (before_in (suc n) e log false ge2)) (further (subst P (before_in n e log false ge) p))

-- ---- the moments since a job was taken

abbrev pub after : ℕ → List Moment → List Moment
after since l = filter (λ (m : Moment). nat_lt since m.at) l

abbrev pub AreUpto : ℕ → List Moment → Type 0
AreUpto n l = Every (λ (m : Moment). m.at ≤ n) l

upto_more : (n k : ℕ) (l : List Moment) → n ≤ k → AreUpto n l → AreUpto k l
upto_more n k [] le h = tt
upto_more n k (m ∷ l) le h = (let f = h.0 in omega (arith, le, f), upto_more n k l le h.1)

pub between_after : (since n : ℕ) (l : List Moment) → AreUpto n l → between since n l ≡ after since l
between_after since n [] h = refl
between_after since n (m ∷ l) h = by_test (nat_lt since m.at) (nat_le m.at n) (grind (arith, h.0)) (between_after since n l h.1) where
  by_test : (b c : Bool) → c ≡ true → between since n l ≡ after since l → ◌≡◌ {A = List Moment} (cond (b && c) (m ∷ between since n l) (between since n l)) (cond b (m ∷ after since l) (after since l))
  by_test true true e q = ap (λ z. m ∷ z) q
  by_test true false e q = absurd (cc)
  by_test false c e q = q

-- none is since a place that is the last
pub after_last : (n : ℕ) (l : List Moment) → AreUpto n l → after n l ≡ []
after_last n [] h = refl
after_last n (m ∷ l) h = by_test (nat_lt n m.at) (grind (arith, h.0)) (after_last n l h.1) where
  by_test : (b : Bool) → b ≡ false → after n l ≡ [] → ◌≡◌ {A = List Moment} (cond b (m ∷ after n l) (after n l)) []
  by_test true e q = absurd (cc)
  by_test false e q = q

pub after_more : (since : ℕ) (m : Moment) (l : List Moment) → since < m.at → after since (m ∷ l) ≡ m ∷ after since l
after_more since m l h = let lt : nat_lt since m.at ≡ true = grind (arith, h) in rw lt refl

pub moments_upto : (start : World) (events : List Event) → AreUpto (length events) (moments (placed start events))
moments_upto start [] = tt
moments_upto start (e ∷ events) = by_item (item_at (replay start events) e) (moments_upto start events) where
  by_item : (o : Option Item) → AreUpto (length events) (moments (placed start events)) → AreUpto (suc (length events)) (moments (placed_if (length (e ∷ events)) (now (replay start (e ∷ events))) o (placed start events)))
  by_item None q = upto_more (length events) (suc (length events)) (moments (placed start events)) (omega arith) q
  by_item (Some what) q = (omega arith, upto_more (length events) (suc (length events)) (moments (placed start events)) (omega arith) q)

pub upto_next : (start : World) (events : List Event) → AreUpto (suc (length events)) (moments (placed start events))
upto_next start events = upto_more (length events) (suc (length events)) (moments (placed start events)) (omega arith) (moments_upto start events)

-- the moments up to a place are those of the events up to it
pub first_moments : (since : ℕ) (start : World) (newer events : List Event) → between since (length events) (moments (placed start (newer ++ events))) ≡ after since (moments (placed start events))
first_moments since start [] events = between_after since (length events) (moments (placed start events)) (moments_upto start events)
first_moments since start (e ∷ newer) events = by_item (item_at (replay start (newer ++ events)) e) (first_moments since start newer events) where
  long : length events < suc (length (newer ++ events))
  long = let x = length-append newer events in omega (arith, x)

  by_item : (o : Option Item) → between since (length events) (moments (placed start (newer ++ events))) ≡ after since (moments (placed start events))
      → between since (length events) (moments (placed_if (length (e ∷ (newer ++ events))) (now (replay start (e ∷ (newer ++ events)))) o (placed start (newer ++ events)))) ≡ after since (moments (placed start events))
  by_item None q = q
  by_item (Some what) q = not_yet since (length events) _ (moments (placed start (newer ++ events))) long ∙ q
