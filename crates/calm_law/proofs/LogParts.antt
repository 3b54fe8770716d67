-- The log from an entry on down, and how the state of a job goes on from there.
use Rattle.std.proofs.Common.{◌≡◌, ◌≢◌, ℕ, ◌<◌, ◌≤◌, Bool, true, false, ◌&&◌, List, [], ◌∷◌, ◌++◌, refl, sym, ap, subst, ◌∙◌, inl, inr, arith}
use Rattle.std.specs.Prelude.{nat_lt, ◌||◌}
use Rattle.std.specs.List.{AllByRecursion, list_any}
use Rattle.std.proofs.lemmas.Bool.{eqb-true, or_parts}
use Rattle.std.proofs.lemmas.Bool.Decides.{nat_tests}
use Rattle.line_model.specs.declared.group.GroupTurn.{GroupTurn}
use Rattle.line_model.specs.declared.log.LogEntry.{LogEntry}
use Rattle.line_model.specs.declared.log.LogWhat.{LogWhat}
use Rattle.line_model.specs.declared.log.LogWhat.TheVariants.{Took, Done, Failed, Refused, Sent, Lost}
use Rattle.line_model.specs.Log.{Job, JobState, Untaken, Held, Over, SameDevice, EndsHeld, IsFree, IsLog, MayFollow, OneDownloaderPerDevice, TakesFree, ends_it, job_of, latest, state_of}
use Rattle.calm_law.specs.CalmEnds.{Told}
use Rattle.calm_law.proofs.Held.{IsTo, TakesIt, EndsIt, Else, is_to, after_other, after_took, after_end, took_since, ended_not, taken_is}

-- ---- an entry, with the log before it

pub record Split (P : LogEntry → List LogEntry → Type 0) (log : List LogEntry) : Type 0 where
  pub newer : List LogEntry
  pub e : LogEntry
  pub older : List LogEntry
  pub all : log ≡ newer ++ e ∷ older
  pub is : P e older

split_more : (P : LogEntry → List LogEntry → Type 0) (x : LogEntry) (log : List LogEntry) → Split P log → Split P (x ∷ log)
split_more P x log s = record { newer = x ∷ s.newer; e = s.e; older = s.older; all = ap (λ (l : List LogEntry). x ∷ l) s.all; is = s.is }

pub told_split : (P : LogWhat → Type 0) (log : List LogEntry) → Told P log → Split (λ (e : LogEntry) (older : List LogEntry). P e.what) log
told_split P [] t = absurd t
told_split P (e ∷ log) (inl is) = record { newer = []; e = e; older = log; all = refl; is = is }
told_split P (e ∷ log) (inr t) = split_more (λ (x : LogEntry) (older : List LogEntry). P x.what) e log (told_split P log t)

-- ---- states

untaken_held : {X : Type 0} (worker since : ℕ) → Held worker since ≡ Untaken → X
untaken_held worker since e = absurd (let z : Held worker since ≡ Untaken = e in cc)

untaken_over : {X : Type 0} → Over ≡ Untaken → X
untaken_over e = absurd (let z : Over ≡ Untaken = e in cc)

-- a job that wasn't taken wasn't before
pub untaken_before : (k : ℕ) (e : LogEntry) (log : List LogEntry) → state_of k (e ∷ log) ≡ Untaken → state_of k log ≡ Untaken
untaken_before k e log u = by_entry (is_to k e)
  where
    by_entry : IsTo k e → state_of k log ≡ Untaken
    by_entry (TakesIt t) = untaken_held e.worker e.at (sym (after_took k e (state_of k log) t) ∙ u)
    by_entry (EndsIt t d) = untaken_over (sym (after_end k e (state_of k log) t d) ∙ u)
    by_entry (Else t d) = sym (after_other k e (state_of k log) t d) ∙ u

module _ (jobs : List Job) (turns : List GroupTurn) (count : ℕ) where
  pub untaken_where_taken : (k : ℕ) (e : LogEntry) (log : List LogEntry) → IsLog jobs turns count (e ∷ log) → e.what ≡ Took k → state_of k log ≡ Untaken
  untaken_where_taken k e log form is = (subst (MayFollow jobs turns e.worker log) is form.0.follows).1

  -- what is over stays so
  pub over_after : (k : ℕ) (e : LogEntry) (log : List LogEntry) → IsLog jobs turns count (e ∷ log) → state_of k log ≡ Over → state_of k (e ∷ log) ≡ Over
  over_after k e log form over = by_entry (is_to k e)
    where
      by_entry : IsTo k e → state_of k (e ∷ log) ≡ Over
      by_entry (TakesIt t) = untaken_over (sym over ∙ untaken_where_taken k e log form (taken_is k e.what t))
      by_entry (EndsIt t d) = after_end k e (state_of k log) t d
      by_entry (Else t d) = after_other k e (state_of k log) t d ∙ over

  ends_held : (k worker : ℕ) (what : LogWhat) (log : List LogEntry) → ends_it k what ≡ true → MayFollow jobs turns worker log what → state_of k log ≢ Untaken
  ends_held k worker what log ends may u = by_what what ends may
    where
      by_job : (j : ℕ) → j ≡ k → EndsHeld worker (state_of j log) → ⊥
      by_job j same held = subst (EndsHeld worker) (ap (λ n. state_of n log) same ∙ u) held

      by_what : (what : LogWhat) → ends_it k what ≡ true → MayFollow jobs turns worker log what → ⊥
      by_what (Took j) ends may = absurd (cc)
      by_what (Done j) ends may = by_job j (eqb-true j k ends) may
      by_what (Failed j signs) ends may = by_job j (eqb-true j k ends) may
      by_what (Refused j op got expected) ends may = by_job j (eqb-true j k ends) may
      by_what (Sent j) ends may = absurd (cc)
      by_what (Lost j) ends may = absurd (cc)

  -- ---- each entry is so where the log is

  pub form_below : (newer log : List LogEntry) → IsLog jobs turns count (newer ++ log) → IsLog jobs turns count log
  form_below [] log h = h
  form_below (x ∷ newer) log h = form_below newer log h.1

  pub alone_below : (newer log : List LogEntry) → OneDownloaderPerDevice jobs (newer ++ log) → OneDownloaderPerDevice jobs log
  alone_below [] log h = h
  alone_below (x ∷ newer) log h = alone_below newer log h.1

  pub over_above : (k : ℕ) (newer log : List LogEntry) → IsLog jobs turns count (newer ++ log) → state_of k log ≡ Over → state_of k (newer ++ log) ≡ Over
  over_above k [] log form over = over
  over_above k (x ∷ newer) log form over = over_after k x (newer ++ log) form (over_above k newer log form.1 over)

  -- none of the later ones is at an earlier place
  pub later_places : (newer : List LogEntry) (e : LogEntry) (older : List LogEntry) → IsLog jobs turns count (newer ++ e ∷ older) → AllByRecursion (λ (x : LogEntry). e.at ≤ x.at) newer
  later_places [] e older form = tt
  later_places (x ∷ newer) e older form =
      let rest : AllByRecursion (λ (y : LogEntry). e.at ≤ y.at) newer = later_places newer e older form.1 in
      let first : e.at ≤ latest (newer ++ e ∷ older) = first_later newer rest in
      let later : latest (newer ++ e ∷ older) ≤ x.at = form.0.later in
      (omega (arith, first, later), rest)
    where
      first_later : (l : List LogEntry) → AllByRecursion (λ (y : LogEntry). e.at ≤ y.at) l → e.at ≤ latest (l ++ e ∷ older)
      first_later [] all = omega arith
      first_later (y ∷ l) all = all.0

  -- ---- where a job was taken that is held

  pub taken_split : (k worker since : ℕ) (log : List LogEntry) → IsLog jobs turns count log → state_of k log ≡ Held worker since → Split (λ (e : LogEntry) (older : List LogEntry). (e.what ≡ Took k) × (since ≡ e.at)) log
  taken_split k worker since [] form held = untaken_held worker since (sym held)
  taken_split k worker since (e ∷ log) form held = by_entry (is_to k e) (λ before. taken_split k worker since log form.1 before)
    where
      by_entry : IsTo k e → (state_of k log ≡ Held worker since → Split (λ (x : LogEntry) (older : List LogEntry). (x.what ≡ Took k) × (since ≡ x.at)) log) → Split (λ (x : LogEntry) (older : List LogEntry). (x.what ≡ Took k) × (since ≡ x.at)) (e ∷ log)
      by_entry (TakesIt t) further = record { newer = []; e = e; older = log; all = refl; is = (taken_is k e.what t, took_since k e (state_of k log) worker since t held) }
      by_entry (EndsIt t d) further = absurd (ended_not k e (state_of k log) worker since t d held)
      by_entry (Else t d) further = split_more (λ (x : LogEntry) (older : List LogEntry). (x.what ≡ Took k) × (since ≡ x.at)) e log (further (sym (after_other k e (state_of k log) t d) ∙ held))

  -- ---- the jobs of a device, in order

  -- where an entry takes a job, one of its device that isn't untaken is over
  pub free_over : (m k : ℕ) (log : List LogEntry) → IsFree jobs log m → SameDevice (job_of jobs m) (job_of jobs k) → state_of k log ≢ Untaken → state_of k log ≡ Over
  free_over m k log free same taken = by_state (state_of k log) refl
    where
      by_state : (s : JobState) → state_of k log ≡ s → state_of k log ≡ Over
      by_state Untaken is = absurd (taken is)
      by_state (Held worker since) is = absurd (free.alone k worker since same is)
      by_state Over is = is

  -- once a job is taken each one before it of its device was
  pub earlier_taken : (m j : ℕ) → m < j → SameDevice (job_of jobs j) (job_of jobs m) → (log : List LogEntry) → IsLog jobs turns count log → OneDownloaderPerDevice jobs log → state_of j log ≢ Untaken → state_of m log ≢ Untaken
  earlier_taken m j lt same [] form alone taken u = taken u
  earlier_taken m j lt same (e ∷ log) form alone taken u = by_entry (is_to j e) (untaken_before m e log u) (λ before. earlier_taken m j lt same log form.1 alone.1 before)
    where
      by_entry : IsTo j e → state_of m log ≡ Untaken → (state_of j log ≢ Untaken → state_of m log ≢ Untaken) → ⊥
      by_entry (TakesIt t) untaken further = (subst (TakesFree jobs log) (taken_is j e.what t) alone.0).in_order m lt same untaken
      by_entry (EndsIt t d) untaken further = further (ends_held j e.worker e.what log d form.0.follows) untaken
      by_entry (Else t d) untaken further = further (λ z. taken (after_other j e (state_of j log) t d ∙ z)) untaken

-- ---- of places

pub none_at : (f : LogWhat → Bool) (s : ℕ) (newer log : List LogEntry) → AllByRecursion (λ (x : LogEntry). s ≤ x.at) newer → list_any (λ (e : LogEntry). f e.what) log ≡ false → list_any (λ (e : LogEntry). nat_lt e.at s && f e.what) (newer ++ log) ≡ false
none_at f s (x ∷ newer) log later none = rw (not_before x.at s later.0) (none_at f s newer log later.1 none)
  where
    not_before : (a b : ℕ) → b ≤ a → nat_lt a b ≡ false
    not_before a b le = grind (arith, nat_tests)
none_at f s [] [] later none = refl
none_at f s [] (x ∷ log) later none =
    let both = or_parts (f x.what) (list_any (λ (e : LogEntry). f e.what) log) none in
    rw both.0 (either_false (nat_lt x.at s) (none_at f s [] log tt both.1))
  where
    either_false : (b : Bool) → list_any (λ (e : LogEntry). nat_lt e.at s && f e.what) log ≡ false → ((b && false) || list_any (λ (e : LogEntry). nat_lt e.at s && f e.what) log) ≡ false
    either_false true h = h
    either_false false h = h
