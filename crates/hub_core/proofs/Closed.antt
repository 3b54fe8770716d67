-- What is unfinished was unfinished before; and once all jobs and telegrams are over nothing more is told.
use Rattle.std.proofs.Common.{◌≡◌, ◌≢◌, ◌≤◌, ℕ, Bool, true, false, List, [], ◌∷◌, None, refl, sym, ap, ◌∙◌, subst, arith}
use Rattle.std.specs.Prelude.{◌==◌}
use Rattle.line_model.specs.declared.group.GroupTurn.{GroupTurn}
use Rattle.line_model.specs.declared.log.LogEntry.{LogEntry}
use Rattle.line_model.specs.declared.log.LogWhat.{LogWhat}
use Rattle.line_model.specs.declared.log.LogWhat.TheVariants.{Took, Done, Failed, Refused, Sent, Lost}
use Rattle.line_model.specs.Log.{Job, JobState, Untaken, Held, Over, job_of, takes_it, ends_it, state_after, state_of, JobUnfinished, TurnUnfinished, HoldsNone, MayFollow, EndsHeld, IsLog}

same_number : (j k : ℕ) → (j == k) ≡ true → j ≡ k
same_number j k e = grind (arith, e)

takes : (k : ℕ) (what : LogWhat) → takes_it k what ≡ true → what ≡ Took k
takes k (Took j) e = ap Took (same_number j k e)
takes k (Done j) e = absurd (cc)
takes k (Failed j signs) e = absurd (cc)
takes k (Refused j op got expected) e = absurd (cc)
takes k (Sent j) e = absurd (cc)
takes k (Lost j) e = absurd (cc)

held_is : (worker : ℕ) (s : JobState) → EndsHeld worker s → (s ≢ Over) × (s ≢ Untaken)
held_is worker Untaken h = absurd h
held_is worker (Held by since) h = (λ e. absurd (cc), λ e. absurd (cc))
held_is worker Over h = absurd h

-- what ends a job ends one that is held
ends_held : (jobs : List Job) (turns : List GroupTurn) (worker k : ℕ) (log : List LogEntry) (what : LogWhat) → ends_it k what ≡ true → MayFollow jobs turns worker log what → EndsHeld worker (state_of k log)
ends_held jobs turns worker k log (Took j) e h = absurd (cc)
ends_held jobs turns worker k log (Done j) e h = subst (λ (n : ℕ). EndsHeld worker (state_of n log)) (same_number j k e) h
ends_held jobs turns worker k log (Failed j signs) e h = subst (λ (n : ℕ). EndsHeld worker (state_of n log)) (same_number j k e) h
ends_held jobs turns worker k log (Refused j op got expected) e h = subst (λ (n : ℕ). EndsHeld worker (state_of n log)) (same_number j k e) h
ends_held jobs turns worker k log (Sent j) e h = absurd (cc)
ends_held jobs turns worker k log (Lost j) e h = absurd (cc)

module _ (jobs : List Job) (turns : List GroupTurn) where
  taken_now : (k : ℕ) (e : LogEntry) (log : List LogEntry) → takes_it k e.what ≡ true → MayFollow jobs turns e.worker log e.what → (job_of jobs k ≢ None) × (state_of k log ≡ Untaken) × (1 ≤ e.worker) × HoldsNone e.worker log
  taken_now k e log t h = subst (MayFollow jobs turns e.worker log) (takes k e.what t) h

  over_stays : (k : ℕ) (e : LogEntry) (log : List LogEntry) → MayFollow jobs turns e.worker log e.what → state_of k log ≡ Over → state_of k (e ∷ log) ≡ Over
  over_stays k e log h over = by_both (takes_it k e.what) (ends_it k e.what) refl refl where
    by_both : (t d : Bool) → takes_it k e.what ≡ t → ends_it k e.what ≡ d → state_after k e (state_of k log) ≡ Over
    by_both true d p q = absurd (let f : state_of k log ≡ Untaken = (taken_now k e log p h).1 in let z : Untaken ≡ Over = sym f ∙ over in cc)
    by_both false true p q = rw p (rw q refl)
    by_both false false p q = rw p (rw q over)

  -- what is unfinished after an entry was so before it
  pub unfinished_before : (e : LogEntry) (log : List LogEntry) → MayFollow jobs turns e.worker log e.what → JobUnfinished jobs (e ∷ log) → JobUnfinished jobs log
  unfinished_before e log h u = (u.0, u.1, λ over. u.2 (over_stays u.0 e log h over))

  -- only a job of the run is taken
  there : (n k : ℕ) (log : List LogEntry) → IsLog jobs turns n log → state_of k log ≢ Untaken → job_of jobs k ≢ None
  there n k [] is not = absurd (not refl)
  there n k (e ∷ log) is not = by_both (takes_it k e.what) (ends_it k e.what) refl refl (there n k log is.1) where
    by_both : (t d : Bool) → takes_it k e.what ≡ t → ends_it k e.what ≡ d → (state_of k log ≢ Untaken → job_of jobs k ≢ None) → job_of jobs k ≢ None
    by_both true d p q f = (taken_now k e log p is.0.follows).0
    by_both false true p q f = f (held_is e.worker (state_of k log) (ends_held jobs turns e.worker k log e.what q is.0.follows)).1
    by_both false false p q f = f (λ z. not (rw p (rw q z)))

  ended : (n worker k : ℕ) (log : List LogEntry) → IsLog jobs turns n log → EndsHeld worker (state_of k log) → JobUnfinished jobs log
  ended n worker k log is h = let held : (state_of k log ≢ Over) × (state_of k log ≢ Untaken) = held_is worker (state_of k log) h in (k, there n k log is held.1, held.0)

  -- once all is over nothing more is told
  pub nothing_more : (n worker : ℕ) (log : List LogEntry) (what : LogWhat) → IsLog jobs turns n log → MayFollow jobs turns worker log what → ¬ JobUnfinished jobs log → ¬ TurnUnfinished turns log → ⊥
  nothing_more n worker log (Took j) is h over told = over (j, h.0, λ e. let z : Untaken ≡ Over = sym h.1 ∙ e in cc)
  nothing_more n worker log (Done j) is h over told = over (ended n worker j log is h)
  nothing_more n worker log (Failed j signs) is h over told = over (ended n worker j log is h)
  nothing_more n worker log (Refused j op got expected) is h over told = over (ended n worker j log is h)
  nothing_more n worker log (Sent j) is h over told = told (j, h.0.there, h.0.untold)
  nothing_more n worker log (Lost j) is h over told = told (j, h.0.there, h.0.untold)
