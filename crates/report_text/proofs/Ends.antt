-- What a log tells of a job that is over and of one that isn't yet; and that no done is told of a job that failed or was refused.
use Rattle.std.proofs.Common.{◌≡◌, ◌≢◌, ℕ, Bool, true, false, ◌||◌, List, [], ◌∷◌, None, refl, sym, ◌∙◌, ap, subst}
use Rattle.std.specs.Prelude.{◌==◌}
use native.Mathlib.Omega.{arith}
use Rattle.std.proofs.lemmas.Bool.Decides.{eqb_tells}
use Rattle.std.proofs.lemmas.Bool.{eqb-true, or_parts, or_from, or_left, or_right}
use Rattle.line_model.specs.declared.group.GroupTurn.{GroupTurn}
use Rattle.line_model.specs.declared.log.LogEntry.{LogEntry}
use Rattle.line_model.specs.declared.log.LogWhat.{LogWhat}
use Rattle.line_model.specs.declared.log.LogWhat.TheVariants.{Took, Done, Failed, Refused, Sent, Lost}
use Rattle.line_model.specs.Log.{Job, JobState, Untaken, Held, Over, job_of, takes_it, ends_it, state_after, state_of, IsLog, MayFollow, EndsHeld}
use Rattle.report_text.specs.LineStatus.{is_failure, has_failure, is_done, tells_done}

-- ---- tests

itself : (k : ℕ) → (k == k) ≡ true
itself k = grind (arith, eqb_tells k k)

-- ---- how far a job is

abbrev pub is_over : JobState → Bool
is_over Untaken = false
is_over (Held worker since) = false
is_over Over = true

abbrev pub is_taken : JobState → Bool
is_taken Untaken = false
is_taken (Held worker since) = true
is_taken Over = true

pub held : (worker : ℕ) (s : JobState) → EndsHeld worker s → (is_taken s ≡ true) × (is_over s ≡ false)
held worker Untaken h = absurd h
held worker (Held by since) h = (refl, refl)
held worker Over h = absurd h

-- ---- what an entry is to a job

pub data IsTo (k : ℕ) (e : LogEntry) : Type 0 where
  TakesIt : takes_it k e.what ≡ true → IsTo k e
  EndsIt : takes_it k e.what ≡ false → ends_it k e.what ≡ true → IsTo k e
  Else : takes_it k e.what ≡ false → ends_it k e.what ≡ false → IsTo k e

pub is_to : (k : ℕ) (e : LogEntry) → IsTo k e
is_to k e = by_both (takes_it k e.what) (ends_it k e.what) refl refl
  where
    by_both : (t d : Bool) → takes_it k e.what ≡ t → ends_it k e.what ≡ d → IsTo k e
    by_both true d p q = TakesIt p
    by_both false true p q = EndsIt p q
    by_both false false p q = Else p q

after_taking : (k : ℕ) (e : LogEntry) (s : JobState) → takes_it k e.what ≡ true → state_after k e s ≡ Held e.worker e.at
after_taking k e s t = rw t refl

pub after_end : (k : ℕ) (e : LogEntry) (s : JobState) → takes_it k e.what ≡ false → ends_it k e.what ≡ true → state_after k e s ≡ Over
after_end k e s t d = rw t (rw d refl)

pub after_other : (k : ℕ) (e : LogEntry) (s : JobState) → takes_it k e.what ≡ false → ends_it k e.what ≡ false → state_after k e s ≡ s
after_other k e s t d = rw t (rw d refl)

taking_isnt_done : (k : ℕ) (what : LogWhat) → takes_it k what ≡ true → is_done k what ≡ false
taking_isnt_done k (Took j) t = refl
taking_isnt_done k (Done j) t = absurd (let z : false ≡ true = t in cc)
taking_isnt_done k (Failed j signs) t = refl
taking_isnt_done k (Refused j op got expected) t = refl
taking_isnt_done k (Sent turn) t = refl
taking_isnt_done k (Lost turn) t = refl

no_end_isnt_done : (k : ℕ) (what : LogWhat) → ends_it k what ≡ false → is_done k what ≡ false
no_end_isnt_done k (Took j) d = refl
no_end_isnt_done k (Done j) d = d
no_end_isnt_done k (Failed j signs) d = refl
no_end_isnt_done k (Refused j op got expected) d = refl
no_end_isnt_done k (Sent turn) d = refl
no_end_isnt_done k (Lost turn) d = refl

end_is_done : (k : ℕ) (what : LogWhat) → ends_it k what ≡ true → is_failure what ≡ false → is_done k what ≡ true
end_is_done k (Took j) d fine = d
end_is_done k (Done j) d fine = d
end_is_done k (Failed j signs) d fine = absurd (let z : true ≡ false = fine in cc)
end_is_done k (Refused j op got expected) d fine = absurd (let z : true ≡ false = fine in cc)
end_is_done k (Sent turn) d fine = d
end_is_done k (Lost turn) d fine = d

-- the job of a failure
record Fails (k : ℕ) (what : LogWhat) : Type 0 where
  taken_not : takes_it k what ≡ false
  ends : ends_it k what ≡ true
  done_not : is_done k what ≡ false

fails : (what : LogWhat) → is_failure what ≡ true → (k : ℕ) × Fails k what
fails (Took j) f = absurd (let z : false ≡ true = f in cc)
fails (Done j) f = absurd (let z : false ≡ true = f in cc)
fails (Failed j signs) f = (j, record { taken_not = refl; ends = itself j; done_not = refl })
fails (Refused j op got expected) f = (j, record { taken_not = refl; ends = itself j; done_not = refl })
fails (Sent turn) f = absurd (let z : false ≡ true = f in cc)
fails (Lost turn) f = absurd (let z : false ≡ true = f in cc)

-- ---- where no failure is told, done is told of each job that is over

over_entry : (k : ℕ) (e : LogEntry) (l : List LogEntry) → IsTo k e → is_failure e.what ≡ false → (state_of k l ≡ Over → tells_done k l ≡ true) → state_of k (e ∷ l) ≡ Over → tells_done k (e ∷ l) ≡ true
over_entry k e l (TakesIt t) fine older o = absurd (let z : Held e.worker e.at ≡ Over = sym (after_taking k e (state_of k l) t) ∙ o in cc)
over_entry k e l (EndsIt t d) fine older o = or_left (is_done k e.what) (tells_done k l) (end_is_done k e.what d fine)
over_entry k e l (Else t d) fine older o = or_right (is_done k e.what) (tells_done k l) (older (sym (after_other k e (state_of k l) t d) ∙ o))

pub done_where_over : (k : ℕ) (l : List LogEntry) → has_failure l ≡ false → state_of k l ≡ Over → tells_done k l ≡ true
done_where_over k [] fine o = absurd (let z : Untaken ≡ Over = o in cc)
done_where_over k (e ∷ l) fine o =
    let both : (is_failure e.what ≡ false) × (has_failure l ≡ false) = or_parts (is_failure e.what) (has_failure l) fine in
    over_entry k e l (is_to k e) both.0 (done_where_over k l both.1) o

-- ---- in a log of these jobs

module _ (jobs : List Job) (turns : List GroupTurn) (count : ℕ) where
  pub taking : (k worker : ℕ) (l : List LogEntry) (what : LogWhat) → takes_it k what ≡ true → MayFollow jobs turns worker l what → (job_of jobs k ≢ None) × (state_of k l ≡ Untaken)
  taking k worker l (Took j) t h = (subst (λ n. job_of jobs n ≢ None) (eqb-true j k t) h.0, subst (λ n. state_of n l ≡ Untaken) (eqb-true j k t) h.1)
  taking k worker l (Done j) t h = absurd (let z : false ≡ true = t in cc)
  taking k worker l (Failed j signs) t h = absurd (let z : false ≡ true = t in cc)
  taking k worker l (Refused j op got expected) t h = absurd (let z : false ≡ true = t in cc)
  taking k worker l (Sent turn) t h = absurd (let z : false ≡ true = t in cc)
  taking k worker l (Lost turn) t h = absurd (let z : false ≡ true = t in cc)

  pub ending : (k worker : ℕ) (l : List LogEntry) (what : LogWhat) → ends_it k what ≡ true → MayFollow jobs turns worker l what → EndsHeld worker (state_of k l)
  ending k worker l (Took j) d h = absurd (let z : false ≡ true = d in cc)
  ending k worker l (Done j) d h = subst (λ n. EndsHeld worker (state_of n l)) (eqb-true j k d) h
  ending k worker l (Failed j signs) d h = subst (λ n. EndsHeld worker (state_of n l)) (eqb-true j k d) h
  ending k worker l (Refused j op got expected) d h = subst (λ n. EndsHeld worker (state_of n l)) (eqb-true j k d) h
  ending k worker l (Sent turn) d h = absurd (let z : false ≡ true = d in cc)
  ending k worker l (Lost turn) d h = absurd (let z : false ≡ true = d in cc)

  -- of a job that isn't over no done is told
  undone_entry : (k : ℕ) (e : LogEntry) (l : List LogEntry) → MayFollow jobs turns e.worker l e.what → IsTo k e → (is_over (state_of k l) ≡ false → tells_done k l ≡ false) → is_over (state_of k (e ∷ l)) ≡ false → tells_done k (e ∷ l) ≡ false
  undone_entry k e l h (TakesIt t) older o = or_from (is_done k e.what) (tells_done k l) (taking_isnt_done k e.what t) (older (ap is_over (taking k e.worker l e.what t h).1))
  undone_entry k e l h (EndsIt t d) older o = absurd (let z : true ≡ false = sym (ap is_over (after_end k e (state_of k l) t d)) ∙ o in cc)
  undone_entry k e l h (Else t d) older o = or_from (is_done k e.what) (tells_done k l) (no_end_isnt_done k e.what d) (older (sym (ap is_over (after_other k e (state_of k l) t d)) ∙ o))

  undone : (k : ℕ) (l : List LogEntry) → IsLog jobs turns count l → is_over (state_of k l) ≡ false → tells_done k l ≡ false
  undone k [] h o = refl
  undone k (e ∷ l) h o = undone_entry k e l h.0.follows (is_to k e) (undone k l h.1) o

  -- a job that was taken is one of these
  there_entry : (k : ℕ) (e : LogEntry) (l : List LogEntry) → MayFollow jobs turns e.worker l e.what → IsTo k e → (is_taken (state_of k l) ≡ true → job_of jobs k ≢ None) → is_taken (state_of k (e ∷ l)) ≡ true → job_of jobs k ≢ None
  there_entry k e l h (TakesIt t) older taken = (taking k e.worker l e.what t h).0
  there_entry k e l h (EndsIt t d) older taken = older (held e.worker (state_of k l) (ending k e.worker l e.what d h)).0
  there_entry k e l h (Else t d) older taken = older (sym (ap is_taken (after_other k e (state_of k l) t d)) ∙ taken)

  pub there : (k : ℕ) (l : List LogEntry) → IsLog jobs turns count l → is_taken (state_of k l) ≡ true → job_of jobs k ≢ None
  there k [] h t = absurd (let z : false ≡ true = t in cc)
  there k (e ∷ l) h taken = there_entry k e l h.0.follows (is_to k e) (there k l h.1) taken

  -- a job of which no done will be told
  pub record Undone (k : ℕ) (l : List LogEntry) : Type 0 where
    pub there : job_of jobs k ≢ None
    pub over : is_over (state_of k l) ≡ true
    pub untold : tells_done k l ≡ false

  stays : (k : ℕ) (e : LogEntry) (l : List LogEntry) → MayFollow jobs turns e.worker l e.what → Undone k l → IsTo k e → Undone k (e ∷ l)
  stays k e l h u (TakesIt t) = absurd (let z : false ≡ true = sym (ap is_over (taking k e.worker l e.what t h).1) ∙ u.over in cc)
  stays k e l h u (EndsIt t d) = absurd (let z : false ≡ true = sym (held e.worker (state_of k l) (ending k e.worker l e.what d h)).1 ∙ u.over in cc)
  stays k e l h u (Else t d) = record {
    there = u.there;
    over = ap is_over (after_other k e (state_of k l) t d) ∙ u.over;
    untold = or_from (is_done k e.what) (tells_done k l) (no_end_isnt_done k e.what d) u.untold;
  }

  failure_now : (e : LogEntry) (l : List LogEntry) → MayFollow jobs turns e.worker l e.what → IsLog jobs turns count l → (k : ℕ) × Fails k e.what → (k : ℕ) × Undone k (e ∷ l)
  failure_now e l h log (k, it) =
      let was : (is_taken (state_of k l) ≡ true) × (is_over (state_of k l) ≡ false) = held e.worker (state_of k l) (ending k e.worker l e.what it.ends h) in (
        k,
        record {
          there = there k l log was.0;
          over = ap is_over (after_end k e (state_of k l) it.taken_not it.ends);
          untold = or_from (is_done k e.what) (tells_done k l) it.done_not (undone k l log was.1);
        },
      )

  failure_older : (e : LogEntry) (l : List LogEntry) → MayFollow jobs turns e.worker l e.what → (k : ℕ) × Undone k l → (k : ℕ) × Undone k (e ∷ l)
  failure_older e l h (k, older) = (k, stays k e l h older (is_to k e))

  failure_by : (e : LogEntry) (l : List LogEntry) → MayFollow jobs turns e.worker l e.what → IsLog jobs turns count l → (has_failure l ≡ true → (k : ℕ) × Undone k l) → (is_failure e.what || has_failure l) ≡ true → (b : Bool) → is_failure e.what ≡ b
      → (k : ℕ) × Undone k (e ∷ l)
  failure_by e l h log older f true b = failure_now e l h log (fails e.what b)
  failure_by e l h log older f false b = failure_older e l h (older (sym (ap (λ (a : Bool). a || has_failure l) b) ∙ f))

  pub failure : (l : List LogEntry) → IsLog jobs turns count l → has_failure l ≡ true → (k : ℕ) × Undone k l
  failure [] h f = absurd (let z : false ≡ true = f in cc)
  failure (e ∷ l) h f = failure_by e l h.0.follows h.1 (failure l h.1) f (is_failure e.what) refl
