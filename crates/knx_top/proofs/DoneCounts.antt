-- A log that tells done of each of n jobs has n entries of that kind, since each job ends once.
use Rattle.std.proofs.Common.{◌≡◌, ◌≢◌, ℕ, zero, suc, ◌+◌, ◌-◌, ◌≤◌, Bool, true, false, cond, List, [], ◌∷◌, length, slice_get, None, refl, sym, ap, subst, ◌∙◌, inl, inr, arith}
use Rattle.std.specs.Prelude.{reverse, ◌||◌, ◌==◌}
use Rattle.std.proofs.lemmas.Bool.{cases_order, eqb-true, eq-eqb}
use Rattle.std.proofs.lemmas.Bool.Decides.{nat_tests}
use Rattle.std.proofs.lemmas.List.Sorted.{IsPermutation-reverse, sum_by-IsPermutation}
use Rattle.std.proofs.lemmas.List.Sums.{sum_by-cons}
use Rattle.calm_law.proofs.LogParts.{over_after, taken_split, form_below}
use Rattle.calm_law.specs.CalmEnds.{IsToldDone}
use Rattle.call_words.specs.Sums.{done_in, tells_done}
use Rattle.line_model.specs.declared.group.GroupTurn.{GroupTurn}
use Rattle.line_model.specs.declared.log.LogEntry.{LogEntry}
use Rattle.line_model.specs.declared.log.LogWhat.{LogWhat}
use Rattle.line_model.specs.declared.log.LogWhat.TheVariants.{Took, Done, Failed, Refused, Sent, Lost}
use Rattle.line_model.specs.Log.{Job, JobState, Untaken, Held, Over, EndsHeld, IsLog, MayFollow, job_of, state_of}
use Rattle.report_text.specs.LineStatus.{is_done}
use Rattle.report_text.specs.LineStatus as text

-- ---- the order of a log doesn't matter

pub done_either_way : (log : List LogEntry) → done_in (reverse log) ≡ done_in log
done_either_way log = sum_by-IsPermutation (λ (e : LogEntry). cond (tells_done e.what) 1 0) log (reverse log) (IsPermutation-reverse log)

-- ---- of how many of the jobs up to a number it tells done

abbrev one_if : Bool → ℕ
one_if b = cond b 1 0

told_of : ℕ → List LogEntry → ℕ
told_of zero log = 0
told_of (suc k) log = one_if (text.tells_done (suc k) log) + told_of k log

no_entries : (n : ℕ) → told_of n [] ≡ 0
unfolding told_of
no_entries zero = refl
no_entries (suc n) = let rest = no_entries n in omega (arith, rest)

all_told : (n : ℕ) (log : List LogEntry) → ((k : ℕ) → 1 ≤ k → k ≤ n → text.tells_done k log ≡ true) → told_of n log ≡ n
unfolding told_of
all_told zero log h = refl
all_told (suc n) log h = let rest = all_told n log (λ k low high. h k low (omega (arith, high))) in rw (h (suc n) (omega arith) (omega arith)) (omega (arith, rest))

module _ (e : LogEntry) (log : List LogEntry) where
  -- an entry of another kind, and one of a later job
  same_told : (n : ℕ) → ((k : ℕ) → k ≤ n → is_done k e.what ≡ false) → told_of n (e ∷ log) ≡ told_of n log
  unfolding told_of
  same_told zero none = refl
  same_told (suc n) none = rw (none (suc n) (omega arith)) (ap (λ m. one_if (text.tells_done (suc n) log) + m) (same_told n (λ k le. none k (omega (arith, le)))))

  one_told : (j n : ℕ) → e.what ≡ Done j → text.tells_done j log ≡ false → 1 ≤ j → j ≤ n → told_of n (e ∷ log) ≡ suc (told_of n log)
  unfolding told_of
  one_told j zero is new low high = absurd (omega (arith, low, high))
  one_told j (suc n) is new low high = by_place (λ less. one_told j n is new low less) (j == suc n) refl where
    not_it : (k : ℕ) → (j == k) ≡ false → is_done k e.what ≡ false
    not_it k apart = ap (is_done k) is ∙ apart

    by_place : (j ≤ n → told_of n (e ∷ log) ≡ suc (told_of n log)) → (b : Bool) → (j == suc n) ≡ b → told_of (suc n) (e ∷ log) ≡ suc (told_of (suc n) log)
    by_place further true here =
        let same : j ≡ suc n = eqb-true j (suc n) here in
        let it : is_done (suc n) e.what ≡ true = ap (is_done (suc n)) is ∙ here in
        let fresh : text.tells_done (suc n) log ≡ false = subst (λ k. text.tells_done k log ≡ false) same new in
        let rest = same_told n (λ k le. not_it k (let apart : j ≢ k = λ z. (let y : suc n ≡ k = sym same ∙ z in omega (arith, y, le)) in grind (arith, nat_tests))) in
        rw (it, fresh) (omega (arith, rest))
    by_place further false there =
        let less : j ≤ n = grind (arith, nat_tests) in
        let rest : told_of n (e ∷ log) ≡ suc (told_of n log) = further less in
        rw (not_it (suc n) there) (let z : one_if (text.tells_done (suc n) log) + told_of n (e ∷ log) ≡ suc (one_if (text.tells_done (suc n) log) + told_of n log) = omega (arith, rest) in z)

-- ---- each job ends once

none_at : (jobs : List Job) (k : ℕ) → length jobs ≤ k → slice_get jobs k ≡ None
none_at [] k h = by_place k where
  by_place : (k : ℕ) → slice_get (let js : List Job = [] in js) k ≡ None
  by_place zero = refl
  by_place (suc k) = refl
none_at (x ∷ jobs) zero h = absurd (let z : suc (length jobs) ≤ 0 = h in omega (arith, z))
none_at (x ∷ jobs) (suc k) h = none_at jobs k (let z : suc (length jobs) ≤ suc k = h in omega (arith, z))

pub job_at : (jobs : List Job) (j : ℕ) → job_of jobs (suc j) ≡ slice_get jobs j
job_at jobs j = let some : (suc j == 0) ≡ false = grind (arith, nat_tests) in let before : suc j - 1 ≡ j = omega arith in rw (some, before) refl

pub numbered : (jobs : List Job) (j : ℕ) → job_of jobs j ≢ None → (1 ≤ j) × (j ≤ length jobs)
numbered jobs zero there = absurd (there refl)
numbered jobs (suc j) there = (
  omega arith,
  elim (cases_order j (length jobs)) [
    | inl same ↦ absurd (there (job_at jobs j ∙ none_at jobs j (omega (arith, same))))
    | inr (inl less) ↦ omega (arith, less)
    | inr (inr more) ↦ absurd (there (job_at jobs j ∙ none_at jobs j (omega (arith, more))))
  ],
)

pub told_tells : (k : ℕ) (log : List LogEntry) → IsToldDone k log → text.tells_done k log ≡ true
told_tells k [] told = absurd told
told_tells k (e ∷ log) (inl is) = (let here : is_done k e.what ≡ true = ap (is_done k) is ∙ eq-eqb k k refl in rw here refl)
told_tells k (e ∷ log) (inr told) = or_right (is_done k e.what) (text.tells_done k log) (told_tells k log told) where
  or_right : (a b : Bool) → b ≡ true → (a || b) ≡ true
  or_right true b h = refl
  or_right false b h = h

module _ (jobs : List Job) (turns : List GroupTurn) (count : ℕ) where
  done_over : (j : ℕ) (log : List LogEntry) → IsLog jobs turns count log → text.tells_done j log ≡ true → state_of j log ≡ Over
  done_over j [] form h = absurd (cc)
  done_over j (e ∷ log) form h = by_entry (done_over j log form.1) e.what refl where
    by_test : (text.tells_done j log ≡ true → state_of j log ≡ Over) → (b : Bool) → is_done j e.what ≡ b → ((is_done j e.what ≡ true) → state_of j (e ∷ log) ≡ Over) → state_of j (e ∷ log) ≡ Over
    by_test rest true is here = here is
    by_test rest false is here = over_after jobs turns count j e log form (rest (sym (ap (λ b. b || text.tells_done j log) is) ∙ h))

    by_entry : (text.tells_done j log ≡ true → state_of j log ≡ Over) → (what : LogWhat) → e.what ≡ what → state_of j (e ∷ log) ≡ Over
    by_entry rest (Took k) is = by_test rest (is_done j e.what) refl (λ t. absurd (let z : false ≡ true = sym (ap (is_done j) is) ∙ t in cc))
    by_entry rest (Done k) is = by_test rest (is_done j e.what) refl (λ t. (let same : (k == j) ≡ true = sym (ap (is_done j) is) ∙ t in rw (is, same) refl))
    by_entry rest (Failed k signs) is = by_test rest (is_done j e.what) refl (λ t. absurd (let z : false ≡ true = sym (ap (is_done j) is) ∙ t in cc))
    by_entry rest (Refused k op got expected) is = by_test rest (is_done j e.what) refl (λ t. absurd (let z : false ≡ true = sym (ap (is_done j) is) ∙ t in cc))
    by_entry rest (Sent k) is = by_test rest (is_done j e.what) refl (λ t. absurd (let z : false ≡ true = sym (ap (is_done j) is) ∙ t in cc))
    by_entry rest (Lost k) is = by_test rest (is_done j e.what) refl (λ t. absurd (let z : false ≡ true = sym (ap (is_done j) is) ∙ t in cc))

  -- a job that ends was taken
  there_where_held : (j worker since : ℕ) (log : List LogEntry) → IsLog jobs turns count log → state_of j log ≡ Held worker since → job_of jobs j ≢ None
  there_where_held j worker since log form held =
      let s = taken_split jobs turns count j worker since log form held in
      let form_there : IsLog jobs turns count (s.e ∷ s.older) = form_below jobs turns count s.newer (s.e ∷ s.older) (subst (IsLog jobs turns count) s.all form) in
      (subst (λ (what : LogWhat). MayFollow jobs turns s.e.worker s.older what) s.is.0 form_there.0.follows).0

  ended : (j worker : ℕ) (log : List LogEntry) → IsLog jobs turns count log → EndsHeld worker (state_of j log) → (job_of jobs j ≢ None) × (text.tells_done j log ≡ false)
  ended j worker log form ends = by_state (state_of j log) refl ends where
    by_test : (b : Bool) → text.tells_done j log ≡ b → state_of j log ≢ Over → text.tells_done j log ≡ false
    by_test true is apart = absurd (apart (done_over j log form is))
    by_test false is apart = is

    by_state : (s : JobState) → state_of j log ≡ s → EndsHeld worker s → (job_of jobs j ≢ None) × (text.tells_done j log ≡ false)
    by_state Untaken is h = absurd h
    by_state (Held by since) is h = (there_where_held j by since log form is, by_test (text.tells_done j log) refl (λ over. (let z : Held by since ≡ Over = sym is ∙ over in cc)))
    by_state Over is h = absurd h

  one_more : (e : LogEntry) (log : List LogEntry) → IsLog jobs turns count (e ∷ log) → done_in log ≡ told_of (length jobs) log → done_in (e ∷ log) ≡ told_of (length jobs) (e ∷ log)
  one_more e log form rest = by_what e.what refl form.0.follows where
    head : done_in (e ∷ log) ≡ one_if (tells_done e.what) + done_in log
    head = sum_by-cons (λ (x : LogEntry). cond (tells_done x.what) 1 0) e log

    other : (what : LogWhat) → e.what ≡ what → tells_done what ≡ false → ((k : ℕ) → is_done k what ≡ false) → done_in (e ∷ log) ≡ told_of (length jobs) (e ∷ log)
    other what is none none_it =
        let h = head in
        let zero_is : one_if (tells_done e.what) ≡ 0 = ap one_if (ap tells_done is ∙ none) in
        let same = same_told e log (length jobs) (λ k le. ap (is_done k) is ∙ none_it k) in
        omega (arith, h, zero_is, same, rest)

    by_what : (what : LogWhat) → e.what ≡ what → MayFollow jobs turns e.worker log what → done_in (e ∷ log) ≡ told_of (length jobs) (e ∷ log)
    by_what (Took k) is may = other (Took k) is refl (λ j. refl)
    by_what (Done k) is may =
        let x = ended k e.worker log form.1 may in
        let within = numbered jobs k x.0 in
        let h = head in
        let one_is : one_if (tells_done e.what) ≡ 1 = ap one_if (ap tells_done is) in
        let more = one_told e log k (length jobs) is x.1 within.0 within.1 in
        omega (arith, h, one_is, more, rest)
    by_what (Failed k signs) is may = other (Failed k signs) is refl (λ j. refl)
    by_what (Refused k op got expected) is may = other (Refused k op got expected) is refl (λ j. refl)
    by_what (Sent k) is may = other (Sent k) is refl (λ j. refl)
    by_what (Lost k) is may = other (Lost k) is refl (λ j. refl)

  counted : (log : List LogEntry) → IsLog jobs turns count log → done_in log ≡ told_of (length jobs) log
  counted [] form = sym (no_entries (length jobs))
  counted (e ∷ log) form = one_more e log form (counted log form.1)

  pub all_done : (log : List LogEntry) → IsLog jobs turns count log → ((k : ℕ) → 1 ≤ k → k ≤ length jobs → IsToldDone k log) → done_in log ≡ length jobs
  all_done log form told = counted log form ∙ all_told (length jobs) log (λ k low high. told_tells k log (told k low high))
