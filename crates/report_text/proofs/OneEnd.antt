-- In a log of its form each job ends once: what is told of its end is told by that entry alone.
use Rattle.std.proofs.Common.{◌≡◌, ◌≢◌, ℕ, suc, zero, ◌+◌, ◌-◌, ◌<◌, ◌≤◌, Bool, true, false, List, [], ◌∷◌, ◌++◌, length, reverse, Option, Some, None, if◌then◌else◌, refl, sym, subst, ◌∙◌, ap, arith, append-nil, ◌⊎◌, inl, inr, ne_eqb}
use Rattle.std.specs.Prelude.{◌==◌}
use Rattle.std.specs.List.{AllByRecursion, filter_map, cons_option}
use Rattle.std.proofs.lemmas.Bool.{cases_lt}
use Rattle.std.proofs.lemmas.List.Elements.{filter_map-append}
use Rattle.std.proofs.lemmas.Option.{none-some, slice_get_past}
use Rattle.call_words.specs.ReportText.{first_or_open}
use Rattle.line_model.specs.declared.group.GroupTurn.{GroupTurn}
use Rattle.line_model.specs.declared.log.LogEntry.{LogEntry}
use Rattle.line_model.specs.declared.log.LogWhat.{LogWhat}
use Rattle.line_model.specs.declared.log.LogWhat.TheVariants.{Took, Done, Failed, Refused, Sent, Lost}
use Rattle.line_model.specs.Log.{Job, job_of, takes_it, ends_it, state_of, IsLog}
use Rattle.call_words.specs.Printed.{end_of}
use Rattle.report_text.specs.ReadBack.{Told, IsOfItsJobs}
use Rattle.report_text.proofs.Cuts.{Words}
use Rattle.report_text.proofs.Ends.{is_over, held, IsTo, TakesIt, EndsIt, Else, is_to, after_end, after_other, taking, ending, there}
use mathlib.Core.List.{reverse-cons}

abbrev pub ends : ℕ → List LogEntry → List Words
ends k log = filter_map (λ entry. end_of k entry.what) log

-- ---- which entries end a job

if_some : (b : Bool) (vs ws : Words) → (if b then Some vs else None) ≡ Some ws → b ≡ true
if_some true vs ws e = refl
if_some false vs ws e = absurd (none-some ws e)

ends_where : (k : ℕ) (what : LogWhat) (ws : Words) → end_of k what ≡ Some ws → ends_it k what ≡ true
ends_where k (Took j) ws e = absurd (none-some ws e)
ends_where k (Done j) ws e = if_some (j == k) _ ws e
ends_where k (Failed j signs) ws e = if_some (j == k) _ ws e
ends_where k (Refused j op got expected) ws e = if_some (j == k) _ ws e
ends_where k (Sent turn) ws e = absurd (none-some ws e)
ends_where k (Lost turn) ws e = absurd (none-some ws e)

pub none_where : (k : ℕ) (what : LogWhat) → ends_it k what ≡ false → end_of k what ≡ None
none_where k (Took j) e = refl
none_where k (Done j) e = let z : (j == k) ≡ false = e in rw z refl
none_where k (Failed j signs) e = let z : (j == k) ≡ false = e in rw z refl
none_where k (Refused j op got expected) e = let z : (j == k) ≡ false = e in rw z refl
none_where k (Sent turn) e = refl
none_where k (Lost turn) e = refl

none_at_taking : (k : ℕ) (what : LogWhat) → takes_it k what ≡ true → end_of k what ≡ None
none_at_taking k (Took j) t = refl
none_at_taking k (Done j) t = absurd (let z : false ≡ true = t in cc)
none_at_taking k (Failed j signs) t = absurd (let z : false ≡ true = t in cc)
none_at_taking k (Refused j op got expected) t = absurd (let z : false ≡ true = t in cc)
none_at_taking k (Sent turn) t = refl
none_at_taking k (Lost turn) t = refl

skipped : (k : ℕ) (e : LogEntry) (l : List LogEntry) → end_of k e.what ≡ None → ends k (e ∷ l) ≡ ends k l
skipped k e l none = ap (λ (o : Option Words). cons_option o (ends k l)) none

-- ---- lists

all_append : {X : Type 0} (P : X → Type 0) (xs ys : List X) → AllByRecursion P xs → AllByRecursion P ys → AllByRecursion P (xs ++ ys)
all_append P [] ys p q = q
all_append P (x ∷ xs) ys p q = (p.0, all_append P xs ys p.1 q)

pub all_reversed : {X : Type 0} (P : X → Type 0) (xs : List X) → AllByRecursion P xs → AllByRecursion P (reverse xs)
all_reversed P [] p = tt
all_reversed P (x ∷ xs) p = subst (AllByRecursion P) (sym (reverse-cons x xs)) (all_append P (reverse xs) (x ∷ []) (all_reversed P xs p.1) (p.0, tt))

pub all_weaker : {X : Type 0} (P Q : X → Type 0) → ((x : X) → P x → Q x) → (xs : List X) → AllByRecursion P xs → AllByRecursion Q xs
all_weaker P Q f [] p = tt
all_weaker P Q f (x ∷ xs) p = (f x p.0, all_weaker P Q f xs p.1)

pub all_both : {X : Type 0} (P Q : X → Type 0) (xs : List X) → AllByRecursion P xs → AllByRecursion Q xs → AllByRecursion (λ x. P x × Q x) xs
all_both P Q [] p q = tt
all_both P Q (x ∷ xs) p q = ((p.0, q.0), all_both P Q xs p.1 q.1)

reversed_option : {X : Type 0} (o : Option X) (xs : List X) → reverse xs ++ cons_option o [] ≡ reverse (cons_option o xs)
reversed_option None xs = append-nil (reverse xs)
reversed_option (Some x) xs = sym (reverse-cons x xs)

reversed : {X Y : Type 0} (f : X → Option Y) (xs : List X) → filter_map f (reverse xs) ≡ reverse (filter_map f xs)
reversed f [] = refl
reversed f (x ∷ xs) =
    ap (filter_map f) (reverse-cons x xs) ∙ (filter_map-append f (reverse xs) (x ∷ [])
    ∙ (ap (λ (ys : List _). ys ++ cons_option (f x) []) (reversed f xs) ∙ reversed_option (f x) (filter_map f xs)))

-- ---- in a log of these jobs

module _ (jobs : List Job) (turns : List GroupTurn) (count : ℕ) where
  -- a job that isn't over has no end
  no_end_by : (k : ℕ) (e : LogEntry) (l : List LogEntry) → IsLog jobs turns count (e ∷ l) → IsTo k e → (is_over (state_of k l) ≡ false → ends k l ≡ []) → is_over (state_of k (e ∷ l)) ≡ false → ends k (e ∷ l) ≡ []
  no_end_by k e l h (TakesIt t) older o = skipped k e l (none_at_taking k e.what t) ∙ older (ap is_over (taking jobs turns count k e.worker l e.what t h.0.follows).1)
  no_end_by k e l h (EndsIt t d) older o = absurd (let z : true ≡ false = sym (ap is_over (after_end k e (state_of k l) t d)) ∙ o in cc)
  no_end_by k e l h (Else t d) older o = skipped k e l (none_where k e.what d) ∙ older (sym (ap is_over (after_other k e (state_of k l) t d)) ∙ o)

  no_end : (k : ℕ) (l : List LogEntry) → IsLog jobs turns count l → is_over (state_of k l) ≡ false → ends k l ≡ []
  no_end k [] h o = refl
  no_end k (e ∷ l) h o = no_end_by k e l h (is_to k e) (no_end k l h.1) o

  -- what an entry tells of a job's end is all that is told of it, and the job is one of these
  abbrev pub EndsAlone : List LogEntry → LogEntry → Type 0
  EndsAlone l e = (k : ℕ) (ws : Words) → end_of k e.what ≡ Some ws → (ends k l ≡ ws ∷ []) × (job_of jobs k ≢ None)

  now : (e : LogEntry) (l : List LogEntry) → IsLog jobs turns count (e ∷ l) → EndsAlone (e ∷ l) e
  now e l h k ws is =
      let was = held e.worker (state_of k l) (ending jobs turns count k e.worker l e.what (ends_where k e.what ws is) h.0.follows) in
      (ap (λ (o : Option Words). cons_option o (ends k l)) is ∙ ap (λ (xs : List Words). ws ∷ xs) (no_end k l h.1 was.1), there jobs turns count k l h.1 was.0)

  later_by : (e : LogEntry) (l : List LogEntry) → IsLog jobs turns count (e ∷ l) → (k : ℕ) (ws : Words) → ends k l ≡ ws ∷ [] → IsTo k e → ends k (e ∷ l) ≡ ws ∷ []
  later_by e l h k ws was (TakesIt t) = skipped k e l (none_at_taking k e.what t) ∙ was
  later_by e l h k ws was (EndsIt t d) =
      absurd (let z : [] ≡ ws ∷ [] = sym (no_end k l h.1 (held e.worker (state_of k l) (ending jobs turns count k e.worker l e.what d h.0.follows)).1) ∙ was in cc)
  later_by e l h k ws was (Else t d) = skipped k e l (none_where k e.what d) ∙ was

  pub end_alone : (l : List LogEntry) → IsLog jobs turns count l → AllByRecursion (EndsAlone l) l
  end_alone [] h = tt
  end_alone (e ∷ l) h =
      (now e l h, all_weaker (EndsAlone l) (EndsAlone (e ∷ l)) (λ x older k ws is. let was = older k ws is in (later_by e l h k ws was.0 (is_to k e), was.1)) l (end_alone l h.1))

-- ---- the same, the oldest entry first

past : (jobs : List Job) (k : ℕ) → length jobs ≤ k → job_of jobs (suc k) ≡ None
past jobs k le = let place : suc k - 1 ≡ k = omega arith in rw (ne_eqb (suc k) 0 (λ q. omega arith), place) (slice_get_past jobs k le)

within : (jobs : List Job) (k : ℕ) → job_of jobs k ≢ None → (1 ≤ k) × (k ≤ length jobs)
within jobs zero is = absurd (is refl)
within jobs (suc k) is = (omega arith, by_length (cases_lt k (length jobs)))
  where
    by_length : (k < length jobs) ⊎ (length jobs ≤ k) → suc k ≤ length jobs
    by_length (inl lt) = omega arith
    by_length (inr le) = absurd (is (past jobs k le))

-- what an entry of a report tells of a job's end is what the job's line tells, and the job has a line
abbrev pub EndsInLine : List LogEntry → ℕ → LogEntry → Type 0
EndsInLine log lines e = (k : ℕ) (ws : Words) → end_of k e.what ≡ Some ws → (first_or_open (ends k log) ≡ ws) × (1 ≤ k) × (k < 1 + lines)

pub end_in_line : (told : Told) → IsOfItsJobs told → AllByRecursion (EndsInLine told.report.log (length told.jobs)) told.report.log
end_in_line told it =
    subst (λ (log : List LogEntry). AllByRecursion (EndsInLine told.report.log (length told.jobs)) log) (sym it.is)
    (all_reversed (EndsInLine told.report.log (length told.jobs)) it.log (all_weaker (EndsAlone it.jobs it.telegrams it.count it.log) (EndsInLine told.report.log (length told.jobs)) in_line it.log (end_alone it.jobs it.telegrams it.count it.log it.form)))
  where
    in_line : (e : LogEntry) → EndsAlone it.jobs it.telegrams it.count it.log e → EndsInLine told.report.log (length told.jobs) e
    in_line e alone k ws is =
        let h = alone k ws is in
        let place = within it.jobs k h.1 in
        let all : ends k told.report.log ≡ ws ∷ [] = ap (ends k) it.is ∙ (reversed (λ (entry : LogEntry). end_of k entry.what) it.log ∙ ap (λ (xs : List Words). reverse xs) h.0) in
        (ap first_or_open all, place.0, omega (arith, place.1, it.lines))
