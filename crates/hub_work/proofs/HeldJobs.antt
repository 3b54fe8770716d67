-- The jobs that workers hold by the log: each is there, is held since a place that was, and no two of them are of one device.
use Rattle.std.proofs.Common.{◌≡◌, ◌≢◌, inl, inr, ℕ, ◌≤◌, eqb, Bool, true, false, List, [], ◌∷◌, Option, Some, None, refl, sym, ap, subst, ◌∙◌, arith}
use Rattle.std.specs.Prelude.{if◌then◌else◌}
use Rattle.std.proofs.lemmas.Bool.{cases_eq, ne_eqb, eqb-true}
use Rattle.line_model.specs.declared.group.GroupTurn.{GroupTurn}
use Rattle.line_model.specs.declared.log.LogEntry.{LogEntry}
use Rattle.line_model.specs.declared.log.LogWhat.{LogWhat}
use Rattle.line_model.specs.declared.log.LogWhat.TheVariants.{Took, Done, Failed, Refused, Sent, Lost}
use Rattle.line_model.specs.Log.{Job, JobState, Held, Over, IsLog, MayFollow, SameDevice, IsFree, TakesFree, OneDownloaderPerDevice, job_of, state_of, takes_it, ends_it, is_turn, turn_place}

-- ---- where the newest entry didn't take the job, it was held before

pub before : (t o : Bool) (by at worker since : ℕ) (s : JobState) → t ≡ false → (if t then Held by at else (if o then Over else s)) ≡ Held worker since → s ≡ Held worker since
before true o by at worker since s isnt e = absurd (cc)
before false true by at worker since s isnt e = absurd (cc)
before false false by at worker since s isnt e = e

-- ---- what the log's form says of it

pub record IsHeldIn (jobs : List Job) (at k worker since : ℕ) : Type 0 where
  pub there : job_of jobs k ≢ None
  pub from_1 : 1 ≤ worker
  pub so_far : since ≤ at

same_hold : (by at worker since : ℕ) → Held by at ≡ Held worker since → (by ≡ worker) × (at ≡ since)
same_hold by at worker since e = (cc, cc)

taken_now : (jobs : List Job) (turns : List GroupTurn) (count k worker since : ℕ) (by at : ℕ) (what : LogWhat) (log : List LogEntry) → at ≤ count → MayFollow jobs turns by log what → takes_it k what ≡ true → Held by at ≡ Held worker since
    → IsHeldIn jobs count k worker since
taken_now jobs turns count k worker since by at (Took j) log up may t e =
    let is : j ≡ k = eqb-true j k t in
    let s : (by ≡ worker) × (at ≡ since) = same_hold by at worker since e in
    let b : by ≡ worker = s.0 in
    let a : at ≡ since = s.1 in
    let one : 1 ≤ by = may.2 in
    record { there = subst (λ (i : ℕ). job_of jobs i ≢ None) is may.0; from_1 = omega (arith, b); so_far = omega (arith, a) }
taken_now jobs turns count k worker since by at (Done j) log up may t e = absurd (cc)
taken_now jobs turns count k worker since by at (Failed j signs) log up may t e = absurd (cc)
taken_now jobs turns count k worker since by at (Refused j op got expected) log up may t e = absurd (cc)
taken_now jobs turns count k worker since by at (Sent j) log up may t e = absurd (cc)
taken_now jobs turns count k worker since by at (Lost j) log up may t e = absurd (cc)

pub held_in : (jobs : List Job) (turns : List GroupTurn) (count : ℕ) (log : List LogEntry) (k worker since : ℕ) → IsLog jobs turns count log → state_of k log ≡ Held worker since → IsHeldIn jobs count k worker since
held_in jobs turns count [] k worker since h e = absurd (cc)
held_in jobs turns count (x ∷ log) k worker since h e = by_taking (λ older. held_in jobs turns count log k worker since h.1 older) (takes_it k x.what) refl
  where
    by_taking : (state_of k log ≡ Held worker since → IsHeldIn jobs count k worker since) → (t : Bool) → takes_it k x.what ≡ t → IsHeldIn jobs count k worker since
    by_taking older true t = taken_now jobs turns count k worker since x.worker x.at x.what log h.0.so_far h.0.follows t (sym (ap (λ (b : Bool). if b then Held x.worker x.at else (if ends_it k x.what then Over else state_of k log)) t) ∙ e)
    by_taking older false t = older (before (takes_it k x.what) (ends_it k x.what) x.worker x.at worker since (state_of k log) t e)

pub turn_so_far : (jobs : List Job) (turns : List GroupTurn) (count : ℕ) (log : List LogEntry) (k : ℕ) → IsLog jobs turns count log → turn_place k log ≤ count
turn_so_far jobs turns count [] k h = omega arith
turn_so_far jobs turns count (x ∷ log) k h = either (is_turn k x.what) (turn_place k log) (turn_so_far jobs turns count log k h.1) h.0.so_far
  where
    either : (b : Bool) (p : ℕ) → p ≤ count → x.at ≤ count → (if b then x.at else p) ≤ count
    either true p up at = at
    either false p up at = up

-- ---- no two jobs of one device

other_side : (a b : Option Job) → SameDevice a b → SameDevice b a
other_side None b e = absurd e
other_side (Some a) None e = absurd e
other_side (Some a) (Some b) e = sym e

module _ (jobs : List Job) (log : List LogEntry) (by at j k w s v t : ℕ) (same : SameDevice (job_of jobs j) (job_of jobs k)) (older : state_of j log ≡ Held w s → state_of k log ≡ Held v t → j ≡ k) where
  took_one : (x : ℕ) → IsFree jobs log x → (if eqb x j then Held by at else (if false then Over else state_of j log)) ≡ Held w s → (if eqb x k then Held by at else (if false then Over else state_of k log)) ≡ Held v t → j ≡ k
  took_one x free ej ek = elim (cases_eq x j) [
    | inl isj ↦ elim (cases_eq x k) [
      | inl isk ↦ sym isj ∙ isk
      | inr notk ↦ absurd (free.alone k v t (subst (λ (i : ℕ). SameDevice (job_of jobs i) (job_of jobs k)) (sym isj) same) (before (eqb x k) false by at v t (state_of k log) (ne_eqb x k notk) ek))
    ]
    | inr notj ↦ elim (cases_eq x k) [
      | inl isk ↦ absurd (free.alone j w s (subst (λ (i : ℕ). SameDevice (job_of jobs i) (job_of jobs j)) (sym isk) (other_side (job_of jobs j) (job_of jobs k) same)) (before (eqb x j) false by at w s (state_of j log) (ne_eqb x j notj) ej))
      | inr notk ↦ older (before (eqb x j) false by at w s (state_of j log) (ne_eqb x j notj) ej) (before (eqb x k) false by at v t (state_of k log) (ne_eqb x k notk) ek)
    ]
  ]

  one_more : (what : LogWhat) → TakesFree jobs log what → (if takes_it j what then Held by at else (if ends_it j what then Over else state_of j log)) ≡ Held w s
      → (if takes_it k what then Held by at else (if ends_it k what then Over else state_of k log)) ≡ Held v t → j ≡ k
  one_more (Took x) free ej ek = took_one x free ej ek
  one_more (Done x) free ej ek = older (before false (eqb x j) by at w s (state_of j log) refl ej) (before false (eqb x k) by at v t (state_of k log) refl ek)
  one_more (Failed x signs) free ej ek = older (before false (eqb x j) by at w s (state_of j log) refl ej) (before false (eqb x k) by at v t (state_of k log) refl ek)
  one_more (Refused x op got expected) free ej ek = older (before false (eqb x j) by at w s (state_of j log) refl ej) (before false (eqb x k) by at v t (state_of k log) refl ek)
  one_more (Sent x) free ej ek = older ej ek
  one_more (Lost x) free ej ek = older ej ek

pub alone_held : (jobs : List Job) (log : List LogEntry) (j k w s v t : ℕ) → OneDownloaderPerDevice jobs log → SameDevice (job_of jobs j) (job_of jobs k) → state_of j log ≡ Held w s → state_of k log ≡ Held v t → j ≡ k
alone_held jobs [] j k w s v t one same ej ek = absurd (cc)
alone_held jobs (e ∷ log) j k w s v t one same ej ek =
    one_more jobs log e.worker e.at j k w s v t same (λ oj ok. alone_held jobs log j k w s v t one.1 same oj ok) e.what one.0 ej ek
