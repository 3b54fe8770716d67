-- Whether a job has no end yet, by the count and by the log.
use Rattle.std.proofs.Common.{◌≡◌, ◌≢◌, ℕ, zero, suc, ◌+◌, ◌-◌, ◌<◌, ◌≤◌, cond, Bool, true, false, length, List, [], ◌∷◌, Some, None, refl, sym, ap, subst, ◌∙◌, arith}
use Rattle.std.specs.Prelude.{slice_get, nat_lt}
use Rattle.std.specs.List.{count_by}
use Rattle.std.proofs.lemmas.Bool.Decides.{nat_tests}
use Rattle.std.proofs.lemmas.List.Sums.{sum_by-cons}
use Rattle.std.proofs.lemmas.Option.{same_Some}
use Rattle.line_model.specs.Log.{Job, JobState, Untaken, Held, Over, AllOver, JobUnfinished, job_of, state_of}
use Rattle.device_reservation.specs.declared.stage.Stage.{Stage}
use Rattle.device_reservation.specs.Reservation.{Reservation, AllTaken, stage_of}
use Rattle.device_reservation.proofs.Logged.{stage_in, length_is, is_there}
use Rattle.device_reservation.proofs.Numbered.{by_place, from_1}
use Rattle.hub_work.specs.declared.work.Work.{Work}
use Rattle.hub_work.specs.Books.{AreJobsOf, jobs_held, held_at}
use Rattle.hub_work.specs.Counts.{is_unfinished}
use Rattle.hub_work.specs.Turns.{HasFinished}
use Rattle.hub_work.specs.Works.{KeepsBooks, HasUnfinished}
use Rattle.hub_work.proofs.Books.{stage_by_log, holds_none}
use Rattle.hub_work.proofs.Crews.{no_job}
use Rattle.hub_work.proofs.Rooms.{at_least, one_if}

abbrev one_of : Bool → ℕ
one_of b = cond b 1 0

-- ---- the stage of a job that is over, and of one that isn't

over_stage : (s : JobState) → is_unfinished (stage_in s) ≡ false → s ≡ Over
over_stage Untaken e = absurd (cc)
over_stage (Held worker since) e = absurd (cc)
over_stage Over e = refl

over_isnt : (s : JobState) → is_unfinished (stage_in s) ≡ true → s ≢ Over
over_isnt Untaken e f = cc
over_isnt (Held worker since) e f = cc
over_isnt Over e f = cc

module _ (w : Work) (jobs : List Job) (at : ℕ) (books : KeepsBooks at w) (of : AreJobsOf w.reservation.devices jobs) where
  its_stage : (k : ℕ) → job_of jobs k ≢ None → stage_of w.reservation k ≡ Some (stage_in (state_of k w.journal.entries))
  its_stage k there = stage_by_log w.reservation (jobs_held w.crew) w.telegrams.turns at w.journal.entries books.written books.live jobs of k there

  stages_are : length w.reservation.stages ≡ length jobs
  stages_are = subst (λ (r : Reservation). length r.stages ≡ length jobs) (books.live.reservation_is jobs of) (length_is jobs w.journal.entries)

  at_place : (k : ℕ) → job_of jobs k ≢ None → slice_get w.reservation.stages (k - 1) ≡ Some (stage_in (state_of k w.journal.entries))
  at_place k there = sym (by_place w.reservation.stages k (from_1 w.reservation.stages k (stage_in (state_of k w.journal.entries)) (its_stage k there))) ∙ its_stage k there

  -- ---- none

  none_left : (s : Stage) → one_if s ≤ 0 → is_unfinished s ≡ false
  none_left s le = by_test (is_unfinished s) refl
    where
      by_test : (b : Bool) → is_unfinished s ≡ b → is_unfinished s ≡ false
      by_test true e = absurd (let one : one_if s ≡ 1 = ap (λ (b : Bool). one_of b) e in omega (arith, one, le))
      by_test false e = e

  pub all_over : nat_lt 0 w.unfinished ≡ false → AllOver jobs w.journal.entries
  all_over e k there =
      let none : w.unfinished ≤ 0 = no_more w.unfinished e in
      let count : w.unfinished ≡ count_by is_unfinished w.reservation.stages = books.counts.unfinished in
      let least : one_if (stage_in (state_of k w.journal.entries)) ≤ count_by is_unfinished w.reservation.stages = at_least one_if w.reservation.stages (k - 1) (stage_in (state_of k w.journal.entries)) (at_place k there) in
      over_stage (state_of k w.journal.entries) (none_left (stage_in (state_of k w.journal.entries)) (omega (arith, none, count, least)))
    where
      no_more : (n : ℕ) → nat_lt 0 n ≡ false → n ≤ 0
      no_more n e = grind (arith, nat_tests)

  -- ---- some

  pub some_left : nat_lt 0 w.unfinished ≡ true → JobUnfinished jobs w.journal.entries
  some_left e =
      let u : (i : ℕ) × (s : Stage) × (slice_get w.reservation.stages i ≡ Some s) × (is_unfinished s ≡ true) = one_left w.reservation.stages (let count : w.unfinished ≡ count_by is_unfinished w.reservation.stages = books.counts.unfinished in let n : 0 < w.unfinished = more w.unfinished e in omega (arith, count, n)) in
      let lt : u.0 < length w.reservation.stages = within w.reservation.stages u.0 u.1 u.2 in
      let there : job_of jobs (u.0 + 1) ≢ None = is_there jobs (u.0 + 1) (omega arith) (omega (arith, lt, stages_are)) in
      let place : u.0 + 1 - 1 ≡ u.0 = omega arith in
      let same : u.1 ≡ stage_in (state_of (u.0 + 1) w.journal.entries) = same_Some u.1 (stage_in (state_of (u.0 + 1) w.journal.entries)) (sym u.2 ∙ (ap (slice_get w.reservation.stages) (sym place) ∙ at_place (u.0 + 1) there)) in
      (u.0 + 1, there, over_isnt (state_of (u.0 + 1) w.journal.entries) (ap is_unfinished (sym same) ∙ u.3))
    where
      more : (n : ℕ) → nat_lt 0 n ≡ true → 0 < n
      more n e = grind (arith, nat_tests)

      within : (ss : List Stage) (i : ℕ) (s : Stage) → slice_get ss i ≡ Some s → i < length ss
      within [] i s e = absurd (cc)
      within (x ∷ ss) zero s e = omega arith
      within (x ∷ ss) (suc i) s e = let lt : i < length ss = within ss i s e in omega arith

      one_left : (ss : List Stage) → 0 < count_by is_unfinished ss → (i : ℕ) × (s : Stage) × (slice_get ss i ≡ Some s) × (is_unfinished s ≡ true)
      one_left [] lt = absurd (omega arith)
      one_left (x ∷ ss) lt = by_first (is_unfinished x) refl (λ l. one_left ss l) (omega (arith, sum_by-cons one_if x ss, lt))
        where
          by_first : (b : Bool) → is_unfinished x ≡ b → (0 < count_by is_unfinished ss → (i : ℕ) × (s : Stage) × (slice_get ss i ≡ Some s) × (is_unfinished s ≡ true)) → 0 < one_if x + count_by is_unfinished ss
              → (i : ℕ) × (s : Stage) × (slice_get (x ∷ ss) i ≡ Some s) × (is_unfinished s ≡ true)
          by_first true e rest l = (0, x, refl, e)
          by_first false e rest l =
              let zero_of : one_if x ≡ 0 = ap (λ (b : Bool). one_of b) e in
              let r = rest (omega (arith, l, zero_of)) in
              (suc r.0, r.1, r.2, r.3)

  left_so : JobUnfinished jobs w.journal.entries → nat_lt 0 w.unfinished ≡ true
  left_so u = by_test (nat_lt 0 w.unfinished) refl
    where
      by_test : (b : Bool) → nat_lt 0 w.unfinished ≡ b → nat_lt 0 w.unfinished ≡ true
      by_test true e = e
      by_test false e = absurd (u.2 (all_over e u.0 u.1))

pub has_unfinished : (w : Work) → HasUnfinished w (nat_lt 0 w.unfinished)
has_unfinished w jobs at books of = (λ e. some_left w jobs at books of e, λ u. left_so w jobs at books of u)

-- ---- where all jobs are taken, a worker that holds none has finished

pub finished : (w : Work) (jobs : List Job) (at worker : ℕ) → KeepsBooks at w → AreJobsOf w.reservation.devices jobs → 1 ≤ worker → None ≡ held_at w.crew (worker - 1) → AllTaken w.reservation → HasFinished worker jobs w.journal.entries
finished w jobs at worker books of from empty taken = record {
  all_taken = λ k there waits. taken k (its_stage w jobs at books of k there ∙ ap (λ s. Some (stage_in s)) waits);
  holds_none = holds_none w.reservation (jobs_held w.crew) w.telegrams.turns at worker w.journal.entries books.written books.live from (no_job w.crew (worker - 1) empty) jobs of;
}
