-- Each entry of the log keeps the books: a job that is taken, a job that has ended, and a group telegram that is told.
use Rattle.std.proofs.Common.{◌≡◌, ◌≢◌, ◌⊎◌, inl, inr, ℕ, zero, suc, ◌-◌, ◌≤◌, List, [], ◌∷◌, length, set, Option, Some, None, refl, sym, ap, subst, ◌∙◌, arith}
use Rattle.std.specs.Prelude.{slice_get}
use Rattle.std.proofs.lemmas.Bool.{cases_eq}
use Rattle.knx_model.specs.declared.address.IndAddr.{IndAddr}
use Rattle.line_model.specs.declared.group.GroupTurn.{GroupTurn}
use Rattle.line_model.specs.declared.log.LogEntry.{LogEntry}
use Rattle.line_model.specs.declared.log.LogWhat.{LogWhat}
use Rattle.line_model.specs.declared.log.LogWhat.TheVariants.{Took, Done, Failed, Refused, Sent, Lost}
use Rattle.line_model.specs.Log as logs
use Rattle.line_model.specs.Log.{Job, IsLog, MayFollow, EndsHeld, HoldsNone, IsNextTurn, job_of, state_of, latest}
use Rattle.device_reservation.specs.declared.stage.Stage.TheVariants.{Untaken, Held, Over}
use Rattle.device_reservation.specs.Reservation.{Reservation, IsFirstFree, IsHeld, stage_of, job_taken, job_ended}
use Rattle.device_reservation.specs.Reserved.{MayEnter, after_entry, reservation_after}
use Rattle.device_reservation.proofs.Logged.{stage_in, stage_is, there_in_log, waits_in_log, held_by_log}
use Rattle.device_reservation.proofs.Numbered.{set_there, set_elsewhere}
use Rattle.device_reservation.proofs.Stages.{stage_there, stage_elsewhere}
use Rattle.std.proofs.lemmas.List.{map-set}
use Rattle.hub_work.specs.declared.crew.Held.{Held as Holding}
use Rattle.hub_work.specs.Turns.{EndsJob, TellsTurn}
use Rattle.hub_work.specs.Books.{AreJobsOf, IsWritten, IsLive, job_in, jobs_held, held_at}
use Rattle.hub_work.proofs.HeldJobs.{held_in}

abbrev entry_of : ℕ → ℕ → LogWhat → LogEntry
entry_of at worker what = record { at = at; worker = worker; what = what }

-- ---- later

later_log : (jobs : List Job) (turns : List GroupTurn) (count more : ℕ) (log : List LogEntry) → count ≤ more → IsLog jobs turns count log → IsLog jobs turns more log
later_log jobs turns count more [] le h = tt
later_log jobs turns count more (e ∷ l) le h =
    let so_far : e.at ≤ count = h.0.so_far in
    (record { so_far = omega arith; later = h.0.later; follows = h.0.follows }, later_log jobs turns count more l le h.1)

pub later : (devices : List IndAddr) (turns : List GroupTurn) (count more : ℕ) (log : List LogEntry) → count ≤ more → IsWritten devices turns count log → IsWritten devices turns more log
later devices turns count more l le h =
    let so_far : latest l ≤ count = h.so_far in
    record { form = λ jobs of. later_log jobs turns count more l le (h.form jobs of); reserved = h.reserved; so_far = omega arith }

-- ---- one more entry

writes : (r : Reservation) (turns : List GroupTurn) (at worker : ℕ) (what : LogWhat) (l : List LogEntry) → IsWritten r.devices turns at l
    → ((jobs : List Job) → AreJobsOf r.devices jobs → MayFollow jobs turns worker l what) → ((jobs : List Job) → AreJobsOf r.devices jobs → MayEnter what (reservation_after jobs l))
    → IsWritten r.devices turns at (entry_of at worker what ∷ l)
writes r turns at worker what l h follows enters = record {
  form = λ jobs of. (record { so_far = omega arith; later = h.so_far; follows = follows jobs of }, h.form jobs of);
  reserved = λ jobs of. (enters jobs of, h.reserved jobs of);
  so_far = omega arith;
}

-- of what there is in the reservation
by_log : (P : Reservation → Type 0) (r : Reservation) (held : List (Option ℕ)) (l : List LogEntry) → IsLive r held l → P r → (jobs : List Job) → AreJobsOf r.devices jobs → P (reservation_after jobs l)
by_log P r held l live p jobs of = subst P (sym (live.reservation_is jobs of)) p

-- each job is there as far as it is by the log
pub stage_by_log : (r : Reservation) (held : List (Option ℕ)) (turns : List GroupTurn) (at : ℕ) (l : List LogEntry) → IsWritten r.devices turns at l → IsLive r held l → (jobs : List Job) → AreJobsOf r.devices jobs → (k : ℕ) → job_of jobs k ≢ None
    → stage_of r k ≡ Some (stage_in (state_of k l))
stage_by_log r held turns at l h live jobs of k there = subst (λ (s : Reservation). stage_of s k ≡ Some (stage_in (state_of k l))) (live.reservation_is jobs of) (stage_is jobs l k (h.reserved jobs of) there)

-- a worker that holds no job holds none by the log
pub holds_none : (r : Reservation) (held : List (Option ℕ)) (turns : List GroupTurn) (at worker : ℕ) (l : List LogEntry) → IsWritten r.devices turns at l → IsLive r held l → 1 ≤ worker → ((k : ℕ) → slice_get held (worker - 1) ≢ Some (Some k))
    → (jobs : List Job) → AreJobsOf r.devices jobs → HoldsNone worker l
holds_none r held turns at worker l h live from empty jobs of k since e = empty k ((live.holds (worker - 1) k).1 its_stage)
  where
    number : worker ≡ suc (worker - 1)
    number = omega arith

    its_stage : stage_of r k ≡ Some (Held (suc (worker - 1)))
    its_stage =
        stage_by_log r held turns at l h live jobs of k (held_in jobs turns at l k worker since (h.form jobs of) e).there
        ∙ (ap (λ s. Some (stage_in s)) e ∙ ap (λ w. Some (Held w)) number)

-- ---- what a worker holds

-- what is read after a writing was written there, or stood there before
read_after : {X : Type 0} (xs : List X) (i j : ℕ) (y z : X) → slice_get (set xs i y) j ≡ Some z → ((j ≡ i) × (y ≡ z)) ⊎ ((j ≢ i) × (slice_get xs j ≡ Some z))
read_after [] i j y z e = absurd (cc)
read_after (x ∷ xs) zero zero y z e = inl (refl, cc)
read_after (x ∷ xs) zero (suc j) y z e = inr (λ f. omega arith, e)
read_after (x ∷ xs) (suc i) zero y z e = inr (λ f. omega arith, e)
read_after (x ∷ xs) (suc i) (suc j) y z e = read_one (read_after xs i j y z e)
  where
    read_one : ((j ≡ i) × (y ≡ z)) ⊎ ((j ≢ i) × (slice_get xs j ≡ Some z)) → ((suc j ≡ suc i) × (y ≡ z)) ⊎ ((suc j ≢ suc i) × (slice_get xs j ≡ Some z))
    read_one (inl h) = inl (ap suc h.0, h.1)
    read_one (inr h) = inr (λ f. h.0 (omega arith), h.1)

-- ---- a job is taken

pub took_written : (r : Reservation) (held : List (Option ℕ)) (turns : List GroupTurn) (at worker job : ℕ) (l : List LogEntry) → IsWritten r.devices turns at l → IsLive r held l → IsFirstFree r job → 1 ≤ worker
    → ((k : ℕ) → slice_get held (worker - 1) ≢ Some (Some k)) → IsWritten r.devices turns at (entry_of at worker (Took job) ∷ l)
took_written r held turns at worker job l h live first from empty = writes r turns at worker (Took job) l h
    (λ jobs of. let free : IsFirstFree (reservation_after jobs l) job = by_log (λ s. IsFirstFree s job) r held l live first jobs of in
    (there_in_log jobs l job free.free, waits_in_log jobs l job (h.reserved jobs of) free.free, from, holds_none r held turns at worker l h live from empty jobs of))
    (λ jobs of. by_log (λ s. IsFirstFree s job) r held l live first jobs of)

pub took_live : (r : Reservation) (held : List (Option ℕ)) (at worker job : ℕ) (l : List LogEntry) → IsLive r held l → IsFirstFree r job → 1 ≤ worker → worker ≤ length held
    → ((k : ℕ) → slice_get held (worker - 1) ≢ Some (Some k)) → IsLive (job_taken worker job r) (set held (worker - 1) (Some job)) (entry_of at worker (Took job) ∷ l)
took_live r held at worker job l live first from within empty = record {
  reservation_is = λ jobs of. ap (job_taken worker job) (live.reservation_is jobs of);
  holds = λ place k. (λ e. taken place k (read_after held (worker - 1) place (Some job) (Some k) e), λ e. read place k e);
}
  where
    untaken : stage_of r job ≡ Some Untaken
    untaken = first.free.untaken

    same_holder : (place : ℕ) → Some (Held worker) ≡ Some (Held (suc place)) → place ≡ worker - 1
    same_holder place e = let w : worker ≡ suc place = cc in omega arith

    read : (place k : ℕ) → stage_of (job_taken worker job r) k ≡ Some (Held (suc place)) → slice_get (set held (worker - 1) (Some job)) place ≡ Some (Some k)
    read place k e = elim (cases_eq k job) [
      | inl is ↦
          let here : stage_of (job_taken worker job r) k ≡ Some (Held worker) = ap (λ i. stage_of (job_taken worker job r) i) is ∙ stage_there r job Untaken (Held worker) untaken in
          let at_it : place ≡ worker - 1 = same_holder place (sym here ∙ e) in
          ap (λ i. slice_get (set held (worker - 1) (Some job)) i) at_it ∙ (set_there held (worker - 1) (Some job) (omega arith) ∙ ap (λ i. Some (Some i)) (sym is))
      | inr apart ↦
          let there : slice_get held place ≡ Some (Some k) = (live.holds place k).1 (sym (stage_elsewhere r job Untaken (Held worker) untaken k apart) ∙ e) in
          set_elsewhere held (worker - 1) place (Some job) (λ is. empty k (ap (slice_get held) (sym is) ∙ there)) ∙ there
    ]

    taken : (place k : ℕ) → ((place ≡ worker - 1) × (Some job ≡ Some k)) ⊎ ((place ≢ worker - 1) × (slice_get held place ≡ Some (Some k))) → stage_of (job_taken worker job r) k ≡ Some (Held (suc place))
    taken place k (inl h) =
        let same : job ≡ k = (let e : Some job ≡ Some k = h.1 in cc) in
        let number : worker ≡ suc place = (let e : place ≡ worker - 1 = h.0 in omega arith) in
        ap (λ k. stage_of (job_taken worker job r) k) (sym same) ∙ (stage_there r job Untaken (Held worker) first.free.untaken ∙ ap (λ w. Some (Held w)) number)
    taken place k (inr h) =
        let holds : stage_of r k ≡ Some (Held (suc place)) = (live.holds place k).0 h.1 in
        let apart : k ≢ job = (λ e. let there : stage_of r k ≡ Some Untaken = ap (λ j. stage_of r j) e ∙ untaken in differ (sym holds ∙ there)) in
        stage_elsewhere r job Untaken (Held worker) untaken k apart ∙ holds
      where
        differ : Some (Held (suc place)) ≡ Some Untaken → ⊥
        differ e = cc

-- ---- a job has ended

ends_held : (jobs : List Job) (turns : List GroupTurn) (worker job : ℕ) (what : LogWhat) (l : List LogEntry) → EndsJob job what → (since : ℕ) × (state_of job l ≡ logs.Held worker since) → MayFollow jobs turns worker l what
ends_held jobs turns worker job (Took k) l ends h = absurd ends
ends_held jobs turns worker job (Done k) l ends h = subst (λ k. EndsHeld worker (state_of k l)) (sym ends) (subst (EndsHeld worker) (sym h.1) refl)
ends_held jobs turns worker job (Failed k signs) l ends h = subst (λ k. EndsHeld worker (state_of k l)) (sym ends) (subst (EndsHeld worker) (sym h.1) refl)
ends_held jobs turns worker job (Refused k op got expected) l ends h = subst (λ k. EndsHeld worker (state_of k l)) (sym ends) (subst (EndsHeld worker) (sym h.1) refl)
ends_held jobs turns worker job (Sent turn) l ends h = absurd ends
ends_held jobs turns worker job (Lost turn) l ends h = absurd ends

ends_enter : (job : ℕ) (what : LogWhat) (r : Reservation) → EndsJob job what → IsHeld r job → MayEnter what r
ends_enter job (Took k) r ends h = absurd ends
ends_enter job (Done k) r ends h = subst (IsHeld r) (sym ends) h
ends_enter job (Failed k signs) r ends h = subst (IsHeld r) (sym ends) h
ends_enter job (Refused k op got expected) r ends h = subst (IsHeld r) (sym ends) h
ends_enter job (Sent turn) r ends h = absurd ends
ends_enter job (Lost turn) r ends h = absurd ends

ends_after : (worker job : ℕ) (what : LogWhat) (r : Reservation) → EndsJob job what → after_entry worker what r ≡ job_ended job r
ends_after worker job (Took k) r ends = absurd ends
ends_after worker job (Done k) r ends = ap (λ k. job_ended k r) ends
ends_after worker job (Failed k signs) r ends = ap (λ k. job_ended k r) ends
ends_after worker job (Refused k op got expected) r ends = ap (λ k. job_ended k r) ends
ends_after worker job (Sent turn) r ends = absurd ends
ends_after worker job (Lost turn) r ends = absurd ends

pub ended_written : (r : Reservation) (held : List (Option ℕ)) (turns : List GroupTurn) (at worker job : ℕ) (what : LogWhat) (l : List LogEntry) → EndsJob job what → IsWritten r.devices turns at l → IsLive r held l
    → stage_of r job ≡ Some (Held worker) → IsWritten r.devices turns at (entry_of at worker what ∷ l)
ended_written r held turns at worker job what l ends h live is_held = writes r turns at worker what l h
    (λ jobs of. ends_held jobs turns worker job what l ends (held_by_log jobs l job worker (h.reserved jobs of) (by_log (λ s. stage_of s job ≡ Some (Held worker)) r held l live is_held jobs of)))
    (λ jobs of. ends_enter job what (reservation_after jobs l) ends (worker, by_log (λ s. stage_of s job ≡ Some (Held worker)) r held l live is_held jobs of))

pub ended_live : (r : Reservation) (held : List (Option ℕ)) (at worker job : ℕ) (what : LogWhat) (l : List LogEntry) → EndsJob job what → IsLive r held l → 1 ≤ worker → stage_of r job ≡ Some (Held worker)
    → IsLive (job_ended job r) (set held (worker - 1) None) (entry_of at worker what ∷ l)
ended_live r held at worker job what l ends live from is_held = record {
  reservation_is = λ jobs of. ends_after worker job what (reservation_after jobs l) ends ∙ ap (job_ended job) (live.reservation_is jobs of);
  holds = λ place k. (λ e. over place k (read_after held (worker - 1) place None (Some k) e), λ e. read place k e);
}
  where
    here : slice_get held (worker - 1) ≡ Some (Some job)
    here = (live.holds (worker - 1) job).1 (is_held ∙ ap (λ w. Some (Held w)) (let number : worker ≡ suc (worker - 1) = omega arith in number))

    differ : (place : ℕ) → Some Over ≡ Some (Held (suc place)) → ⊥
    differ place e = cc

    same_job : (k : ℕ) → Some (Some job) ≡ Some (Some k) → k ≡ job
    same_job k e = cc

    read : (place k : ℕ) → stage_of (job_ended job r) k ≡ Some (Held (suc place)) → slice_get (set held (worker - 1) None) place ≡ Some (Some k)
    read place k e = elim (cases_eq k job) [
      | inl is ↦ absurd (differ place (sym (ap (λ i. stage_of (job_ended job r) i) is ∙ stage_there r job (Held worker) Over is_held) ∙ e))
      | inr apart ↦
          let there : slice_get held place ≡ Some (Some k) = (live.holds place k).1 (sym (stage_elsewhere r job (Held worker) Over is_held k apart) ∙ e) in
          set_elsewhere held (worker - 1) place None (λ is. apart (same_job k (sym here ∙ (ap (slice_get held) (sym is) ∙ there)))) ∙ there
    ]

    over : (place k : ℕ) → ((place ≡ worker - 1) × (None ≡ Some k)) ⊎ ((place ≢ worker - 1) × (slice_get held place ≡ Some (Some k))) → stage_of (job_ended job r) k ≡ Some (Held (suc place))
    over place k (inl h) = absurd (let e : None ≡ Some k = h.1 in cc)
    over place k (inr h) =
        let holds : stage_of r k ≡ Some (Held (suc place)) = (live.holds place k).0 h.1 in
        let apart : k ≢ job = (λ e. let there : stage_of r k ≡ Some (Held worker) = ap (λ j. stage_of r j) e ∙ is_held in h.0 (other (sym holds ∙ there))) in
        stage_elsewhere r job (Held worker) Over is_held k apart ∙ holds
      where
        other : Some (Held (suc place)) ≡ Some (Held worker) → place ≡ worker - 1
        other e = let w : suc place ≡ worker = cc in omega arith

-- ---- a group telegram is told

tells_follow : (jobs : List Job) (turns : List GroupTurn) (turn : ℕ) (what : LogWhat) (l : List LogEntry) → TellsTurn turn what → IsNextTurn turns l turn → MayFollow jobs turns 0 l what
tells_follow jobs turns turn (Took k) l tells next = absurd tells
tells_follow jobs turns turn (Done k) l tells next = absurd tells
tells_follow jobs turns turn (Failed k signs) l tells next = absurd tells
tells_follow jobs turns turn (Refused k op got expected) l tells next = absurd tells
tells_follow jobs turns turn (Sent k) l tells next = (subst (IsNextTurn turns l) (sym tells) next, refl)
tells_follow jobs turns turn (Lost k) l tells next = (subst (IsNextTurn turns l) (sym tells) next, refl)

tells_enter : (turn : ℕ) (what : LogWhat) (r : Reservation) → TellsTurn turn what → MayEnter what r
tells_enter turn (Took k) r tells = absurd tells
tells_enter turn (Done k) r tells = absurd tells
tells_enter turn (Failed k signs) r tells = absurd tells
tells_enter turn (Refused k op got expected) r tells = absurd tells
tells_enter turn (Sent k) r tells = tt
tells_enter turn (Lost k) r tells = tt

tells_after : (turn : ℕ) (what : LogWhat) (r : Reservation) → TellsTurn turn what → after_entry 0 what r ≡ r
tells_after turn (Took k) r tells = absurd tells
tells_after turn (Done k) r tells = absurd tells
tells_after turn (Failed k signs) r tells = absurd tells
tells_after turn (Refused k op got expected) r tells = absurd tells
tells_after turn (Sent k) r tells = refl
tells_after turn (Lost k) r tells = refl

pub told_written : (r : Reservation) (turns : List GroupTurn) (at turn : ℕ) (what : LogWhat) (l : List LogEntry) → TellsTurn turn what → IsWritten r.devices turns at l → IsNextTurn turns l turn
    → IsWritten r.devices turns at (entry_of at 0 what ∷ l)
told_written r turns at turn what l tells h next = writes r turns at 0 what l h (λ jobs of. tells_follow jobs turns turn what l tells next) (λ jobs of. tells_enter turn what (reservation_after jobs l) tells)

pub told_live : (r : Reservation) (held : List (Option ℕ)) (at turn : ℕ) (what : LogWhat) (l : List LogEntry) → TellsTurn turn what → IsLive r held l → IsLive r held (entry_of at 0 what ∷ l)
told_live r held at turn what l tells live = record {
  reservation_is = λ jobs of. tells_after turn what (reservation_after jobs l) tells ∙ live.reservation_is jobs of;
  holds = live.holds;
}

-- ---- the workers

-- the worker that holds a job holds it in the reservation
pub holds_it : (r : Reservation) (held : List (Option Holding)) (l : List LogEntry) (worker : ℕ) (h : Holding) → IsLive r (jobs_held held) l → 1 ≤ worker → Some h ≡ held_at held (worker - 1) → stage_of r h.job ≡ Some (Held worker)
holds_it r held l worker h live from e = (live.holds (worker - 1) h.job).0 (there held (worker - 1) e) ∙ ap (λ w. Some (Held w)) (let n : suc (worker - 1) ≡ worker = omega arith in n)
  where
    there : (held : List (Option Holding)) (place : ℕ) → Some h ≡ held_at held place → slice_get (jobs_held held) place ≡ Some (Some h.job)
    there [] place e = absurd (cc)
    there (x ∷ xs) zero e = ap (λ (o : Option Holding). Some (job_in o)) (sym e)
    there (x ∷ xs) (suc place) e = there xs place e

pub set_jobs : (held : List (Option Holding)) (place : ℕ) (h : Option Holding) → jobs_held (set held place h) ≡ set (jobs_held held) place (job_in h)
set_jobs held place h = map-set job_in held place h

-- the job that was just taken is held
pub taken_held : (r before : Reservation) (worker job : ℕ) → r ≡ job_taken worker job before → IsFirstFree before job → IsHeld r job
taken_held r before worker job e first = (worker, ap (λ s. stage_of s job) e ∙ stage_there before job Untaken (Held worker) first.free.untaken)
