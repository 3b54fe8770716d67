-- A reservation and the log of what was taken and ended through it.
use Rattle.std.proofs.Common.{◌≡◌, ◌≢◌, ℕ, zero, suc, ◌-◌, ◌<◌, ◌≤◌, inl, inr, eqb, List, [], ◌∷◌, length, map, Option, Some, None, refl, sym, ap, subst, ◌∙◌, arith}
use Rattle.std.specs.Prelude.{slice_get, if◌then◌else◌}
use Rattle.std.proofs.lemmas.Bool.{cases_eq, eq-eqb, ne_eqb}
use Rattle.std.proofs.lemmas.List.{length-set, length-replicate}
use Rattle.knx_model.specs.declared.address.IndAddr.{IndAddr}
use Rattle.line_model.specs.declared.log.LogEntry.{LogEntry}
use Rattle.line_model.specs.declared.log.LogWhat.{LogWhat}
use Rattle.line_model.specs.declared.log.LogWhat.TheVariants.{Took, Done, Failed, Refused, Sent, Lost}
use Rattle.line_model.specs.Log as logs
use Rattle.line_model.specs.Log.{Job, JobState, job_of, state_of, numbered_from_one, takes_it, ends_it, TakesFree, OneDownloaderPerDevice, TakesFirst, TakenInOrder}
use Rattle.device_reservation.specs.declared.stage.Stage.{Stage}
use Rattle.device_reservation.specs.declared.stage.Stage.TheVariants.{Untaken, Held, Over}
use Rattle.device_reservation.specs.Reservation.{Reservation, device_of, stage_of, AreOneDevice, SameDevice, IsFree, IsHeld, with_stage, none_taken}
use Rattle.device_reservation.specs.Reserved.{IsReserved, MayEnter, after_entry, reservation_after, device_of_job}
use Rattle.device_reservation.proofs.Numbered.{by_place, from_1, within, of_all_there}
use Rattle.device_reservation.proofs.Stages.{stage_there, stage_elsewhere}

-- ---- a job's state by the log, as a stage

abbrev pub stage_in : JobState → Stage
stage_in logs.Untaken = Untaken
stage_in (logs.Held by since) = Held by
stage_in logs.Over = Over

untaken_in_log : (s : JobState) → stage_in s ≡ Untaken → s ≡ logs.Untaken
untaken_in_log logs.Untaken e = refl
untaken_in_log (logs.Held by since) e = absurd (cc)
untaken_in_log logs.Over e = absurd (cc)

held_in_log : (s : JobState) (worker : ℕ) → stage_in s ≡ Held worker → (since : ℕ) × (s ≡ logs.Held worker since)
held_in_log logs.Untaken worker e = absurd (cc)
held_in_log (logs.Held by since) worker e = let same : by ≡ worker = cc in (since, ap (λ by. logs.Held by since) same)
held_in_log logs.Over worker e = absurd (cc)

-- ---- the same jobs

abbrev device_in : Option Job → Option IndAddr
device_in None = None
device_in (Some job) = Some job.device

place_in_map : (jobs : List Job) (i : ℕ) → slice_get (map device_of_job jobs) i ≡ device_in (slice_get jobs i)
place_in_map [] i = refl
place_in_map (job ∷ jobs) zero = refl
place_in_map (job ∷ jobs) (suc i) = place_in_map jobs i

number_in_map : (jobs : List Job) (k : ℕ) → numbered_from_one (map device_of_job jobs) k ≡ device_in (job_of jobs k)
number_in_map jobs zero = refl
number_in_map jobs (suc k) =
    by_place (map device_of_job jobs) (suc k) (omega arith) ∙ place_in_map jobs (suc k - 1) ∙ ap device_in (sym (by_place jobs (suc k) (omega arith)))

length_in_map : (jobs : List Job) → length (map device_of_job jobs) ≡ length jobs
length_in_map [] = refl
length_in_map (job ∷ jobs) = ap suc (length_in_map jobs)

same_devices : (what : LogWhat) (worker : ℕ) (r : Reservation) → (after_entry worker what r).devices ≡ r.devices
same_devices (Took job) worker r = refl
same_devices (Done job) worker r = refl
same_devices (Failed job signs) worker r = refl
same_devices (Refused job op got expected) worker r = refl
same_devices (Sent turn) worker r = refl
same_devices (Lost turn) worker r = refl

devices_are : (jobs : List Job) (log : List LogEntry) → (reservation_after jobs log).devices ≡ map device_of_job jobs
devices_are jobs [] = refl
devices_are jobs (e ∷ log) = same_devices e.what e.worker (reservation_after jobs log) ∙ devices_are jobs log

same_length : (what : LogWhat) (worker : ℕ) (r : Reservation) → length (after_entry worker what r).stages ≡ length r.stages
same_length (Took job) worker r = length-set r.stages (job - 1) (Held worker)
same_length (Done job) worker r = length-set r.stages (job - 1) Over
same_length (Failed job signs) worker r = length-set r.stages (job - 1) Over
same_length (Refused job op got expected) worker r = length-set r.stages (job - 1) Over
same_length (Sent turn) worker r = refl
same_length (Lost turn) worker r = refl

pub length_is : (jobs : List Job) (log : List LogEntry) → length (reservation_after jobs log).stages ≡ length jobs
length_is jobs [] = length-replicate (length (map device_of_job jobs)) Untaken ∙ length_in_map jobs
length_is jobs (e ∷ log) = same_length e.what e.worker (reservation_after jobs log) ∙ length_is jobs log

device_is : (jobs : List Job) (log : List LogEntry) (k : ℕ) → device_of (reservation_after jobs log) k ≡ device_in (job_of jobs k)
device_is jobs log k = ap (λ devices. numbered_from_one devices k) (devices_are jobs log) ∙ number_in_map jobs k

-- ---- the same stages

some_at : (jobs : List Job) (i : ℕ) → i < length jobs → slice_get jobs i ≢ None
some_at [] i lt e = absurd (omega arith)
some_at (job ∷ jobs) zero lt e = absurd (cc)
some_at (job ∷ jobs) (suc i) lt e = some_at jobs i (omega arith) e

pub is_there : (jobs : List Job) (k : ℕ) → 1 ≤ k → k ≤ length jobs → job_of jobs k ≢ None
is_there jobs k from to e = some_at jobs (k - 1) (omega arith) (sym (by_place jobs k from) ∙ e)

there_is : (o : Option Job) → o ≢ None → (job : Job) × (o ≡ Some job)
there_is None e = absurd (e refl)
there_is (Some job) e = (job, refl)

at_first : (jobs : List Job) (k : ℕ) → job_of jobs k ≢ None → stage_of (none_taken (map device_of_job jobs)) k ≡ Some Untaken
at_first jobs k there =
    let j : (job : Job) × (job_of jobs k ≡ Some job) = there_is (job_of jobs k) there in
    of_all_there (length (map device_of_job jobs)) k Untaken (from_1 jobs k j.0 j.1) (omega (arith, within jobs k j.0 j.1, length_in_map jobs))

ends : (r : Reservation) (job k : ℕ) (s : JobState) → IsHeld r job → stage_of r k ≡ Some (stage_in s) → stage_of (with_stage r job Over) k ≡ Some (stage_in (if eqb job k then logs.Over else s))
ends r job k s held e = elim (cases_eq job k) [
  | inl is ↦ rw (eq-eqb job k is) (ap (λ k. stage_of (with_stage r job Over) k) (sym is) ∙ stage_there r job (Held held.0) Over held.1)
  | inr apart ↦ rw (ne_eqb job k apart) (stage_elsewhere r job (Held held.0) Over held.1 k (λ is. apart (sym is)) ∙ e)
]

enters : (what : LogWhat) (worker at k : ℕ) (s : JobState) (r : Reservation) → MayEnter what r → stage_of r k ≡ Some (stage_in s)
    → stage_of (after_entry worker what r) k ≡ Some (stage_in (if takes_it k what then logs.Held worker at else (if ends_it k what then logs.Over else s)))
enters (Took job) worker at k s r first e = elim (cases_eq job k) [
  | inl is ↦ rw (eq-eqb job k is) (ap (λ k. stage_of (with_stage r job (Held worker)) k) (sym is) ∙ stage_there r job Untaken (Held worker) first.free.untaken)
  | inr apart ↦ rw (ne_eqb job k apart) (stage_elsewhere r job Untaken (Held worker) first.free.untaken k (λ is. apart (sym is)) ∙ e)
]
enters (Done job) worker at k s r held e = ends r job k s held e
enters (Failed job signs) worker at k s r held e = ends r job k s held e
enters (Refused job op got expected) worker at k s r held e = ends r job k s held e
enters (Sent turn) worker at k s r held e = e
enters (Lost turn) worker at k s r held e = e

pub stage_is : (jobs : List Job) (log : List LogEntry) (k : ℕ) → IsReserved jobs log → job_of jobs k ≢ None → stage_of (reservation_after jobs log) k ≡ Some (stage_in (state_of k log))
stage_is jobs [] k reserved there = at_first jobs k there
stage_is jobs (e ∷ log) k reserved there = enters e.what e.worker e.at k (state_of k log) (reservation_after jobs log) reserved.0 (stage_is jobs log k reserved.1 there)

-- ---- the same devices

to_log : (a b : Option Job) → AreOneDevice (device_in a) (device_in b) → logs.SameDevice a b
to_log None b e = absurd e
to_log (Some a) None e = absurd e
to_log (Some a) (Some b) e = e

from_log : (a b : Option Job) → logs.SameDevice a b → AreOneDevice (device_in a) (device_in b)
from_log None b e = absurd e
from_log (Some a) None e = absurd e
from_log (Some a) (Some b) e = e

right_there : (a b : Option Job) → logs.SameDevice a b → b ≢ None
right_there None b e none = absurd e
right_there (Some a) None e none = absurd e
right_there (Some a) (Some b) e none = absurd (cc)

one_device : (jobs : List Job) (log : List LogEntry) (job other : ℕ) → logs.SameDevice (job_of jobs job) (job_of jobs other) → SameDevice (reservation_after jobs log) job other
one_device jobs l job other same =
    subst (λ a. AreOneDevice a (device_of (reservation_after jobs l) other)) (sym (device_is jobs l job)) (subst (λ b. AreOneDevice (device_in (job_of jobs job)) b) (sym (device_is jobs l other)) (from_log (job_of jobs job) (job_of jobs other) same))

as_in_log : (jobs : List Job) (log : List LogEntry) (job other : ℕ) → SameDevice (reservation_after jobs log) job other → logs.SameDevice (job_of jobs job) (job_of jobs other)
as_in_log jobs l job other same =
    to_log (job_of jobs job) (job_of jobs other) (subst (λ a. AreOneDevice a (device_in (job_of jobs other))) (device_is jobs l job) (subst (λ b. AreOneDevice (device_of (reservation_after jobs l) job) b) (device_is jobs l other) same))

-- ---- the same jobs are free

pub free_in_log : (jobs : List Job) (log : List LogEntry) (job : ℕ) → IsReserved jobs log → IsFree (reservation_after jobs log) job → logs.IsFree jobs log job
free_in_log jobs l job reserved free = record {
  alone = λ other worker since same held.
      let stage : stage_of (reservation_after jobs l) other ≡ Some (stage_in (state_of other l)) = stage_is jobs l other reserved (right_there (job_of jobs job) (job_of jobs other) same) in
      free.alone other worker (one_device jobs l job other same) (stage ∙ ap (λ s. Some (stage_in s)) held);
  in_order = λ other lt same untaken.
      let stage : stage_of (reservation_after jobs l) other ≡ Some (stage_in (state_of other l)) = stage_is jobs l other reserved (right_there (job_of jobs job) (job_of jobs other) same) in
      free.in_order other lt (one_device jobs l job other same) (stage ∙ ap (λ s. Some (stage_in s)) untaken);
}

pub there_in_log : (jobs : List Job) (log : List LogEntry) (job : ℕ) → IsFree (reservation_after jobs log) job → job_of jobs job ≢ None
there_in_log jobs l job free =
    is_there jobs job (from_1 (reservation_after jobs l).stages job Untaken free.untaken) (omega (arith, within (reservation_after jobs l).stages job Untaken free.untaken, length_is jobs l))

pub waits_in_log : (jobs : List Job) (log : List LogEntry) (job : ℕ) → IsReserved jobs log → IsFree (reservation_after jobs log) job → state_of job log ≡ logs.Untaken
waits_in_log jobs l job reserved free =
    let stage : stage_of (reservation_after jobs l) job ≡ Some (stage_in (state_of job l)) = stage_is jobs l job reserved (there_in_log jobs l job free) in
    let untaken : stage_of (reservation_after jobs l) job ≡ Some Untaken = free.untaken in
    untaken_in_log (state_of job l) (cc)

pub free_from_log : (jobs : List Job) (log : List LogEntry) (job : ℕ) → IsReserved jobs log → job_of jobs job ≢ None → state_of job log ≡ logs.Untaken → logs.IsFree jobs log job → IsFree (reservation_after jobs log) job
free_from_log jobs l job reserved there untaken free = record {
  untaken = stage_is jobs l job reserved there ∙ ap (λ s. Some (stage_in s)) untaken;
  alone = λ other worker same held.
      let same' : logs.SameDevice (job_of jobs job) (job_of jobs other) = as_in_log jobs l job other same in
      let stage : stage_of (reservation_after jobs l) other ≡ Some (stage_in (state_of other l)) = stage_is jobs l other reserved (right_there (job_of jobs job) (job_of jobs other) same') in
      let h : (since : ℕ) × (state_of other l ≡ logs.Held worker since) = held_in_log (state_of other l) worker (cc) in
      free.alone other worker h.0 same' h.1;
  in_order = λ other lt same waits.
      let same' : logs.SameDevice (job_of jobs job) (job_of jobs other) = as_in_log jobs l job other same in
      let stage : stage_of (reservation_after jobs l) other ≡ Some (stage_in (state_of other l)) = stage_is jobs l other reserved (right_there (job_of jobs job) (job_of jobs other) same') in
      free.in_order other lt same' (untaken_in_log (state_of other l) (cc));
}

takes_free : (what : LogWhat) (jobs : List Job) (log : List LogEntry) → IsReserved jobs log → MayEnter what (reservation_after jobs log) → TakesFree jobs log what
takes_free (Took job) jobs l reserved first = free_in_log jobs l job reserved first.free
takes_free (Done job) jobs l reserved held = tt
takes_free (Failed job signs) jobs l reserved held = tt
takes_free (Refused job op got expected) jobs l reserved held = tt
takes_free (Sent turn) jobs l reserved held = tt
takes_free (Lost turn) jobs l reserved held = tt

pub one_downloader : (jobs : List Job) (log : List LogEntry) → IsReserved jobs log → OneDownloaderPerDevice jobs log
one_downloader jobs [] reserved = tt
one_downloader jobs (e ∷ log) reserved = (takes_free e.what jobs log reserved.1 reserved.0, one_downloader jobs log reserved.1)

-- ---- the first job that is free is taken

takes_first : (what : LogWhat) (jobs : List Job) (log : List LogEntry) → IsReserved jobs log → MayEnter what (reservation_after jobs log) → TakesFirst jobs log what
takes_first (Took job) jobs l reserved first = record {
  free = free_in_log jobs l job reserved first.free;
  first = λ other less there untaken free. first.first other less (free_from_log jobs l other reserved there untaken free);
}
takes_first (Done job) jobs l reserved held = tt
takes_first (Failed job signs) jobs l reserved held = tt
takes_first (Refused job op got expected) jobs l reserved held = tt
takes_first (Sent turn) jobs l reserved held = tt
takes_first (Lost turn) jobs l reserved held = tt

pub taken_in_order : (jobs : List Job) (log : List LogEntry) → IsReserved jobs log → TakenInOrder jobs log
taken_in_order jobs [] reserved = tt
taken_in_order jobs (e ∷ log) reserved = (takes_first e.what jobs log reserved.1 reserved.0, taken_in_order jobs log reserved.1)

-- ---- a job that is held in the reservation is held by the log

pub held_by_log : (jobs : List Job) (log : List LogEntry) (job worker : ℕ) → IsReserved jobs log → stage_of (reservation_after jobs log) job ≡ Some (Held worker) → (since : ℕ) × (state_of job log ≡ logs.Held worker since)
held_by_log jobs l job worker reserved held =
    let there : job_of jobs job ≢ None = is_there jobs job (from_1 (reservation_after jobs l).stages job (Held worker) held) (omega (arith, within (reservation_after jobs l).stages job (Held worker) held, length_is jobs l)) in
    let stage : stage_of (reservation_after jobs l) job ≡ Some (stage_in (state_of job l)) = stage_is jobs l job reserved there in
    held_in_log (state_of job l) worker (cc)
