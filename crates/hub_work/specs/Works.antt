-- What a hub's work keeps of its books, when its link tells of so many events.
use Rattle.std.specs.Prelude.{◌≡◌, ◌↔◌, ℕ, Bool, true, ◌+◌, ◌-◌, ◌≤◌, List, [], length, map, replicate, Option, Some, None, option_map}
use Rattle.std.specs.List.{count_by, sum_by}
use Rattle.knx_model.specs.declared.address.IndAddr.{IndAddr}
use Rattle.line_model.specs.declared.group.GroupTurn.{GroupTurn}
use Rattle.line_model.specs.Log.{Job, JobUnfinished}
use Rattle.line_model.specs.Faults.{first_elsewhere}
use Rattle.device_reservation.specs.Reserved.{device_of_job}
use Rattle.device_reservation.specs.Reservation.{Reservation, IsFirstFree, none_taken, job_taken}
use Rattle.hub_work.specs.declared.crew.Held.{Held}
use Rattle.hub_work.specs.declared.work.Work.{Work}
use Rattle.hub_work.specs.Books.{AreJobsOf, IsWritten, IsLive, TellsInTurn, jobs_held, held_at}
use Rattle.hub_work.specs.Downloaders.{Task, states, task_of_state}
use Rattle.hub_work.specs.Counts.{is_unfinished, entries_to_come}

abbrev pub WritesRightly : ℕ → Work → Type 0
WritesRightly at w = IsWritten w.reservation.devices w.telegrams.turns at w.journal.entries

abbrev pub Lives : Work → Type 0
Lives w = IsLive w.reservation (jobs_held w.crew) w.journal.entries

abbrev pub TellsRightly : Work → Type 0
TellsRightly w = TellsInTurn w.telegrams.told w.telegrams.turns w.journal.entries

-- how many jobs have no end yet, and that there is room for every entry that is still to come
pub record Counts (w : Work) : Type 0 where
  pub unfinished : w.unfinished ≡ count_by is_unfinished w.reservation.stages
  pub room : sum_by entries_to_come w.reservation.stages + (length w.telegrams.turns - w.telegrams.told) ≤ w.journal.room

-- all of it
pub record KeepsBooks (at : ℕ) (w : Work) : Type 0 where
  pub written : WritesRightly at w
  pub telling : TellsRightly w
  pub live : Lives w
  pub counts : Counts w

-- the jobs, by device and plan
abbrev pub tasks : Work → List Task
tasks w = map task_of_state (states w.downloaders)

-- the same jobs, the same group telegrams and as many workers
pub record SameRun (old new : Work) : Type 0 where
  pub devices : new.reservation.devices ≡ old.reservation.devices
  pub tasks_are : tasks new ≡ tasks old
  pub closing : new.closing ≡ old.closing
  pub turns : new.telegrams.turns ≡ old.telegrams.turns
  pub workers : length new.crew ≡ length old.crew

-- the books stay as they are
pub record SameBooks (old new : Work) : Type 0 where
  pub reservation : new.reservation ≡ old.reservation
  pub turns : new.telegrams.turns ≡ old.telegrams.turns
  pub told : new.telegrams.told ≡ old.telegrams.told
  pub held : jobs_held new.crew ≡ jobs_held old.crew
  pub journal : new.journal ≡ old.journal
  pub unfinished : new.unfinished ≡ old.unfinished
  pub tasks_are : tasks new ≡ tasks old
  pub closing : new.closing ≡ old.closing

-- the worker holds this
abbrev pub IsHolder : Work → ℕ → Held → Type 0
IsHolder w worker held = Some held ≡ held_at w.crew (worker - 1)

-- the first free job was taken in the reservation just now, and isn't in the log yet
pub record IsTaking (w : Work) (at worker job : ℕ) : Type 0 where
  pub before : Reservation
  pub taken : w.reservation ≡ job_taken worker job before
  pub first : IsFirstFree before job
  pub written : IsWritten before.devices w.telegrams.turns at w.journal.entries
  pub live : IsLive before (jobs_held w.crew) w.journal.entries
  pub telling : TellsRightly w
  pub unfinished : w.unfinished ≡ count_by is_unfinished before.stages
  pub room : sum_by entries_to_come before.stages + (length w.telegrams.turns - w.telegrams.told) ≤ w.journal.room

-- nothing is done yet by so many workers
pub record BeginsWith (workers : ℕ) (devices : List IndAddr) (turns : List GroupTurn) (w : Work) : Type 0 where
  pub reservation : w.reservation ≡ none_taken devices
  pub turns_are : w.telegrams.turns ≡ turns
  pub none_told : w.telegrams.told ≡ 0
  pub crew : w.crew ≡ replicate workers None
  pub journal : w.journal.entries ≡ []
  pub room : length devices + length devices + length turns ≤ w.journal.room
  pub unfinished : w.unfinished ≡ length devices

-- whether a job has no end yet, by the log of any jobs of these devices
abbrev pub HasUnfinished : Work → Bool → Type 0
HasUnfinished w b = (jobs : List Job) (at : ℕ) → KeepsBooks at w → AreJobsOf w.reservation.devices jobs → (b ≡ true) ↔ JobUnfinished jobs w.journal.entries

-- the device of the first of these jobs that isn't on the tunnel's line
abbrev pub FindsElsewhere : Work → IndAddr → Option IndAddr → Type 0
FindsElsewhere w tunnel found = (jobs : List Job) → AreJobsOf w.reservation.devices jobs → found ≡ option_map device_of_job (first_elsewhere jobs (Some tunnel))
