-- Which job may begin (this project's own). Jobs are numbered from 1, each is of one device, and each is untaken, held by a worker, or over. A
-- device is held while one of its jobs is, and the earlier job of a device goes before the later one.
use Rattle.std.specs.Prelude.{◌≡◌, ◌≢◌, ◌⊎◌, ℕ, ◌-◌, ◌<◌, List, Option, Some, length, replicate, slice_set}
use Rattle.knx_model.specs.declared.address.IndAddr.{IndAddr}
use Rattle.line_model.specs.Log.{numbered_from_one}
use Rattle.device_reservation.specs.declared.stage.Stage.{Stage}
use Rattle.device_reservation.specs.declared.stage.Stage.TheVariants.{Untaken, Held, Over}
use Rattle.device_reservation.specs.declared.taken.Taken.{Taken}
use Rattle.device_reservation.specs.declared.taken.Taken.TheVariants.{Job, Later, NoMore}

-- the device of each job, and how far each is
pub record Reservation : Type 0 where
  pub devices : List IndAddr
  pub stages : List Stage

abbrev pub device_of : Reservation → ℕ → Option IndAddr
device_of r job = numbered_from_one r.devices job

abbrev pub stage_of : Reservation → ℕ → Option Stage
stage_of r job = numbered_from_one r.stages job

abbrev pub AreOneDevice : Option IndAddr → Option IndAddr → Type 0
AreOneDevice (Some one) (Some other) = one.raw ≡ other.raw
AreOneDevice _ _ = ⊥

abbrev pub SameDevice : Reservation → ℕ → ℕ → Type 0
SameDevice r job other = AreOneDevice (device_of r job) (device_of r other)

abbrev pub IsHeld : Reservation → ℕ → Type 0
IsHeld r job = (worker : ℕ) × (stage_of r job ≡ Some (Held worker))

-- ---- which job is free: its device isn't held, and no earlier job of its device is untaken

pub record IsFree (r : Reservation) (job : ℕ) : Type 0 where
  pub untaken : stage_of r job ≡ Some Untaken
  pub alone : (other worker : ℕ) → SameDevice r job other → stage_of r other ≢ Some (Held worker)
  pub in_order : (other : ℕ) → other < job → SameDevice r job other → stage_of r other ≢ Some Untaken

pub record IsFirstFree (r : Reservation) (job : ℕ) : Type 0 where
  pub free : IsFree r job
  pub first : (other : ℕ) → other < job → ¬ IsFree r other

-- ---- why an untaken job isn't free

abbrev pub WaitsForDevice : Reservation → ℕ → Type 0
WaitsForDevice r job = (other : ℕ) × SameDevice r job other × IsHeld r other

abbrev pub WaitsForJob : Reservation → ℕ → Type 0
WaitsForJob r job = (other : ℕ) × (other < job) × SameDevice r job other × (stage_of r other ≡ Some Untaken)

-- jobs remain, and each waits for its device or for an earlier job of it
pub record AllWait (r : Reservation) : Type 0 where
  pub remains : (job : ℕ) × (stage_of r job ≡ Some Untaken)
  pub wait : (job : ℕ) → stage_of r job ≡ Some Untaken → WaitsForDevice r job ⊎ WaitsForJob r job

abbrev pub AllTaken : Reservation → Type 0
AllTaken r = (job : ℕ) → stage_of r job ≢ Some Untaken

-- ---- what the calls leave

abbrev pub none_taken : List IndAddr → Reservation
none_taken devices = record { devices = devices; stages = replicate (length devices) Untaken }

abbrev pub with_stage : Reservation → ℕ → Stage → Reservation
with_stage r job stage = record r { stages = slice_set r.stages (job - 1) stage }

abbrev pub job_taken : ℕ → ℕ → Reservation → Reservation
job_taken worker job r = with_stage r job (Held worker)

abbrev pub job_ended : ℕ → Reservation → Reservation
job_ended job r = with_stage r job Over

abbrev pub after_take : ℕ → Taken → Reservation → Reservation
after_take worker (Job job) r = job_taken worker job r
after_take worker Later r = r
after_take worker NoMore r = r

-- ---- what always holds

-- where a job has been taken, the earlier jobs of its device are over
abbrev pub EarlierAreOver : Reservation → Type 0
EarlierAreOver r = (job other : ℕ) → other < job → SameDevice r other job → stage_of r job ≢ Some Untaken → stage_of r other ≡ Some Over

abbrev pub NoneHeldTwice : Reservation → Type 0
NoneHeldTwice r = (job other : ℕ) → SameDevice r job other → IsHeld r job → IsHeld r other → job ≡ other
