-- What a hub writes: the log of its run, whose jobs are taken and ended through one reservation, and which job each worker holds. The jobs are
-- seen by their devices alone, in their order.
use Rattle.std.specs.Prelude.{◌≡◌, ◌↔◌, ℕ, suc, Bool, false, ◌==◌, ◌≤◌, ◌&&◌, nat_lt, nat_le, List, length, map, Option, Some, None, slice_get}
use Rattle.knx_model.specs.declared.address.IndAddr.{IndAddr}
use Rattle.line_model.specs.declared.group.GroupTurn.{GroupTurn}
use Rattle.line_model.specs.declared.log.LogEntry.{LogEntry}
use Rattle.line_model.specs.Log.{Job, IsLog, latest, has_entry}
use Rattle.device_reservation.specs.declared.stage.Stage.TheVariants.{Held as IsHeldBy}
use Rattle.device_reservation.specs.Reservation.{Reservation, stage_of}
use Rattle.device_reservation.specs.Reserved.{IsReserved, reservation_after, device_of_job}
use Rattle.hub_work.specs.declared.crew.Held.{Held}

-- jobs of these devices
abbrev pub AreJobsOf : List IndAddr → List Job → Type 0
AreJobsOf devices jobs = map device_of_job jobs ≡ devices

-- the log, the newest entry first, when there were so many events
pub record IsWritten (devices : List IndAddr) (turns : List GroupTurn) (count : ℕ) (log : List LogEntry) : Type 0 where
  pub form : (jobs : List Job) → AreJobsOf devices jobs → IsLog jobs turns count log
  pub reserved : (jobs : List Job) → AreJobsOf devices jobs → IsReserved jobs log
  pub so_far : latest log ≤ count

-- ---- what the workers hold

abbrev pub job_in : Option Held → Option ℕ
job_in None = None
job_in (Some held) = Some held.job

-- of each worker, by its place from 0
abbrev pub jobs_held : List (Option Held) → List (Option ℕ)
jobs_held held = map job_in held

-- the reservation is that of the log, and a worker holds a job exactly where the job is held by it there
pub record IsLive (r : Reservation) (held : List (Option ℕ)) (log : List LogEntry) : Type 0 where
  pub reservation_is : (jobs : List Job) → AreJobsOf r.devices jobs → reservation_after jobs log ≡ r
  pub holds : (place job : ℕ) → (slice_get held place ≡ Some (Some job)) ↔ (stage_of r job ≡ Some (IsHeldBy (suc place)))

-- ---- the worker at a place

abbrev pub joined : Option (Option Held) → Option Held
joined None = None
joined (Some held) = held

abbrev pub held_at : List (Option Held) → ℕ → Option Held
held_at held place = joined (slice_get held place)

-- it is of this device
abbrev pub is_of_device : IndAddr → Option Held → Bool
is_of_device device None = false
is_of_device device (Some held) = held.device.raw == device.raw

-- ---- the group telegrams: those up to a number are told, and no others

pub record TellsInTurn (told : ℕ) (turns : List GroupTurn) (log : List LogEntry) : Type 0 where
  pub entries : (k : ℕ) → has_entry k log ≡ (nat_lt 0 k && nat_le k told)
  pub there : told ≤ length turns
