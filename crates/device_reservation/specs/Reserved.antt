-- The log of a run whose jobs are taken and ended through one reservation: a job is taken where it is the first that is free, and ended where it
-- is held.
use Rattle.std.specs.Prelude.{ℕ, List, [], ◌∷◌, map}
use Rattle.knx_model.specs.declared.address.IndAddr.{IndAddr}
use Rattle.line_model.specs.declared.log.LogEntry.{LogEntry}
use Rattle.line_model.specs.declared.log.LogWhat.{LogWhat}
use Rattle.line_model.specs.declared.log.LogWhat.TheVariants.{Took, Done, Failed, Refused, Sent, Lost}
use Rattle.line_model.specs.Log.{Job}
use Rattle.device_reservation.specs.Reservation.{Reservation, IsFirstFree, IsHeld, none_taken, job_taken, job_ended}

-- what an entry leaves of the reservation
abbrev pub after_entry : ℕ → LogWhat → Reservation → Reservation
after_entry worker (Took job) r = job_taken worker job r
after_entry worker (Done job) r = job_ended job r
after_entry worker (Failed job signs) r = job_ended job r
after_entry worker (Refused job op got expected) r = job_ended job r
after_entry worker (Sent turn) r = r
after_entry worker (Lost turn) r = r

abbrev pub device_of_job : Job → IndAddr
device_of_job job = job.device

-- the reservation after the entries; the newest entry first
abbrev pub reservation_after : List Job → List LogEntry → Reservation
reservation_after jobs [] = none_taken (map device_of_job jobs)
reservation_after jobs (e ∷ log) = after_entry e.worker e.what (reservation_after jobs log)

abbrev pub MayEnter : LogWhat → Reservation → Type 0
MayEnter (Took job) r = IsFirstFree r job
MayEnter (Done job) r = IsHeld r job
MayEnter (Failed job signs) r = IsHeld r job
MayEnter (Refused job op got expected) r = IsHeld r job
MayEnter (Sent turn) r = Unit {0}
MayEnter (Lost turn) r = Unit {0}

abbrev pub IsReserved : List Job → List LogEntry → Type 0
IsReserved jobs [] = Unit {0}
IsReserved jobs (e ∷ log) = MayEnter e.what (reservation_after jobs log) × IsReserved jobs log
