-- The jobs of one device, in their order: the first one, and of each the next.
use Rattle.std.specs.Prelude.{◌≡◌, ℕ, ◌-◌, ◌<◌, ◌≤◌, List, Option, Some, None, length, slice_set}
use Rattle.knx_model.specs.declared.address.IndAddr.{IndAddr}
use Rattle.line_model.specs.Log.{numbered_from_one}
use Rattle.device_reservation.specs.Reservation.{AreOneDevice}

abbrev pub OneDevice : List IndAddr → ℕ → ℕ → Type 0
OneDevice devices job other = AreOneDevice (numbered_from_one devices job) (numbered_from_one devices other)

pub record IsFirst (devices : List IndAddr) (job : ℕ) : Type 0 where
  pub from_1 : 1 ≤ job
  pub within : job ≤ length devices
  pub none_before : (other : ℕ) → other < job → ¬ OneDevice devices job other

pub record IsNext (devices : List IndAddr) (job next : ℕ) : Type 0 where
  pub later : job < next
  pub same : OneDevice devices job next
  pub none_between : (other : ℕ) → job < other → other < next → ¬ OneDevice devices job other

abbrev pub IsLast : List IndAddr → ℕ → Type 0
IsLast devices job = (other : ℕ) → job < other → ¬ OneDevice devices job other

-- the next job of each job's device, and none after the last
pub record AreNext (devices : List IndAddr) (next : List (Option ℕ)) : Type 0 where
  pub alike : length next ≡ length devices
  pub next_is : (job other : ℕ) → numbered_from_one next job ≡ Some (Some other) → IsNext devices job other
  pub last_is : (job : ℕ) → numbered_from_one next job ≡ Some None → IsLast devices job

-- a job behind one of its device
abbrev pub linked : List (Option ℕ) → Option ℕ → ℕ → List (Option ℕ)
linked next None job = next
linked next (Some before) job = slice_set next (before - 1) (Some job)
