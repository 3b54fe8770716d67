-- How a reservation is kept: each job's stage, the next job of its device, the free jobs as a set, and how many are untaken.
use Rattle.std.specs.Prelude.{◌≡◌, ℕ, ◌*◌, ◌<◌, Bool, true, false, List, Option, length}
use Rattle.std.specs.List.{count_by}
use Rattle.device_reservation.specs.declared.stage.Stage.{Stage}
use Rattle.device_reservation.specs.declared.stage.Stage.TheVariants.{Untaken, Held, Over}
use Rattle.device_reservation.specs.Bits.{holds}
use Rattle.device_reservation.specs.Chains.{AreNext}
use Rattle.device_reservation.specs.Reservation.{Reservation, IsFree, EarlierAreOver}

abbrev pub is_untaken : Stage → Bool
is_untaken Untaken = true
is_untaken (Held worker) = false
is_untaken Over = false

pub record IsKept (r : Reservation) (next : List (Option ℕ)) (free : List ℕ) (untaken : ℕ) : Type 0 where
  pub alike : length r.stages ≡ length r.devices
  pub few : length r.devices < 4294967296
  pub in_order : EarlierAreOver r
  pub next_is : AreNext r.devices next
  pub room : length r.devices < 64 * length free
  pub free_are : (job : ℕ) → holds free job ≡ true → IsFree r job
  pub are_free : (job : ℕ) → IsFree r job → holds free job ≡ true
  pub count : untaken ≡ count_by is_untaken r.stages
