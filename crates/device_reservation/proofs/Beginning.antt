-- A reservation in which no job was taken: the first job of each device is free.
use Rattle.std.proofs.Common.{◌≡◌, ℕ, ◌*◌, ◌<◌, ◌≤◌, true, List, length, Option, Some, cond, arith}
use Rattle.std.proofs.lemmas.List.{length-replicate}
use Rattle.std.proofs.lemmas.List.Folds.{sum_by-replicate}
use Rattle.knx_model.specs.declared.address.IndAddr.{IndAddr}
use Rattle.device_reservation.specs.declared.stage.Stage.TheVariants.{Untaken, Held}
use Rattle.device_reservation.specs.Bits.{holds}
use Rattle.device_reservation.specs.Chains.{IsFirst, AreNext}
use Rattle.device_reservation.specs.Kept.{IsKept, is_untaken}
use Rattle.device_reservation.specs.Reservation.{device_of, stage_of, SameDevice, IsFree, none_taken}
use Rattle.device_reservation.proofs.Numbered.{from_1, within, of_all, of_all_there}
use Rattle.device_reservation.proofs.Stages.{back, left_there}

untaken_at : (devices : List IndAddr) (job : ℕ) → 1 ≤ job → job ≤ length devices → stage_of (none_taken devices) job ≡ Some Untaken
untaken_at devices job from to = of_all_there (length devices) job Untaken from to

same_untaken : (devices : List IndAddr) (job other : ℕ) → SameDevice (none_taken devices) job other → stage_of (none_taken devices) job ≡ Some Untaken
same_untaken devices job other same =
    let there : (device : IndAddr) × (device_of (none_taken devices) job ≡ Some device) = left_there (device_of (none_taken devices) job) (device_of (none_taken devices) other) same in
    untaken_at devices job (from_1 devices job there.0 there.1) (within devices job there.0 there.1)

first_free : (devices : List IndAddr) (job : ℕ) → IsFirst devices job → IsFree (none_taken devices) job
first_free devices job first = record {
  untaken = untaken_at devices job first.from_1 first.within;
  alone = λ other worker same held. let is : Untaken ≡ Held worker = of_all (length devices) other Untaken (Held worker) held in absurd (cc);
  in_order = λ other lt same untaken. first.none_before other lt same;
}

free_first : (devices : List IndAddr) (job : ℕ) → IsFree (none_taken devices) job → IsFirst devices job
free_first devices job free = record {
  from_1 = from_1 (none_taken devices).stages job Untaken free.untaken;
  within = omega (arith, within (none_taken devices).stages job Untaken free.untaken, length-replicate (length devices) Untaken);
  none_before = λ other lt same. free.in_order other lt same (same_untaken devices other job (back (none_taken devices) job other same));
}

pub kept_at_first : (devices : List IndAddr) (next : List (Option ℕ)) (free : List ℕ) → length devices < 4294967296 → AreNext devices next → length devices < 64 * length free
    → ((job : ℕ) → holds free job ≡ true → IsFirst devices job) → ((job : ℕ) → IsFirst devices job → holds free job ≡ true) → IsKept (none_taken devices) next free (length devices)
kept_at_first devices next free few chained room first_are are_first = record {
  alike = length-replicate (length devices) Untaken;
  few = few;
  in_order = λ job other lt same begun. absurd (begun (same_untaken devices job other (back (none_taken devices) other job same)));
  next_is = chained;
  room = room;
  free_are = λ job held. first_free devices job (first_are job held);
  are_free = λ job free. are_first job (free_first devices job free);
  count = omega (arith, sum_by-replicate (λ s. cond (is_untaken s) 1 0) (length devices) Untaken);
}
