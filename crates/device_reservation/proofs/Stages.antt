-- The stages of a reservation's jobs, and when jobs are of one device.
use Rattle.std.proofs.Common.{◌≡◌, ◌≢◌, ℕ, ◌-◌, ◌≤◌, length, get_or, Option, Some, None, sym, ◌∙◌, arith}
use Rattle.std.proofs.lemmas.Option.{slice_get-get_or}
use Rattle.knx_model.specs.declared.address.IndAddr.{IndAddr}
use Rattle.device_reservation.specs.declared.stage.Stage.{Stage}
use Rattle.device_reservation.specs.declared.stage.Stage.TheVariants.{Untaken, Held, Over}
use Rattle.device_reservation.specs.Reservation.{Reservation, device_of, stage_of, AreOneDevice, SameDevice, with_stage}
use Rattle.device_reservation.proofs.Numbered.{by_place, from_1, within, written, unwritten}

-- ---- jobs of one device

pub one_back : (a b : Option IndAddr) → AreOneDevice a b → AreOneDevice b a
one_back None b e = absurd e
one_back (Some a) None e = absurd e
one_back (Some a) (Some b) e = sym e

pub one_on : (a b c : Option IndAddr) → AreOneDevice a b → AreOneDevice b c → AreOneDevice a c
one_on None b c e f = absurd e
one_on (Some a) None c e f = absurd e
one_on (Some a) (Some b) None e f = absurd f
one_on (Some a) (Some b) (Some c) e f = e ∙ f

pub left_there : (a b : Option IndAddr) → AreOneDevice a b → (device : IndAddr) × (a ≡ Some device)
left_there None b e = absurd e
left_there (Some a) b e = (a, λ i. Some a)

pub back : (r : Reservation) (job other : ℕ) → SameDevice r job other → SameDevice r other job
back r job other e = one_back (device_of r job) (device_of r other) e

pub on : (r : Reservation) (job other third : ℕ) → SameDevice r job other → SameDevice r other third → SameDevice r job third
on r job other third e f = one_on (device_of r job) (device_of r other) (device_of r third) e f

-- ---- each job has a stage

pub record HasStage (r : Reservation) (job : ℕ) : Type 0 where
  pub stage : Stage
  pub is : stage_of r job ≡ Some stage

pub has_stage : (r : Reservation) (job other : ℕ) → length r.stages ≡ length r.devices → SameDevice r job other → HasStage r job
has_stage r job other alike same =
    let there : (device : IndAddr) × (device_of r job ≡ Some device) = left_there (device_of r job) (device_of r other) same in
    let from : 1 ≤ job = from_1 r.devices job there.0 there.1 in
    let to : job ≤ length r.devices = within r.devices job there.0 there.1 in
    record { stage = get_or r.stages (job - 1) Over; is = by_place r.stages job from ∙ slice_get-get_or r.stages (job - 1) Over (omega arith) }

pub else_over : (o : Option Stage) (s : Stage) → o ≡ Some s → o ≢ Some Untaken → ((worker : ℕ) → o ≢ Some (Held worker)) → o ≡ Some Over
else_over o Untaken e untaken held = absurd (untaken e)
else_over o (Held worker) e untaken held = absurd (held worker e)
else_over o Over e untaken held = e

pub else_untaken : (o : Option Stage) (s : Stage) → o ≡ Some s → (o ≢ Some Untaken → ⊥) → o ≡ Some Untaken
else_untaken o Untaken e not = e
else_untaken o (Held worker) e not = absurd (not (λ f. cc))
else_untaken o Over e not = absurd (not (λ f. cc))

-- ---- a job's stage is written

pub stage_there : (r : Reservation) (job : ℕ) (old new : Stage) → stage_of r job ≡ Some old → stage_of (with_stage r job new) job ≡ Some new
stage_there r job old new e = written r.stages job new (from_1 r.stages job old e) (within r.stages job old e)

pub stage_elsewhere : (r : Reservation) (job : ℕ) (old new : Stage) → stage_of r job ≡ Some old → (k : ℕ) → k ≢ job → stage_of (with_stage r job new) k ≡ stage_of r k
stage_elsewhere r job old new e k apart = unwritten r.stages job k new (from_1 r.stages job old e) apart
