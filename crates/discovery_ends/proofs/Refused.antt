-- How many calls failed, after one that was refused, or one of the port below.
use Rattle.std.proofs.Common.{◌≡◌, ◌<◌, ℕ, zero, suc, Result, Ok, Err, OnOk, refl, ap, ◌∙◌, arith}
use Rattle.line_model.specs.declared.outside.port.PortFault.{PortFault}
use Rattle.line_model.specs.declared.outside.port.PortFault.TheVariants as fault
use Rattle.line_model.specs.PortStory.{after_call}
use Rattle.knx_model.specs.Outside.{one_more}
use Rattle.discovery_ends.specs.Answering.{faults_with, refused_for}

one_refused : (below n : ℕ) → faults_with below (one_more n) ≡ one_more (faults_with below n)
one_refused below n = omega arith

one_below : (below n : ℕ) → faults_with (one_more below) n ≡ one_more (faults_with below n)
one_below below n = omega arith

pub refused_counts : {X : Type 0} (r : Result X PortFault) (why : PortFault) (below n : ℕ) → r ≡ Err why → faults_with below (refused_for why n) ≡ after_call r (faults_with below n)
refused_counts (Ok x) why below n e = cc
refused_counts (Err (fault.NoMemory want)) (fault.NoMemory other) below n e = refl
refused_counts (Err (fault.NoMemory want)) fault.Failed below n e = cc
refused_counts (Err fault.Failed) fault.Failed below n e = one_refused below n
refused_counts (Err fault.Failed) (fault.NoMemory want) below n e = cc

pub below_counts : {X : Type 0} (r : Result X PortFault) (below after n : ℕ) → after ≡ after_call r below → faults_with after n ≡ after_call r (faults_with below n)
below_counts (Ok x) below after n e = ap (λ b. faults_with b n) e
below_counts (Err (fault.NoMemory want)) below after n e = ap (λ b. faults_with b n) e
below_counts (Err fault.Failed) below after n e = ap (λ b. faults_with b n) e ∙ one_below below n

-- where no call of the port below failed, none was refused
none_refused : (below n : ℕ) → below ≡ 0 → (0 < n → 0 < below) → faults_with below n ≡ 0
none_refused below zero none refuses = omega (arith, none)
none_refused below (suc n) none refuses = let some : 0 < below = refuses (omega arith) in absurd (omega (arith, none, some))

pub sound_below : {X : Type 0} (r : Result X PortFault) (below n : ℕ) → OnOk r (below ≡ 0) → (0 < n → 0 < below) → OnOk r (faults_with below n ≡ 0)
sound_below (Ok x) below n none refuses = none_refused below n none refuses
sound_below (Err why) below n none refuses = tt
