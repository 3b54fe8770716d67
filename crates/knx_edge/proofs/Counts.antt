-- One more read that failed.
use Rattle.std.proofs.Common.{◌≡◌, ◌≢◌, ℕ, ◌+◌, Bool, true, false, cond, List, [], ◌∷◌, ◌++◌, refl, arith, inl}
use Rattle.std.specs.Prelude.{bytes_eq}
use Rattle.std.specs.List.{count_by}
use Rattle.std.proofs.lemmas.List.Sums.{sum_by-append}
use Rattle.std.proofs.lemmas.Slice.Eq.{bytes_eq-Decides}
use Rattle.knx_model.specs.Outside.{Rose}
use Rattle.knx_edge.specs.Disk.{faults_of}

counted : (test : List ℕ → Bool) (failed : List (List ℕ)) (name : List ℕ) → count_by test (failed ++ name ∷ []) ≡ count_by test failed + cond (test name) 1 0
counted test failed name = omega (arith, sum_by-append (λ x. cond (test x) 1 0) failed (name ∷ []))

untrue : (b : Bool) → (b ≡ true → ⊥) → b ≡ false
untrue true differ = absurd (differ refl)
untrue false differ = refl

-- a name that is kept is counted once more
pub faults_rise : (failed : List (List ℕ)) (name : List ℕ) → Rose (faults_of failed name) (faults_of (failed ++ name ∷ []) name)
faults_rise failed name =
    let same : bytes_eq name name ≡ true = (bytes_eq-Decides name name).1 refl in
    let more : faults_of (failed ++ name ∷ []) name ≡ faults_of failed name + 1 =
    rw same at (counted (λ other. bytes_eq other name) failed name) in
    inl (omega arith)

-- the counts of the others stand
pub faults_stand : (failed : List (List ℕ)) (name other : List ℕ) → other ≢ name → faults_of (failed ++ name ∷ []) other ≡ faults_of failed other
faults_stand failed name other differ =
    let apart : bytes_eq name other ≡ false = untrue _ (λ h. let same = (bytes_eq-Decides name other).0 h in differ (cc)) in
    let more : faults_of (failed ++ name ∷ []) other ≡ faults_of failed other + 0 =
    rw apart at (counted (λ x. bytes_eq x other) failed name) in
    omega arith
