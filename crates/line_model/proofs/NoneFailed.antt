-- Counts that are none, and those that aren't though no call failed.
use Rattle.std.proofs.Common.{◌≡◌, ◌≢◌, ◌<◌, ℕ, zero, suc, refl, arith}
use Rattle.line_model.specs.declared.outside.fault_counts.FaultCounts.{FaultCounts}
use Rattle.line_model.specs.Polled.{none_failed}

abbrev counts_of : ℕ → ℕ → FaultCounts
counts_of failed wanting = record { failed = failed; wanting = wanting }

are_none : (failed wanting : ℕ) → failed ≡ 0 → wanting ≡ 0 → counts_of failed wanting ≡ none_failed
are_none failed wanting f w = rw (f, w) refl

some_of : (failed wanting : ℕ) → failed ≡ 0 → counts_of failed wanting ≢ none_failed → 0 < wanting
some_of failed zero f some = absurd (some (are_none failed zero f refl))
some_of failed (suc wanting) f some = omega arith

pub none_of : (faults : FaultCounts) → faults.failed ≡ 0 → faults.wanting ≡ 0 → faults ≡ none_failed
none_of faults f w = are_none faults.failed faults.wanting f w

-- then one found no memory
pub some_wanting : (faults : FaultCounts) → faults.failed ≡ 0 → faults ≢ none_failed → 0 < faults.wanting
some_wanting faults f some = some_of faults.failed faults.wanting f some
