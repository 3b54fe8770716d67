-- A count that takes in another one by one, and stands still at the greatest number, is their sum.
use Rattle.std.proofs.Common.{◌≡◌, ℕ, zero, suc, ◌+◌, ◌≤◌, arith}
use Rattle.std.specs.Prelude.{min}
use Rattle.knx_model.specs.Outside.{greatest_count}
use Rattle.line_model.specs.Dialled.{taking_back}

pub taken_back : (faults count : ℕ) → count ≤ greatest_count → taking_back faults count ≡ min (count + faults) greatest_count
taken_back zero count le = omega (arith, le)
taken_back (suc faults) count le =
    let before : taking_back faults count ≡ min (count + faults) greatest_count = taken_back faults count le in
    omega (arith, le, before)
