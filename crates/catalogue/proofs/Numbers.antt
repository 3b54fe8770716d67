-- Numbers that a width holds.
use Rattle.std.proofs.Common.{ℕ, ◌<◌, ◌≤◌, ◌^◌, arith}
use Rattle.std.proofs.Math.Nat.{pow-le-pow_right}

pub holds_in_32 : (width n : ℕ) → n < 2 ^ width → width ≤ 32 → n < 2 ^ 32
holds_in_32 width n small short =
    let two : 0 < 2 = omega arith in
    let most : 2 ^ width ≤ 2 ^ 32 = pow-le-pow_right two short in
    omega (arith, small, most)
