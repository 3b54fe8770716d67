use Rattle.std.proofs.Common.{◌≡◌, ℕ, length, subst, arith}
use Rattle.std.specs.Prelude.{min}
use Rattle.project_check.specs.Links.{IsLeastRepeat}
use Rattle.project_check.proofs.Linked.{pair_at_place}
use Rattle.project_check.proofs.links.least_repeat.Goals as goal

pub loop-i-init : goal.loop-i-init
loop-i-init c = record {
  found = tt;
  reached = λ k l before. absurd (omega (arith, before));
}

pub loop-i-preserved : goal.loop-i-preserved
loop-i-preserved c = rw c.with_pair-least.ensures (pair_at_place c.args.links.now c.loop-i.least c.loop-i.i _ _ c.loop-i.auto.i c.loop-i-test.true c.loop-i.invariant)

pub returns : goal.returns
returns c =
    let all : min c.loop-i.i (length c.args.links.now) ≡ length c.args.links.now = omega (arith, c.loop-i-test.false) in
    subst (λ (i : ℕ). IsLeastRepeat c.args.links.now c.loop-i.least i) all c.loop-i.invariant
