use Rattle.std.proofs.Common.{◌≡◌, ℕ, ◌<◌, ◌≤◌, ◌∙◌, ◌||◌, eqb, false, length, sym, ap, rules, arith}
use Rattle.device_tables.specs.Objects.{holds}
use Rattle.device_tables.proofs.Found.{none_before, all_found, all_looked_at, one_more, not_yet, one_more_held, none_held_yet}
use Rattle.device_tables.proofs.index.TableIndex.objects_from.Goals as goal

pub loop-at-init : goal.loop-at-init
loop-at-init g c = record {
  behind = omega arith;
  within = c.requires.within;
  found = λ o. c.none-objects.ensures o ∙ sym (none_before c.args.self.now c.args.group.raw o c.args.first c.requires.below);
  each = omega (arith, none_held_yet c.none-objects.result c.none-objects.ensures);
  steps = omega arith;
}

pub returns-then-of-group-clause-objects : goal.returns-then-of-group-clause-objects
returns-then-of-group-clause-objects g c =
    let lt : c.loop-at.at < length c.args.self.now = omega (arith, c.loop-at-test.true, c.len.ensures) in
    let from : c.args.group.raw ≤ c.look-of.result.0 = omega (arith, c.requires.from c.loop-at.at c.look-of.result c.loop-at.invariant.behind lt, ap (λ (p : ℕ × ℕ). p.0) c.look-of.ensures.pair) in
    λ o. c.loop-at.invariant.found o ∙ all_found c.args.self.now c.args.group.raw o c.loop-at.at c.look-of.result c.look-of.ensures.ascending lt c.look-of.ensures.pair from c.if-of-group.true

pub loop-at-preserved : goal.loop-at-preserved
loop-at-preserved g c =
    let lt : c.loop-at.at < length c.args.self.now = omega (arith, c.loop-at-test.true, c.len.ensures) in
    let free : holds c.loop-at.objects c.look-of.result.1 ≡ false = c.loop-at.invariant.found c.look-of.result.1 ∙ not_yet c.args.self.now c.args.group.raw c.loop-at.at c.look-of.result c.look-of.ensures.ascending lt c.look-of.ensures.pair c.if-of-group.false in
    record {
      behind = omega (arith, c.loop-at.invariant.behind);
      within = omega (arith, lt);
      found = λ o. c.insert.ensures o ∙ ap (λ b. b || eqb o c.look-of.result.1) (c.loop-at.invariant.found o) ∙ sym (one_more c.args.self.now c.args.group.raw o c.loop-at.at c.look-of.result lt c.look-of.ensures.pair c.if-of-group.false);
      each = omega (arith, one_more_held c.loop-at.objects c.insert.new.self c.look-of.result.1 (search rules) free c.insert.ensures, c.loop-at.invariant.each);
      steps = omega (arith, c.look-of.ensures.step, c.loop-at.invariant.steps);
    }

pub returns-clause-objects : goal.returns-clause-objects
returns-clause-objects g c = λ o. c.loop-at.invariant.found o ∙ all_looked_at c.args.self.now c.args.group.raw o c.loop-at.at (omega (arith, c.loop-at-test.false, c.len.ensures))
