use Rattle.std.proofs.Common.{◌≡◌, ◌+◌, ◌-◌, ℕ, length, refl, arith}
use Rattle.device_tables.proofs.Halves.{narrows, few}
use Rattle.device_tables.proofs.index.TableIndex.first_of.Goals as goal

pub loop-low-preserved-then-is_below : goal.loop-low-preserved-then-is_below
loop-low-preserved-then-is_below g c =
    let was : ℕ = c.loop-low.steps - c.args.steps.now in
    let one_more : was + 1 ≡ c.is_below.new.steps - c.args.steps.now = omega (arith, c.is_below.ensures.step, c.loop-low.invariant.rises) in
    let size : ℕ = c.loop-low.high - c.loop-low.low in
    record {
      order = omega (arith, c.loop-low-test.true);
      within = c.loop-low.invariant.within;
      below = λ k d lt. c.if-is_below.ensures.below refl k d (omega arith);
      from = c.loop-low.invariant.from;
      rises = omega (arith, c.is_below.ensures.step, c.loop-low.invariant.rises);
      narrows = rw (← one_more) (narrows was size _ (length c.args.self.now) (omega (arith, c.loop-low-test.true)) c.loop-low.invariant.narrows);
      few = rw (← one_more) (few was size (length c.args.self.now) (omega (arith, c.loop-low-test.true)) c.loop-low.invariant.narrows);
    }

pub loop-low-preserved : goal.loop-low-preserved
loop-low-preserved g c =
    let was : ℕ = c.loop-low.steps - c.args.steps.now in
    let one_more : was + 1 ≡ c.is_below.new.steps - c.args.steps.now = omega (arith, c.is_below.ensures.step, c.loop-low.invariant.rises) in
    let size : ℕ = c.loop-low.high - c.loop-low.low in
    record {
      order = omega (arith, c.loop-low-test.true);
      within = omega (arith, c.loop-low-test.true, c.loop-low.invariant.within);
      below = c.loop-low.invariant.below;
      from = c.is_below.ensures.from c.if-is_below.false;
      rises = omega (arith, c.is_below.ensures.step, c.loop-low.invariant.rises);
      narrows = rw (← one_more) (narrows was size _ (length c.args.self.now) (omega (arith, c.loop-low-test.true)) c.loop-low.invariant.narrows);
      few = rw (← one_more) (few was size (length c.args.self.now) (omega (arith, c.loop-low-test.true)) c.loop-low.invariant.narrows);
    }
