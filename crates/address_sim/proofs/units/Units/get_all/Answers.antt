use Rattle.std.proofs.Common.{◌≢◌, ℕ, ◌+◌, ◌≤◌, sym, ◌∙◌, arith}
use Rattle.address_sim.specs.Losses.{without}
use Rattle.address_sim.specs.Units.{state_at}
use Rattle.address_sim.proofs.Lost.{lost_at}
use Rattle.address_sim.proofs.Places.{all_got_so, before_more}
use Rattle.address_sim.proofs.units.Units.get_all.Goals as goal

another : (p place : ℕ) → place + 1 ≤ p → p ≢ place
another p place le e = omega (arith, le, e)

pub loop-place-preserved : goal.loop-place-preserved
loop-place-preserved c = record {
  end = c.loop-place.invariant.end;
  len = c.get_unless.ensures.len ∙ c.loop-place.invariant.len;
  before = λ p frame u less service old empty.
      before_more (state_at c.args.self.now) (state_at c.loop-place.self) (state_at c.get_unless.new.self) (without c.args.losses.now c.args.n) frame c.loses_read-lost.result c.loop-place.place
      (c.loses_read-lost.ensures ∙ sym (lost_at c.args.losses.now c.args.n c.loop-place.place)) (c.loop-place.invariant.behind c.loop-place.place (omega arith))
      (λ q v less' old' empty'. c.loop-place.invariant.before q frame v less' service old' empty') (λ v is empty'. c.get_unless.ensures.here frame v service is empty') c.get_unless.ensures.others p u less old empty;
  behind = λ p le. c.get_unless.ensures.others p (another p c.loop-place.place le) ∙ c.loop-place.invariant.behind p (omega (arith, le));
  counted = λ events h. c.get_unless.ensures.counted events (c.loop-place.invariant.counted events h);
}

pub returns-clause-units : goal.returns-clause-units
returns-clause-units c frame states are sent service =
    all_got_so c.args.self.now.units.items c.loop-place.self.units.items c.args.self.now.answers.items c.loop-place.self.answers.items states (without c.args.losses.now c.args.n) frame c.len-place-end.result c.args.self.now.even
    c.loop-place.invariant.end are sent (λ p u less old empty. c.loop-place.invariant.before p frame u (omega (arith, less, c.loop-place-test.false)) service old empty)
    (λ p le. c.loop-place.invariant.behind p (omega (arith, le, c.loop-place.auto.place-end)))
