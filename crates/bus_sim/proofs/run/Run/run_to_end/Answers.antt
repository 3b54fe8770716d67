use Rattle.std.proofs.Common.{◌<◌, ◌≤◌, refl, subst}
use Rattle.bus_sim.specs.Polls.{StopsWithin}
use Rattle.bus_sim.specs.Turns.{Turns, Passes}
use Rattle.bus_sim.proofs.Polling.{OnErrAny, happens_smaller, goes_on, time_goes, stops, ends_got, over_at}
use Rattle.bus_sim.proofs.Turning.{goes_same}
use Rattle.bus_sim.proofs.run.Run.run_to_end.Goals as goal

pub loop-left-init : goal.loop-left-init
loop-left-init c = (goes_same c.args.self.now c.args.self.now refl, refl)

pub returns-in_err-letter-clause-err : goal.returns-in_err-letter-clause-err
returns-in_err-letter-clause-err c = OnErrAny c.from_residual.result (StopsWithin c.args.wait c.args.self.now c.turn.new.self) (stops c.args.self.now c.loop-left.self c.turn.new.self c.loop-left.left c.args.wait c.loop-left.invariant c.in_err-letter.ensures.err)

pub returns-in-Got-clause-got : goal.returns-in-Got-clause-got
returns-in-Got-clause-got c = λ longer le. ends_got c.args.self.now c.loop-left.self c.turn.new.self c.in-Got.letter c.loop-left.left c.args.wait longer c.requires.one c.loop-left.invariant
    (subst (λ t. Turns t c.loop-left.left c.loop-left.self c.turn.new.self) c.in-Got.is c.in_ok-letter.ensures.turns) le

pub loop-left-smaller-in-Went : goal.loop-left-smaller-in-Went
loop-left-smaller-in-Went c = happens_smaller c.loop-left.self c.turn.new.self c.few.ensures (subst (λ t. Turns t c.loop-left.left c.loop-left.self c.turn.new.self) c.in-Went.is c.in_ok-letter.ensures.turns)

pub loop-left-preserved-in-Went : goal.loop-left-preserved-in-Went
loop-left-preserved-in-Went c = goes_on c.args.self.now c.loop-left.self c.turn.new.self c.loop-left.left c.args.wait c.requires.one c.loop-left.invariant
    (subst (λ t. Turns t c.loop-left.left c.loop-left.self c.turn.new.self) c.in-Went.is c.in_ok-letter.ensures.turns)

pub loop-left-preserved-in-Passed : goal.loop-left-preserved-in-Passed
loop-left-preserved-in-Passed c =
    let h : (0 < c.in-Passed.ms) × (c.in-Passed.ms ≤ c.loop-left.left) × Passes c.in-Passed.ms c.loop-left.self c.turn.new.self = subst (λ t. Turns t c.loop-left.left c.loop-left.self c.turn.new.self) c.in-Passed.is c.in_ok-letter.ensures.turns in
    time_goes c.args.self.now c.loop-left.self c.turn.new.self c.loop-left.left c.in-Passed.ms c.args.wait c.requires.one c.loop-left.invariant h.0 h.1 h.2

pub loop-left-preserved : goal.loop-left-preserved
loop-left-preserved c = over_at c.args.self.now c.loop-left.self c.turn.new.self c.loop-left.left c.args.wait c.requires.one c.loop-left.invariant c.loop-left-test.true
    (subst (λ t. Turns t c.loop-left.left c.loop-left.self c.turn.new.self) c.in-Quiet.is c.in_ok-letter.ensures.turns)
