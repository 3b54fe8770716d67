use Rattle.std.proofs.Common.{◌<◌, ◌≤◌, refl, ap, sym, subst, ◌∙◌, arith}
use Rattle.knx_model.specs.Connection.{last_time}
use Rattle.line_model.specs.World.{Pass}
use Rattle.bus_sim.specs.Polls.{StopsWithin}
use Rattle.bus_sim.specs.RunNow.{RunNow}
use Rattle.bus_sim.specs.Turns.{Turns, Gets, Passes, PassesQuietly}
use Rattle.bus_sim.proofs.Polling.{OnErrAny, happens_smaller, smaller, goes_on, time_goes, stops, ends_got, ends_quiet}
use Rattle.bus_sim.proofs.Turning.{goes_same}
use Rattle.bus_sim.proofs.run.Run.run_for.Goals as goal

pub loop-letter-init : goal.loop-letter-init
loop-letter-init c = (goes_same c.args.self.now c.args.self.now refl, refl)

pub turn-requires : goal.turn-requires
turn-requires c = subst (λ n. n ≤ last_time) (sym c.loop-letter.invariant.1) c.requires.time

pub returns-in_err-letter-clause-err : goal.returns-in_err-letter-clause-err
returns-in_err-letter-clause-err c = OnErrAny c.from_residual.result (StopsWithin c.args.wait c.args.self.now c.turn.new.self) (stops c.args.self.now c.loop-letter.self c.turn.new.self c.loop-letter.left c.args.wait c.loop-letter.invariant c.in_err-letter.ensures.err)

pub returns-in-Got-clause-ended : goal.returns-in-Got-clause-ended
returns-in-Got-clause-ended c = ends_got c.args.self.now c.loop-letter.self c.turn.new.self c.in-Got.letter c.loop-letter.left c.args.wait c.args.wait c.requires.one c.loop-letter.invariant
    (subst (λ t. Turns t c.loop-letter.left c.loop-letter.self c.turn.new.self) c.in-Got.is c.in_ok-letter.ensures.turns) (omega arith)

pub loop-letter-smaller-in-Went : goal.loop-letter-smaller-in-Went
loop-letter-smaller-in-Went c =
    happens_smaller c.loop-letter.self c.turn.new.self c.few.ensures (subst (λ t. Turns t c.loop-letter.left c.loop-letter.self c.turn.new.self) c.in-Went.is c.in_ok-letter.ensures.turns)

pub loop-letter-preserved-in-Went : goal.loop-letter-preserved-in-Went
loop-letter-preserved-in-Went c = goes_on c.args.self.now c.loop-letter.self c.turn.new.self c.loop-letter.left c.args.wait c.requires.one c.loop-letter.invariant
    (subst (λ t. Turns t c.loop-letter.left c.loop-letter.self c.turn.new.self) c.in-Went.is c.in_ok-letter.ensures.turns)

pub loop-letter-smaller : goal.loop-letter-smaller
loop-letter-smaller c =
    let h : (0 < c.in-Passed.ms) × (c.in-Passed.ms ≤ c.loop-letter.left) × Passes c.in-Passed.ms c.loop-letter.self c.turn.new.self = subst (λ t. Turns t c.loop-letter.left c.loop-letter.self c.turn.new.self) c.in-Passed.is c.in_ok-letter.ensures.turns in
    smaller c.loop-letter.self c.turn.new.self (Pass c.in-Passed.ms) c.few.ensures h.2.went

pub loop-letter-preserved : goal.loop-letter-preserved
loop-letter-preserved c =
    let h : (0 < c.in-Passed.ms) × (c.in-Passed.ms ≤ c.loop-letter.left) × Passes c.in-Passed.ms c.loop-letter.self c.turn.new.self = subst (λ t. Turns t c.loop-letter.left c.loop-letter.self c.turn.new.self) c.in-Passed.is c.in_ok-letter.ensures.turns in
    time_goes c.args.self.now c.loop-letter.self c.turn.new.self c.loop-letter.left c.in-Passed.ms c.args.wait c.requires.one c.loop-letter.invariant h.0 h.1 h.2

pub returns-in-Quiet-clause-ended : goal.returns-in-Quiet-clause-ended
returns-in-Quiet-clause-ended c = ends_quiet c.args.self.now c.loop-letter.self c.turn.new.self c.loop-letter.left c.args.wait c.requires.one c.loop-letter.invariant
    (subst (λ t. Turns t c.loop-letter.left c.loop-letter.self c.turn.new.self) c.in-Quiet.is c.in_ok-letter.ensures.turns)

pub returns-in_err-letter-clause-begun : goal.returns-in_err-letter-clause-begun
returns-in_err-letter-clause-begun c = ap (λ (r : RunNow). r.begun) c.in_err-letter.ensures.err ∙ c.loop-letter.invariant.0.same

pub returns-in-Got-clause-begun : goal.returns-in-Got-clause-begun
returns-in-Got-clause-begun c =
    let h : Gets c.in-Got.letter c.loop-letter.self c.turn.new.self = subst (λ t. Turns t c.loop-letter.left c.loop-letter.self c.turn.new.self) c.in-Got.is c.in_ok-letter.ensures.turns in
    ap (λ (r : RunNow). r.begun) h.went ∙ c.loop-letter.invariant.0.same

pub returns-in-Quiet-clause-begun : goal.returns-in-Quiet-clause-begun
returns-in-Quiet-clause-begun c =
    let h : PassesQuietly c.loop-letter.left c.loop-letter.self c.turn.new.self = subst (λ t. Turns t c.loop-letter.left c.loop-letter.self c.turn.new.self) c.in-Quiet.is c.in_ok-letter.ensures.turns in
    ap (λ (r : RunNow). r.begun) h.passes.went ∙ c.loop-letter.invariant.0.same
