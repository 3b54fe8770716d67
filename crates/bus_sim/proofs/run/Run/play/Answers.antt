use Rattle.std.proofs.Common.{◌<◌, ◌≤◌, inl, refl, subst, ◌∙◌}
use Rattle.bus_sim.specs.Turned.{StopsPlaying}
use Rattle.bus_sim.specs.Turns.{Turns, Gets, Happens, Passes, PassesQuietly}
use Rattle.bus_sim.proofs.Playing.{gives_or_not, plays_still, until_begins, until_ends, until_given, until_happens, until_passes}
use Rattle.bus_sim.proofs.Polling.{OnErrAny, happens_smaller}
use Rattle.bus_sim.proofs.run.Run.play.Goals as goal

pub loop-letter-init : goal.loop-letter-init
loop-letter-init g c = record { plays = until_begins c.args.self.now c.args.wait (g.P.Port.story c.args.port.now); counts = refl }

pub returns-in_err-letter-clause-err : goal.returns-in_err-letter-clause-err
returns-in_err-letter-clause-err g c = OnErrAny c.from_residual.result (StopsPlaying c.args.self.now c.turn.new.self (g.P.Port.story c.args.port.now) (g.P.Port.story c.loop-letter.port))
    (inl (plays_still c.args.self.now c.loop-letter.self c.turn.new.self (g.P.Port.story c.args.port.now) (g.P.Port.story c.loop-letter.port) (g.P.Port.story c.loop-letter.port) c.loop-letter.invariant.plays.plays c.in_err-letter.ensures.err refl))

pub loop-letter-preserved-in-Continue-branch-3 : goal.loop-letter-preserved-in-Continue-branch-3
loop-letter-preserved-in-Continue-branch-3 g c =
    let gets : Gets c.in-Got.letter c.loop-letter.self c.turn.new.self = subst (λ t. Turns t c.loop-letter.left c.loop-letter.self c.turn.new.self) c.in-Got.is c.in_ok-letter.ensures.turns in
    record {
      plays = until_given c.args.self.now c.loop-letter.self c.turn.new.self c.loop-letter.left c.args.wait (g.P.Port.story c.args.port.now) (g.P.Port.story c.loop-letter.port) (g.P.Port.story c.give.new.self) c.in-Got.letter c.in-Got.letter.to c.as_slice.result.now
          c.loop-letter.invariant.plays gets refl c.as_slice.ensures.value c.in_ok-give-in-Got.ensures.given;
      counts = c.in_ok-give-in-Got.ensures.counts ∙ c.loop-letter.invariant.counts;
    }

pub returns-in_err-give-in-Got-clause-err : goal.returns-in_err-give-in-Got-clause-err
returns-in_err-give-in-Got-clause-err g c =
    let gets : Gets c.in-Got.letter c.loop-letter.self c.turn.new.self = subst (λ t. Turns t c.loop-letter.left c.loop-letter.self c.turn.new.self) c.in-Got.is c.in_ok-letter.ensures.turns in
    OnErrAny c.from_residual-in_err-give-in-Got.result (StopsPlaying c.args.self.now c.turn.new.self (g.P.Port.story c.args.port.now) (g.P.Port.story c.give.new.self))
    (gives_or_not c.args.self.now c.loop-letter.self c.turn.new.self c.loop-letter.left c.args.wait (g.P.Port.story c.args.port.now) (g.P.Port.story c.loop-letter.port) (g.P.Port.story c.give.new.self) c.in-Got.letter c.in-Got.letter.to c.as_slice.result.now
    c.loop-letter.invariant.plays gets refl c.as_slice.ensures.value c.in_err-give-in-Got.ensures.failed)

pub loop-letter-smaller-in-Went : goal.loop-letter-smaller-in-Went
loop-letter-smaller-in-Went g c = happens_smaller c.loop-letter.self c.turn.new.self c.few.ensures (subst (λ t. Turns t c.loop-letter.left c.loop-letter.self c.turn.new.self) c.in-Went.is c.in_ok-letter.ensures.turns)

pub loop-letter-preserved-in-Went : goal.loop-letter-preserved-in-Went
loop-letter-preserved-in-Went g c =
    let happens : Happens c.loop-letter.self c.turn.new.self = subst (λ t. Turns t c.loop-letter.left c.loop-letter.self c.turn.new.self) c.in-Went.is c.in_ok-letter.ensures.turns in
    record {
      plays = until_happens c.args.self.now c.loop-letter.self c.turn.new.self c.loop-letter.left c.args.wait (g.P.Port.story c.args.port.now) (g.P.Port.story c.loop-letter.port) c.loop-letter.invariant.plays happens;
      counts = c.loop-letter.invariant.counts;
    }

pub loop-letter-preserved : goal.loop-letter-preserved
loop-letter-preserved g c =
    let passes : (0 < c.in-Passed.ms) × (c.in-Passed.ms ≤ c.loop-letter.left) × Passes c.in-Passed.ms c.loop-letter.self c.turn.new.self = subst (λ t. Turns t c.loop-letter.left c.loop-letter.self c.turn.new.self) c.in-Passed.is c.in_ok-letter.ensures.turns in
    record {
      plays = until_passes c.args.self.now c.loop-letter.self c.turn.new.self c.loop-letter.left c.in-Passed.ms c.args.wait (g.P.Port.story c.args.port.now) (g.P.Port.story c.loop-letter.port) c.loop-letter.invariant.plays passes.1 passes.2;
      counts = c.loop-letter.invariant.counts;
    }

pub returns-in-Quiet-clause-plays : goal.returns-in-Quiet-clause-plays
returns-in-Quiet-clause-plays g c = until_ends c.args.self.now c.loop-letter.self c.turn.new.self c.loop-letter.left c.args.wait (g.P.Port.story c.args.port.now) (g.P.Port.story c.loop-letter.port) c.requires.serves c.loop-letter.invariant.plays
    (let ends : PassesQuietly c.loop-letter.left c.loop-letter.self c.turn.new.self = subst (λ t. Turns t c.loop-letter.left c.loop-letter.self c.turn.new.self) c.in-Quiet.is c.in_ok-letter.ensures.turns in ends.passes)
