use Rattle.std.proofs.Common.{take, refl, subst, sym}
use Rattle.line_model.specs.PortStory.{TakesAs, Took, Quiet, Adds}
use Rattle.bus_sim.specs.Serving.{quiet_ms}
use Rattle.bus_sim.specs.Turned.{StopsTurn, Turned}
use Rattle.bus_sim.proofs.Polling.{OnErrAny}
use Rattle.bus_sim.proofs.Turned.{none_taken, not_taken, quiet_stops, quiet_turn, took_stops, took_turn}
use Rattle.bus_sim.proofs.run.Run.serve_turn.Goals as goal

pub returns-in_err-len-clause-err : goal.returns-in_err-len-clause-err
returns-in_err-len-clause-err g c = OnErrAny c.from_residual.result (StopsTurn c.args.self.now c.args.self.now (g.P.Port.story c.args.port.now) (g.P.Port.story c.take.new.self))
    (none_taken c.args.self.now c.args.self.now (g.P.Port.story c.args.port.now) (g.P.Port.story c.take.new.self) refl c.in_err-len.ensures.taken)

pub returns-in_err-send_from-in-Got-clause-err : goal.returns-in_err-send_from-in-Got-clause-err
returns-in_err-send_from-in-Got-clause-err g c =
    let taken : Adds (Took c.in-Got.from (take c.in-Got.len c.take.new.into)) (g.P.Port.story c.args.port.now) (g.P.Port.story c.take.new.self) =
    (subst (λ p. TakesAs p c.take.new.into quiet_ms (g.P.Port.story c.args.port.now) (g.P.Port.story c.take.new.self)) c.in-Got.is c.in_ok-len.ensures.taken).1 in
    OnErrAny c.from_residual-in_err-send_from-in-Got.result (StopsTurn c.args.self.now c.send_from.new.self (g.P.Port.story c.args.port.now) (g.P.Port.story c.take.new.self))
    (not_taken c.args.self.now c.send_from.new.self (g.P.Port.story c.args.port.now) (g.P.Port.story c.take.new.self) c.in-Got.from (take c.in-Got.len c.take.new.into) taken c.in_err-send_from-in-Got.ensures.err)

pub returns-in_err-go_on_for-in-Got-clause-err : goal.returns-in_err-go_on_for-in-Got-clause-err
returns-in_err-go_on_for-in-Got-clause-err g c =
    let taken : Adds (Took c.in-Got.from (take c.in-Got.len c.take.new.into)) (g.P.Port.story c.args.port.now) (g.P.Port.story c.take.new.self) =
    (subst (λ p. TakesAs p c.take.new.into quiet_ms (g.P.Port.story c.args.port.now) (g.P.Port.story c.take.new.self)) c.in-Got.is c.in_ok-len.ensures.taken).1 in
    OnErrAny c.from_residual-in_err-go_on_for-in-Got.result (StopsTurn c.args.self.now c.go_on_for.new.self (g.P.Port.story c.args.port.now) (g.P.Port.story c.go_on_for.new.port))
    (took_stops c.args.self.now c.send_from.new.self c.go_on_for.new.self (g.P.Port.story c.args.port.now) (g.P.Port.story c.take.new.self) (g.P.Port.story c.go_on_for.new.port) c.in-Got.from (take c.in-Got.len c.take.new.into)
    taken c.in_ok-send_from-in-Got.ensures.went c.in_err-go_on_for-in-Got.ensures.err)

pub returns-in_err-go_on_for-in-Quiet-clause-err : goal.returns-in_err-go_on_for-in-Quiet-clause-err
returns-in_err-go_on_for-in-Quiet-clause-err g c =
    let waited : Adds (Quiet quiet_ms) (g.P.Port.story c.args.port.now) (g.P.Port.story c.take.new.self) =
    subst (λ p. TakesAs p c.take.new.into quiet_ms (g.P.Port.story c.args.port.now) (g.P.Port.story c.take.new.self)) c.in-Quiet.is c.in_ok-len.ensures.taken in
    OnErrAny c.from_residual-in_err-go_on_for-in-Quiet.result (StopsTurn c.args.self.now c.go_on_for-in-Quiet.new.self (g.P.Port.story c.args.port.now) (g.P.Port.story c.go_on_for-in-Quiet.new.port))
    (quiet_stops c.args.self.now c.go_on_for-in-Quiet.new.self (g.P.Port.story c.args.port.now) (g.P.Port.story c.take.new.self) (g.P.Port.story c.go_on_for-in-Quiet.new.port) waited c.in_err-go_on_for-in-Quiet.ensures.err)

pub returns-in_ok-go_on_for-in-Got-clause-turned : goal.returns-in_ok-go_on_for-in-Got-clause-turned
returns-in_ok-go_on_for-in-Got-clause-turned g c =
    let taken : Adds (Took c.in-Got.from (take c.in-Got.len c.take.new.into)) (g.P.Port.story c.args.port.now) (g.P.Port.story c.take.new.self) =
    (subst (λ p. TakesAs p c.take.new.into quiet_ms (g.P.Port.story c.args.port.now) (g.P.Port.story c.take.new.self)) c.in-Got.is c.in_ok-len.ensures.taken).1 in
    took_turn c.args.self.now c.send_from.new.self c.go_on_for.new.self (g.P.Port.story c.args.port.now) (g.P.Port.story c.take.new.self) (g.P.Port.story c.go_on_for.new.port) c.in-Got.from (take c.in-Got.len c.take.new.into)
    taken c.in_ok-send_from-in-Got.ensures.went c.args.quiet c.in_ok-go_on_for-in-Got.ensures.plays

pub returns-in_ok-go_on_for-in-Quiet-clause-turned : goal.returns-in_ok-go_on_for-in-Quiet-clause-turned
returns-in_ok-go_on_for-in-Quiet-clause-turned g c =
    let waited : Adds (Quiet quiet_ms) (g.P.Port.story c.args.port.now) (g.P.Port.story c.take.new.self) =
    subst (λ p. TakesAs p c.take.new.into quiet_ms (g.P.Port.story c.args.port.now) (g.P.Port.story c.take.new.self)) c.in-Quiet.is c.in_ok-len.ensures.taken in
    subst (λ q. Turned c.args.quiet q c.args.self.now c.go_on_for-in-Quiet.new.self (g.P.Port.story c.args.port.now) (g.P.Port.story c.go_on_for-in-Quiet.new.port)) (sym c.min.ensures)
    (quiet_turn c.args.self.now c.go_on_for-in-Quiet.new.self (g.P.Port.story c.args.port.now) (g.P.Port.story c.take.new.self) (g.P.Port.story c.go_on_for-in-Quiet.new.port) waited c.args.quiet c.in_ok-go_on_for-in-Quiet.ensures.plays)
