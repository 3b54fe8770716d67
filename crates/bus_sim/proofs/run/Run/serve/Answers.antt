use Rattle.std.proofs.Common.{refl, ◌∙◌, arith}
use Rattle.bus_sim.specs.RunNow.{seen}
use Rattle.bus_sim.specs.Serving.{BreaksOff}
use Rattle.bus_sim.proofs.Polling.{OnErrAny}
use Rattle.bus_sim.proofs.Quiets.{counts_none}
use Rattle.bus_sim.proofs.Serves.{breaks_off, ended_so, on_so, serves_begins}
use Rattle.bus_sim.proofs.run.Run.serve.Goals as goal

pub loop-left-init : goal.loop-left-init
loop-left-init g c = record {
  serves = serves_begins c.args.turns c.args.self.now c.begin_to_serve.new.self (g.P.Port.story c.args.port.now) c.in_ok-begin_to_serve.ensures.begun c.in_ok-begin_to_serve.ensures.events;
  most = counts_none.most;
  counts = refl;
}

pub returns-in_err-quiet-clause-broken : goal.returns-in_err-quiet-clause-broken
returns-in_err-quiet-clause-broken g c =
    OnErrAny c.from_residual-in_err-quiet.result (BreaksOff c.args.turns (seen c.args.self.now) (seen c.serve_turn.new.self) (g.P.Port.story c.args.port.now) (g.P.Port.story c.serve_turn.new.port))
    (breaks_off c.loop-left.quiet c.loop-left.left c.args.turns c.args.self.now c.loop-left.self c.serve_turn.new.self (g.P.Port.story c.args.port.now) (g.P.Port.story c.loop-left.port) (g.P.Port.story c.serve_turn.new.port)
    c.loop-left.invariant.serves (grind (arith, c.loop-left-test.true)) c.in_err-quiet.ensures.err)

pub returns-then-has_ended-clause-served : goal.returns-then-has_ended-clause-served
returns-then-has_ended-clause-served g c =
    ended_so c.loop-left.quiet c.in_ok-quiet.quiet c.loop-left.left c.args.turns c.args.self.now c.loop-left.self c.serve_turn.new.self (g.P.Port.story c.args.port.now) (g.P.Port.story c.loop-left.port) (g.P.Port.story c.serve_turn.new.port)
    c.loop-left.invariant.serves c.in_ok-quiet.ensures.turned c.has_ended.result c.has_ended.ensures (grind (arith, c.loop-left-test.true)) c.if-has_ended.true

pub loop-left-preserved : goal.loop-left-preserved
loop-left-preserved g c = record {
  serves = on_so c.loop-left.quiet c.in_ok-quiet.quiet c.loop-left.left c.args.turns c.args.self.now c.loop-left.self c.serve_turn.new.self (g.P.Port.story c.args.port.now) (g.P.Port.story c.loop-left.port) (g.P.Port.story c.serve_turn.new.port)
      c.loop-left.invariant.serves c.in_ok-quiet.ensures.turned c.has_ended.result c.has_ended.ensures (grind (arith, c.loop-left-test.true)) c.if-has_ended.false;
  most = c.in_ok-quiet.ensures.most;
  counts = c.in_ok-quiet.ensures.counts ∙ c.loop-left.invariant.counts;
}
