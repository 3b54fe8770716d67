use Rattle.std.proofs.Common.{◌∙◌, subst, sym, Ok}
use Rattle.address_commission.specs.Calls.{TalkGoes}
use Rattle.address_talk.specs.Rounds.{SameRounds}
use Rattle.address_commission.proofs.Asks.{awaits_for, still_listens_for}
use Rattle.address_commission.proofs.Calls.{goes_then, handed_on}
use Rattle.address_commission.proofs.wait.wait_out.Goals as goal

pub returns-in_err-act-clause-goes : goal.returns-in_err-act-clause-goes
returns-in_err-act-clause-goes g c =
    subst (λ r. TalkGoes SameRounds c.args.ear.now c.loop.ear (g.L.Link.story c.args.tunnel.now.link) (g.L.Link.story c.act.new.tunnel.link) r) (sym (handed_on c.from_residual.result _ c.from_residual.ensures))
    (goes_then tt c.args.ear.now c.loop.ear c.loop.ear _ _ _ _ c.loop.invariant.goes (c.in_err-act.ensures.goes c.loop.ear))

pub returns-then-has_waited-clause-goes : goal.returns-then-has_waited-clause-goes
returns-then-has_waited-clause-goes g c = goes_then tt c.args.ear.now c.loop.ear c.loop.ear _ _ _ (Ok tt) c.loop.invariant.goes (c.in_ok-act.ensures.goes c.loop.ear)

pub poll-requires-clause-awaits : goal.poll-requires-clause-awaits
poll-requires-clause-awaits g c =
    awaits_for c.args.quiet_ms c.rest-longest_ms.result c.now.result c.loop.ear _ (still_listens_for c.args.quiet_ms _ _ c.act.ensures.same c.loop.invariant.for_it) c.now.ensures.newest (c.has_waited.ensures.waits c.if-has_waited.false) c.rest-longest_ms.ensures.listens

pub returns-in_err-poll-clause-goes : goal.returns-in_err-poll-clause-goes
returns-in_err-poll-clause-goes g c =
    subst (λ r. TalkGoes SameRounds c.args.ear.now c.poll.new.ear (g.L.Link.story c.args.tunnel.now.link) (g.L.Link.story c.poll.new.tunnel.link) r) (sym (handed_on c.from_residual-in_err-poll.result _ c.from_residual-in_err-poll.ensures))
    (goes_then tt c.args.ear.now c.loop.ear c.poll.new.ear _ _ _ _ (goes_then tt c.args.ear.now c.loop.ear c.loop.ear _ _ _ _ c.loop.invariant.goes (c.in_ok-act.ensures.goes c.loop.ear)) c.in_err-poll.ensures.goes)

pub loop-preserved : goal.loop-preserved
loop-preserved g c = record {
  next = tt;
  finite = tt;
  goes = goes_then tt c.args.ear.now c.loop.ear c.poll.new.ear _ _ _ _ (goes_then tt c.args.ear.now c.loop.ear c.loop.ear _ _ _ _ c.loop.invariant.goes (c.in_ok-act.ensures.goes c.loop.ear)) c.in_ok-poll.ensures.goes;
  for_it = still_listens_for c.args.quiet_ms _ _ c.poll.ensures.same (still_listens_for c.args.quiet_ms _ _ c.act.ensures.same c.loop.invariant.for_it);
  stands = c.in_ok-poll.ensures.stands;
  counts = c.in_ok-poll.ensures.counts ∙ c.in_ok-act.ensures.counts ∙ c.loop.invariant.counts;
  script = c.poll.ensures.script ∙ c.act.ensures.script ∙ c.loop.invariant.script;
}

pub returns-then-has_waited-clause-waited : goal.returns-then-has_waited-clause-waited
returns-then-has_waited-clause-waited g c = c.has_waited.ensures.waited c.if-has_waited.true
