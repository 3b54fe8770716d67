use Rattle.std.proofs.Common.{subst, sym, ◌∙◌, Ok}
use Rattle.address_commission.specs.Calls.{TalkGoes}
use Rattle.address_talk.specs.Rounds.{SameRounds}
use Rattle.address_commission.proofs.Calls.{handed_on, goes_then, none_awaited}
use Rattle.address_commission.proofs.Pacing.{not_both}
use Rattle.address_commission.proofs.open.open.Goals as goal

pub returns-in_err-act-clause-goes : goal.returns-in_err-act-clause-goes
returns-in_err-act-clause-goes g c =
    subst (λ r. TalkGoes SameRounds c.args.ear.now c.loop.ear (g.L.Link.story c.args.tunnel.now.link) (g.L.Link.story c.act.new.tunnel.link) r) (sym (handed_on c.from_residual.result _ c.from_residual.ensures))
    (goes_then tt c.args.ear.now c.loop.ear c.loop.ear _ _ _ _ c.loop.invariant.goes (c.in_err-act.ensures.goes c.loop.ear))

pub returns-in_err-seek-clause-goes : goal.returns-in_err-seek-clause-goes
returns-in_err-seek-clause-goes g c =
    subst (λ r. TalkGoes SameRounds c.args.ear.now c.loop.ear (g.L.Link.story c.args.tunnel.now.link) (g.L.Link.story c.seek.new.tunnel.link) r) (sym (handed_on c.from_residual-in_err-seek.result _ c.from_residual-in_err-seek.ensures))
    (goes_then tt c.args.ear.now c.loop.ear c.loop.ear _ _ _ _ (goes_then tt c.args.ear.now c.loop.ear c.loop.ear _ _ _ _ c.loop.invariant.goes (c.in_ok-act.ensures.goes c.loop.ear)) (c.in_err-seek.ensures.goes c.loop.ear))

pub returns-in_err-poll-clause-goes : goal.returns-in_err-poll-clause-goes
returns-in_err-poll-clause-goes g c =
    subst (λ r. TalkGoes SameRounds c.args.ear.now c.poll.new.ear (g.L.Link.story c.args.tunnel.now.link) (g.L.Link.story c.poll.new.tunnel.link) r) (sym (handed_on c.from_residual-in_err-poll.result _ c.from_residual-in_err-poll.ensures))
    (goes_then tt c.args.ear.now c.loop.ear c.poll.new.ear _ _ _ _
    (goes_then tt c.args.ear.now c.loop.ear c.loop.ear _ _ _ _ (goes_then tt c.args.ear.now c.loop.ear c.loop.ear _ _ _ _ c.loop.invariant.goes (c.in_ok-act.ensures.goes c.loop.ear)) (c.in_ok-seek.ensures.goes c.loop.ear)) c.in_err-poll.ensures.goes)

pub loop-preserved : goal.loop-preserved
loop-preserved g c = record {
  next = tt;
  finite = tt;
  goes = goes_then tt c.args.ear.now c.loop.ear c.poll.new.ear _ _ _ _
      (goes_then tt c.args.ear.now c.loop.ear c.loop.ear _ _ _ _ (goes_then tt c.args.ear.now c.loop.ear c.loop.ear _ _ _ _ c.loop.invariant.goes (c.in_ok-act.ensures.goes c.loop.ear)) (c.in_ok-seek.ensures.goes c.loop.ear)) c.in_ok-poll.ensures.goes;
  stands = c.in_ok-poll.ensures.stands;
  counts = c.in_ok-poll.ensures.counts ∙ c.in_ok-seek.ensures.counts ∙ c.in_ok-act.ensures.counts ∙ c.loop.invariant.counts;
  script = c.poll.ensures.script ∙ c.seek.ensures.script ∙ c.act.ensures.script ∙ c.loop.invariant.script;
}

pub poll-requires-clause-awaits : goal.poll-requires-clause-awaits
poll-requires-clause-awaits g c = λ wanted listens.
    none_awaited _ (λ places p place. not_both c.has_place.result ((c.has_place.ensures.told c.in_ok-seek.ensures.stands places p).1 place) c.if-has_place.false) wanted _

pub returns-then-has_place-clause-goes : goal.returns-then-has_place-clause-goes
returns-then-has_place-clause-goes g c =
    goes_then tt c.args.ear.now c.loop.ear c.loop.ear _ _ _ (Ok tt) (goes_then tt c.args.ear.now c.loop.ear c.loop.ear _ _ _ (Ok tt) c.loop.invariant.goes (c.in_ok-act.ensures.goes c.loop.ear)) (c.in_ok-seek.ensures.goes c.loop.ear)
