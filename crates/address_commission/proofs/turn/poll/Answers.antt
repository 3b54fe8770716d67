use Rattle.std.proofs.Common.{subst, sym, ◌∙◌}
use Rattle.tunnel_link.specs.Adds.{Growing, PollAdds}
use Rattle.address_talk.specs.Rounds.{SameRounds}
use Rattle.address_commission.specs.Calls.{TalkGoes}
use Rattle.address_commission.proofs.Calls.{handed_on, told_ok, told_failed, stays_open_on, poll_until, poll_talks, poll_ends}
use Rattle.address_commission.proofs.Closing.{poll_closes, goes_same_rounds}
use Rattle.address_commission.proofs.Pacing.{ends_none_of}
use Rattle.address_commission.proofs.turn.poll.Goals as goal

pub returns-in_err-came-clause-goes : goal.returns-in_err-came-clause-goes
returns-in_err-came-clause-goes g c =
    subst (λ r. TalkGoes SameRounds c.args.ear.now c.args.ear.now (g.L.Link.story c.args.tunnel.now.link) (g.L.Link.story c.poll-polled.new.self.link) r) (sym (handed_on c.from_residual.result _ c.from_residual.ensures))
    (told_failed SameRounds c.args.ear.now c.args.ear.now _ _ _ c.in_err-came.ensures.cause (poll_talks c.poll-polled.result _ c.in_err-came.ensures.same c.args.ear.now _ _ c.poll-polled.ensures.grows c.poll-polled.ensures.adds)
    (stays_open_on c.args.ear.now _ _ c.poll-polled.ensures.grows (ends_none_of _ _ c.poll-polled.ensures.alone)) (poll_until c.args.longest_ms c.args.ear.now _ _ c.poll-polled.ensures.grows c.poll-polled.ensures.within (c.poll-polled.ensures.beats c.requires.acted) c.poll-polled.ensures.alone))

pub returns-clause-goes : goal.returns-clause-goes
returns-clause-goes g c =
    poll_ends c.args.longest_ms c.in_ok-came.came c.args.ear.now c.hears.result c.now-now.result c.taken-taken.result _ _ c.poll-polled.ensures.grows
    (subst (λ r. Growing (PollAdds r) (g.L.Link.story c.args.tunnel.now.link) (g.L.Link.story c.poll-polled.new.self.link)) (told_ok c.poll-polled.result c.in_ok-came.came c.in_ok-came.ensures.same) c.poll-polled.ensures.adds)
    c.poll-polled.ensures.within (c.poll-polled.ensures.beats c.requires.acted) c.poll-polled.ensures.alone c.requires.awaits c.hears.ensures c.now-now.ensures.newest (λ places e. c.taken-taken.ensures ∙ (c.keeps.ensures.record places e).right.takes) c.ended.result c.ended.ensures.goes_on c.ended.ensures.ends

pub returns-clause-same : goal.returns-clause-same
returns-clause-same g c = goes_same_rounds _ _ (λ wanted. poll_closes c.poll-polled.result wanted _ _ c.poll-polled.ensures.grows c.poll-polled.ensures.adds)

pub returns-in_err-came-clause-same : goal.returns-in_err-came-clause-same
returns-in_err-came-clause-same g c = goes_same_rounds _ _ (λ wanted. poll_closes c.poll-polled.result wanted _ _ c.poll-polled.ensures.grows c.poll-polled.ensures.adds)
