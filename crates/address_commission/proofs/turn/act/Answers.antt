use Rattle.std.proofs.Common.{subst, sym}
use Rattle.tunnel_link.specs.Adds.{Growing, Acts}
use Rattle.address_talk.specs.Rounds.{SameRounds}
use Rattle.address_commission.specs.Calls.{TalkGoes}
use Rattle.address_commission.proofs.Calls.{handed_on, told_ok, told_failed, paced_so_far, stays_open_on, act_talks, act_goes}
use Rattle.address_commission.proofs.Closing.{act_closes, goes_same_rounds}
use Rattle.address_commission.proofs.Pacing.{ends_none_of}
use Rattle.address_commission.proofs.turn.act.Goals as goal

pub returns-in_err-told-clause-goes : goal.returns-in_err-told-clause-goes
returns-in_err-told-clause-goes g c e =
    subst (λ r. TalkGoes SameRounds e e (g.L.Link.story c.args.tunnel.now.link) (g.L.Link.story c.act-acted.new.self.link) r) (sym (handed_on c.from_residual.result _ c.from_residual.ensures))
    (told_failed SameRounds e e _ _ _ c.in_err-told.ensures.cause (act_talks c.act-acted.result e _ _ c.act-acted.ensures.grows c.act-acted.ensures.adds)
    (stays_open_on e _ _ c.act-acted.ensures.grows (ends_none_of _ _ c.act-acted.ensures.alone)) (paced_so_far e _ _ c.act-acted.ensures.grows c.act-acted.ensures.timeless (ends_none_of _ _ c.act-acted.ensures.alone)))

pub returns-clause-goes : goal.returns-clause-goes
returns-clause-goes g c e =
    act_goes _ c.in_ok-told.field-0 e _ _ c.act-acted.ensures.grows
    (subst (λ r. Growing (Acts r) (g.L.Link.story c.args.tunnel.now.link) (g.L.Link.story c.act-acted.new.self.link)) (told_ok c.act-acted.result c.in_ok-told.field-0 c.in_ok-told.ensures.same) c.act-acted.ensures.adds) c.act-acted.ensures.timeless (ends_none_of _ _ c.act-acted.ensures.alone)

pub returns-clause-same : goal.returns-clause-same
returns-clause-same g c = goes_same_rounds _ _ (λ wanted. act_closes c.act-acted.result wanted _ _ c.act-acted.ensures.grows c.act-acted.ensures.adds)

pub returns-in_err-told-clause-same : goal.returns-in_err-told-clause-same
returns-in_err-told-clause-same g c = goes_same_rounds _ _ (λ wanted. act_closes c.act-acted.result wanted _ _ c.act-acted.ensures.grows c.act-acted.ensures.adds)
