use Rattle.std.proofs.Common.{subst, sym}
use Rattle.tunnel_link.specs.Adds.{Growing, Seeks}
use Rattle.address_talk.specs.Rounds.{SameRounds}
use Rattle.address_commission.specs.Calls.{TalkGoes}
use Rattle.address_commission.proofs.Calls.{handed_on, told_ok, told_failed, paced_so_far, stays_open_on, seek_talks, seek_goes}
use Rattle.address_commission.proofs.open.seek.Goals as goal

pub returns-in_err-told-clause-goes : goal.returns-in_err-told-clause-goes
returns-in_err-told-clause-goes g c e =
    subst (λ r. TalkGoes SameRounds e e (g.L.Link.story c.args.tunnel.now.link) (g.L.Link.story c.seek-sought.new.self.link) r) (sym (handed_on c.from_residual.result _ c.from_residual.ensures))
    (told_failed SameRounds e e _ _ _ c.in_err-told.ensures.cause (seek_talks c.seek-sought.result e _ _ c.seek-sought.ensures.grows c.seek-sought.ensures.adds)
    (stays_open_on e _ _ c.seek-sought.ensures.grows c.seek-sought.ensures.alone) (paced_so_far e _ _ c.seek-sought.ensures.grows c.seek-sought.ensures.timeless c.seek-sought.ensures.alone))

pub returns-clause-goes : goal.returns-clause-goes
returns-clause-goes g c e =
    seek_goes c.in_ok-told.field-0 e _ _ c.seek-sought.ensures.grows
    (subst (λ r. Growing (Seeks r) (g.L.Link.story c.args.tunnel.now.link) (g.L.Link.story c.seek-sought.new.self.link)) (told_ok c.seek-sought.result c.in_ok-told.field-0 c.in_ok-told.ensures.same) c.seek-sought.ensures.adds) c.seek-sought.ensures.timeless c.seek-sought.ensures.alone
