use Rattle.std.proofs.Common.{subst, OnOk}
use Rattle.tunnel_link.specs.Adds.{Acts, Growing, HasActed}
use Rattle.tunnel_link.specs.Alone.{EndsNone}
use Rattle.tunnel_link.proofs.Alone.{both_each}
use Rattle.tunnel_link.proofs.Stories.{goes_again}
use Rattle.address_commission.proofs.Calls.{told_ok}
use Rattle.address_commission.proofs.Closing.{act_closes, closes_on, poll_closes}
use Rattle.address_commission.proofs.Pacing.{ends_none_of}
use Rattle.address_commission.proofs.Leaving.{alone_kept, paces_then, poll_kept, told_causes, told_left}
use Rattle.address_commission.proofs.close.waits.Goals as goal

pub returns-in_err-told-clause-closes : goal.returns-in_err-told-clause-closes
returns-in_err-told-clause-closes g c wanted = act_closes c.act-acted.result wanted _ _ c.act-acted.ensures.grows c.act-acted.ensures.adds

pub returns-in_err-told-clause-paces : goal.returns-in_err-told-clause-paces
returns-in_err-told-clause-paces g c = alone_kept _ _ c.act-acted.ensures.grows c.act-acted.ensures.timeless c.act-acted.ensures.alone

pub returns-in_err-told-clause-alone : goal.returns-in_err-told-clause-alone
returns-in_err-told-clause-alone g c = ends_none_of _ _ c.act-acted.ensures.alone

pub returns-clause-closes : goal.returns-clause-closes
returns-clause-closes g c wanted = closes_on wanted _ _ _ (act_closes c.act-acted.result wanted _ _ c.act-acted.ensures.grows c.act-acted.ensures.adds) (poll_closes c.poll-polled.result wanted _ _ c.poll-polled.ensures.grows c.poll-polled.ensures.adds)

pub returns-clause-paces : goal.returns-clause-paces
returns-clause-paces g c =
    paces_then _ _ _ (alone_kept _ _ c.act-acted.ensures.grows c.act-acted.ensures.timeless c.act-acted.ensures.alone)
    (poll_kept c.args.longest_ms _ _ c.poll-polled.ensures.grows c.poll-polled.ensures.within (c.poll-polled.ensures.beats (subst (λ r. OnOk r (HasActed c.act-acted.new.self.known (g.L.Link.story c.act-acted.new.self.link))) (told_ok c.act-acted.result c.in_ok-told.field-0 c.in_ok-told.ensures.same) c.act-acted.ensures.acted)) c.poll-polled.ensures.alone)

pub returns-clause-awaits : goal.returns-clause-awaits
returns-clause-awaits g c =
    told_left c.poll-polled.result c.told-2.result c.told-2.ensures.same c.in_ok-told.field-0 c.args.longest_ms _ _ _ c.act-acted.ensures.grows
    (subst (λ r. Growing (Acts r) (g.L.Link.story c.args.tunnel.now.link) (g.L.Link.story c.act-acted.new.self.link)) (told_ok c.act-acted.result c.in_ok-told.field-0 c.in_ok-told.ensures.same) c.act-acted.ensures.adds) c.act-acted.ensures.timeless
    c.poll-polled.ensures.grows c.poll-polled.ensures.adds c.poll-polled.ensures.within

pub returns-clause-grows : goal.returns-clause-grows
returns-clause-grows g c = goes_again _ _ _ c.act-acted.ensures.grows c.poll-polled.ensures.grows

pub returns-clause-alone : goal.returns-clause-alone
returns-clause-alone g c = both_each EndsNone _ _ _ c.act-acted.ensures.grows c.poll-polled.ensures.grows (ends_none_of _ _ c.act-acted.ensures.alone) (ends_none_of _ _ c.poll-polled.ensures.alone)

pub returns-clause-fails : goal.returns-clause-fails
returns-clause-fails g c = told_causes c.told-2.result _ c.told-2.ensures.cause
