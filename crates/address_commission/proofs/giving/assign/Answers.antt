use Rattle.address_commission.proofs.Ends.{keeps_channel, puts_only, units_determined, units_kept}
use Rattle.address_commission.proofs.giving.assign.Goals as goal

pub returns-clause-units : goal.returns-clause-units
returns-clause-units g c =
    rw c.end-link.ensures (units_kept c.args.wanted c.talk-result.result c.talk-result.new.tunnel.known (g.L.Link.story c.talk-result.new.tunnel.link) (g.L.AddressLink.told c.talk-result.new.tunnel.link) c.talk-result.ensures.ends c.keeps.ensures.record (rw (← c.end-link.ensures) c.tells.ensures)
    (c.requests_are_those_that_were_put.ensures c.args.wanted) (c.units_keep_their_addresses.ensures c.args.wanted))

pub returns-clause-counts : goal.returns-clause-counts
returns-clause-counts g c = rw c.end-link.ensures (rw (← c.begin-tunnel.ensures.link) c.talk-result.ensures.counts)

pub returns-clause-determined : goal.returns-clause-determined
returns-clause-determined g c =
    rw c.end-link.ensures (units_determined c.args.wanted c.talk-result.result c.talk-result.new.tunnel.known (g.L.Link.story c.talk-result.new.tunnel.link) (g.L.AddressLink.told c.talk-result.new.tunnel.link) c.talk-result.ensures.ends c.keeps.ensures.record
    (rw (← c.end-link.ensures) c.tells.ensures) c.talk-result.ensures.tries c.the_units_determine_what_comes_of_it.ensures)

pub returns-clause-channel : goal.returns-clause-channel
returns-clause-channel g c = rw c.end-link.ensures (keeps_channel c.talk-result.new.tunnel.known (g.L.Link.story c.talk-result.new.tunnel.link) c.keeps.ensures.record)

pub returns-clause-puts : goal.returns-clause-puts
returns-clause-puts g c = rw c.end-link.ensures (puts_only c.args.wanted c.talk-result.result c.talk-result.new.tunnel.known (g.L.Link.story c.talk-result.new.tunnel.link) c.talk-result.ensures.ends c.keeps.ensures.record (c.requests_are_those_that_were_put.ensures c.args.wanted))
