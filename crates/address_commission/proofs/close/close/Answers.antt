use Rattle.std.proofs.Common.{◌≡◌, inr, subst}
use Rattle.address_talk.specs.Ends.{after_assign_fault}
use Rattle.address_commission.proofs.close.close.Goals as goal

pub returns-in-Err-LinkFailed-clause-leaves : goal.returns-in-Err-LinkFailed-clause-leaves
returns-in-Err-LinkFailed-clause-leaves g c =
    inr (subst (λ why. g.L.Link.faults c.leave.new.tunnel.link ≡ after_assign_fault why (g.L.Link.faults c.args.tunnel.now.link)) c.in-Err-LinkFailed.field-0-is c.in-Err-LinkFailed.ensures.counts)
