use Rattle.std.proofs.Common.{◌∙◌, subst, sym}
use Rattle.address_talk.specs.Ends.{EndsSo}
use Rattle.address_commission.proofs.Calls.{handed_on}
use Rattle.address_commission.proofs.Closing.{answered_at, closing_fails, counts_end}
use Rattle.address_commission.proofs.Ends.{fails_before, new_listens, open_begins}
use Rattle.address_commission.specs.Exact.{WhereClock}
use Rattle.address_commission.proofs.giving.talk.Goals as goal

pub returns-in_err-open-clause-ends : goal.returns-in_err-open-clause-ends
returns-in_err-open-clause-ends g c =
    subst (λ r. WhereClock (EndsSo c.args.wanted r) (g.L.Link.story c.open.new.tunnel.link)) (sym (handed_on c.from_residual.result _ c.from_residual.ensures))
    (fails_before c.args.wanted _ _ (c.in_err-open.ensures.goes.fails c.args.wanted (new_listens c.args.wanted c.new-ear.result _ c.new-ear.ensures c.requires.new)))

pub give-requires-clause-begins : goal.give-requires-clause-begins
give-requires-clause-begins g c =
    open_begins _ _ c.requires.new (c.in_ok-open.ensures.goes.moves c.args.wanted (new_listens c.args.wanted c.new-ear.result _ c.new-ear.ensures c.requires.new)) c.in_ok-open.ensures.free

pub give-requires-clause-listens : goal.give-requires-clause-listens
give-requires-clause-listens g c = c.in_ok-open.ensures.goes.listens c.args.wanted (new_listens c.args.wanted c.new-ear.result _ c.new-ear.ensures c.requires.new)

pub returns-in_err-assigned-clause-ends : goal.returns-in_err-assigned-clause-ends
returns-in_err-assigned-clause-ends g c =
    subst (λ r. WhereClock (EndsSo c.args.wanted r) (g.L.Link.story c.give.new.tunnel.link)) (sym (handed_on c.from_residual-in_err-assigned.result _ c.from_residual-in_err-assigned.ensures)) (fails_before c.args.wanted _ _ c.in_err-assigned.ensures.fails)

pub returns-clause-ends : goal.returns-clause-ends
returns-clause-ends g c = answered_at c.args.wanted c.in_ok-assigned.assigned _ _ c.in_ok-assigned.ensures.gives (c.close.ensures.closes c.args.wanted) c.close.ensures.paces

pub returns-in_err-close-clause-ends : goal.returns-in_err-close-clause-ends
returns-in_err-close-clause-ends g c =
    subst (λ r. WhereClock (EndsSo c.args.wanted r) (g.L.Link.story c.close.new.tunnel.link)) (sym (handed_on c.from_residual-in_err-close.result _ c.from_residual-in_err-close.ensures))
    (closing_fails c.args.wanted c.in_ok-assigned.assigned _ _ _ c.in_ok-assigned.ensures.gives (c.in_err-close.ensures.closes c.args.wanted) c.in_err-close.ensures.paces c.in_err-close.ensures.fails c.in_err-close.ensures.late)

pub returns-clause-counts : goal.returns-clause-counts
returns-clause-counts g c =
    counts_end c.args.wanted c.in_ok-assigned.assigned _ _ _ _ _ (c.in_ok-assigned.ensures.counts ∙ c.in_ok-open.ensures.counts) c.in_ok-assigned.ensures.gives c.in_ok-close.ensures.leaves

pub close-requires-clause-kept : goal.close-requires-clause-kept
close-requires-clause-kept g c places p = (c.in_ok-assigned.ensures.gives places p).stands.kept

pub close-requires-clause-stays : goal.close-requires-clause-stays
close-requires-clause-stays g c places p = (c.in_ok-assigned.ensures.gives places p).stands.stays_open
