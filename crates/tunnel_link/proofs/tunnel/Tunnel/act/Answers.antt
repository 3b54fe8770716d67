use Rattle.std.proofs.Common.{◌≡◌, rules, refl, sym, subst, ap, ◌∙◌}
use Rattle.line_model.specs.LinkStory.{IsTime}
use Rattle.tunnel_link.specs.Kept.{with_due}
use Rattle.tunnel_link.specs.Paces.{TakesNoTime}
use Rattle.tunnel_link.specs.Alone.{LeavesAlone}
use Rattle.tunnel_link.proofs.Stories.{goes_again}
use Rattle.tunnel_link.proofs.Acting.{act_first, act_second, act_all}
use Rattle.tunnel_link.proofs.Prompts.{twice_acted}
use Rattle.tunnel_link.proofs.Alone.{both_each}
use Rattle.tunnel_link.proofs.tunnel.Tunnel.act.Goals.{then-again, else-again}
use Rattle.tunnel_link.proofs.tunnel.Tunnel.act.Goals as goal

pub returns-in_err-again-clause-adds : goal.returns-in_err-again-clause-adds
returns-in_err-again-clause-adds g c = act_first _ _ _ c.in_err-again.field-0.0 (search rules) _ c.in_err-again.was c.send_due.ensures.adds

pub returns-in_err-beat-clause-grows : goal.returns-in_err-beat-clause-grows
returns-in_err-beat-clause-grows g c = goes_again _ _ _ c.send_due.ensures.grows c.send_due-2.ensures.grows

pub returns-in_err-beat-clause-adds : goal.returns-in_err-beat-clause-adds
returns-in_err-beat-clause-adds g c = act_second _ _ _ _ _ c.send_due.ensures.grows c.send_due-2.ensures.grows c.send_due.ensures.adds c.send_due-2.ensures.adds _ c.in_err-beat.field-0.0 (search rules) _ c.in_ok-again.was c.in_err-beat.was

pub returns-clause-grows : goal.returns-clause-grows
returns-clause-grows g c = goes_again _ _ _ c.send_due.ensures.grows c.send_due-2.ensures.grows

pub returns-clause-adds : goal.returns-clause-adds
returns-clause-adds g c = act_all _ _ _ _ _ c.send_due.ensures.grows c.send_due-2.ensures.grows c.send_due.ensures.adds c.send_due-2.ensures.adds _ _ _ c.in_ok-again.was c.in_ok-beat.was (elim c.if-again.branch [
  | then-again w ↦ w.result-is ∙ rw w.if-again.true refl
  | else-again w ↦ rw w.if-again.false w.result-is
])

pub returns-in_err-beat-clause-timeless : goal.returns-in_err-beat-clause-timeless
returns-in_err-beat-clause-timeless g c = both_each TakesNoTime _ _ _ c.send_due.ensures.grows c.send_due-2.ensures.grows c.send_due.ensures.timeless c.send_due-2.ensures.timeless

pub returns-clause-timeless : goal.returns-clause-timeless
returns-clause-timeless g c = both_each TakesNoTime _ _ _ c.send_due.ensures.grows c.send_due-2.ensures.grows c.send_due.ensures.timeless c.send_due-2.ensures.timeless

pub returns-clause-acted : goal.returns-clause-acted
returns-clause-acted g c =
    let known : (c.send_due-2.new.self.known ≡ with_due (with_due c.args.self.now.known c.now-now.result) c.now-now.result) = c.in_ok-beat.ensures.known ∙ ap (λ k. with_due k c.now-now.result) c.in_ok-again.ensures.known in
    rw (← c.self-2.view_is) (twice_acted c.args.self.now.known _ _ c.now-now.result c.self-2.invariant (subst (λ v. IsTime c.now-now.result (g.L.Link.story v.link)) (sym c.self-2.view_is) c.in_ok-beat.ensures.told) (ap (λ v. v.known) c.self-2.view_is ∙ known))

pub returns-in_err-beat-clause-alone : goal.returns-in_err-beat-clause-alone
returns-in_err-beat-clause-alone g c = both_each LeavesAlone _ _ _ c.send_due.ensures.grows c.send_due-2.ensures.grows c.send_due.ensures.alone c.send_due-2.ensures.alone

pub returns-clause-alone : goal.returns-clause-alone
returns-clause-alone g c = both_each LeavesAlone _ _ _ c.send_due.ensures.grows c.send_due-2.ensures.grows c.send_due.ensures.alone c.send_due-2.ensures.alone
