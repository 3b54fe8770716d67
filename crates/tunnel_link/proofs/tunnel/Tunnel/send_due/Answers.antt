use Rattle.std.proofs.Common.{rules, sym, subst, ◌∙◌, ap}
use Rattle.line_model.specs.LinkStory.{IsTime}
use Rattle.tunnel_link.proofs.CallAnswers.{sends_go_on, due_call_keeps, due_none_keeps, due_err, due_ok, due_none}
use Rattle.tunnel_link.proofs.Faulted.{sends_of, passed_on}
use Rattle.tunnel_link.proofs.Prompts.{none_timeless, sends_timeless}
use Rattle.tunnel_link.specs.Alone.{LeavesAlone}
use Rattle.tunnel_link.proofs.Alone.{none_each}
use Rattle.tunnel_link.proofs.AloneCalls.{due_alone}
use Rattle.tunnel_link.proofs.tunnel.Tunnel.send_due.Goals as goal

pub invariant_of-self : goal.invariant_of-self
invariant_of-self g c = due_call_keeps _ _ _ _ _ c.self.invariant (ap (λ v. v.known.fault) c.self.view_is ∙ c.requires.stands) _ _ _ (subst (λ v. IsTime c.args.now (g.L.Link.story v.link)) (sym c.self.view_is) c.requires.time) (sym c.due.ensures.answer ∙ c.in-Some.is) c.due.ensures.next c.sent.ensures.so

pub returns-in_err-sent-in-Some-clause-grows : goal.returns-in_err-sent-in-Some-clause-grows
returns-in_err-sent-in-Some-clause-grows g c = rw (← ap (λ v. v.link) c.self.view_is) (sends_go_on _ _ _ _ _ _ c.sent.ensures.so).on

pub invariant_of-self-in-Some : goal.invariant_of-self-in-Some
invariant_of-self-in-Some g c = due_call_keeps _ _ _ _ _ c.self.invariant (ap (λ v. v.known.fault) c.self.view_is ∙ c.requires.stands) _ _ _ (subst (λ v. IsTime c.args.now (g.L.Link.story v.link)) (sym c.self.view_is) c.requires.time) (sym c.due.ensures.answer ∙ c.in-Some.is) c.due.ensures.next c.sent.ensures.so

pub invariant_of-self-in-None : goal.invariant_of-self-in-None
invariant_of-self-in-None g c = due_none_keeps _ _ c.self.invariant (ap (λ v. v.known.fault) c.self.view_is ∙ c.requires.stands) _ _ (subst (λ v. IsTime c.args.now (g.L.Link.story v.link)) (sym c.self.view_is) c.requires.time) (sym c.due.ensures.answer ∙ c.in-None.is) c.due.ensures.next

pub returns-in_ok-sent-in-Some-clause-grows : goal.returns-in_ok-sent-in-Some-clause-grows
returns-in_ok-sent-in-Some-clause-grows g c = rw (← ap (λ v. v.link) c.self.view_is) (sends_go_on _ _ _ _ _ _ c.sent.ensures.so).on

pub returns-in_err-sent-in-Some-clause-adds : goal.returns-in_err-sent-in-Some-clause-adds
returns-in_err-sent-in-Some-clause-adds g c = rw (← ap (λ v. v.link) c.self.view_is) (due_err _ _ _ _ _ c.self.invariant (ap (λ v. v.known.fault) c.self.view_is ∙ c.requires.stands) _ _ _ (subst (λ v. IsTime c.args.now (g.L.Link.story v.link)) (sym c.self.view_is) c.requires.time) (sym c.due.ensures.answer ∙ c.in-Some.is) c.due.ensures.next c.sent.ensures.so _ c.in_err-sent-in-Some.field-0.0 (search rules))

pub returns-in_ok-sent-in-Some-clause-adds : goal.returns-in_ok-sent-in-Some-clause-adds
returns-in_ok-sent-in-Some-clause-adds g c = rw (← ap (λ v. v.link) c.self.view_is) (due_ok _ _ _ _ _ c.self.invariant (ap (λ v. v.known.fault) c.self.view_is ∙ c.requires.stands) _ _ _ (subst (λ v. IsTime c.args.now (g.L.Link.story v.link)) (sym c.self.view_is) c.requires.time) (sym c.due.ensures.answer ∙ c.in-Some.is) c.due.ensures.next c.sent.ensures.so _ (search rules))

pub returns-in-None-clause-adds : goal.returns-in-None-clause-adds
returns-in-None-clause-adds g c = rw (← ap (λ v. v.link) c.self.view_is) (due_none _ _ c.self.invariant (ap (λ v. v.known.fault) c.self.view_is ∙ c.requires.stands) _ (subst (λ v. IsTime c.args.now (g.L.Link.story v.link)) (sym c.self.view_is) c.requires.time) (sym c.due.ensures.answer ∙ c.in-None.is))

pub returns-in_err-sent-in-Some-clause-by_tunnel : goal.returns-in_err-sent-in-Some-clause-by_tunnel
returns-in_err-sent-in-Some-clause-by_tunnel g c = passed_on c.sent.result _ c.in_err-sent-in-Some.field-0.0 (search rules) (search rules) (sends_of _ _ _ _ _ _ c.sent.ensures.so)

pub returns-in_err-sent-in-Some-clause-timeless : goal.returns-in_err-sent-in-Some-clause-timeless
returns-in_err-sent-in-Some-clause-timeless g c = rw (← ap (λ v. v.link) c.self.view_is) (sends_timeless _ _ _ _ _ _ c.self.invariant.legal c.sent.ensures.so)

pub returns-in_ok-sent-in-Some-clause-timeless : goal.returns-in_ok-sent-in-Some-clause-timeless
returns-in_ok-sent-in-Some-clause-timeless g c = rw (← ap (λ v. v.link) c.self.view_is) (sends_timeless _ _ _ _ _ _ c.self.invariant.legal c.sent.ensures.so)

pub returns-in-None-clause-timeless : goal.returns-in-None-clause-timeless
returns-in-None-clause-timeless g c = rw (← ap (λ v. v.link) c.self.view_is) (none_timeless _)

pub returns-in_err-sent-in-Some-clause-alone : goal.returns-in_err-sent-in-Some-clause-alone
returns-in_err-sent-in-Some-clause-alone g c = rw (← ap (λ v. v.link) c.self.view_is) (due_alone _ _ _ _ _ c.self.invariant (ap (λ v. v.known.fault) c.self.view_is ∙ c.requires.stands) _ _ _ (subst (λ v. IsTime c.args.now (g.L.Link.story v.link)) (sym c.self.view_is) c.requires.time) (sym c.due.ensures.answer ∙ c.in-Some.is) c.sent.ensures.so)

pub returns-in_ok-sent-in-Some-clause-alone : goal.returns-in_ok-sent-in-Some-clause-alone
returns-in_ok-sent-in-Some-clause-alone g c = rw (← ap (λ v. v.link) c.self.view_is) (due_alone _ _ _ _ _ c.self.invariant (ap (λ v. v.known.fault) c.self.view_is ∙ c.requires.stands) _ _ _ (subst (λ v. IsTime c.args.now (g.L.Link.story v.link)) (sym c.self.view_is) c.requires.time) (sym c.due.ensures.answer ∙ c.in-Some.is) c.sent.ensures.so)

pub returns-in-None-clause-alone : goal.returns-in-None-clause-alone
returns-in-None-clause-alone g c = rw (← ap (λ v. v.link) c.self.view_is) (none_each LeavesAlone _)
