use Rattle.std.proofs.Common.{rules, sym, ◌∙◌, ap}
use Rattle.tunnel_link.proofs.CallAnswers.{sends_go_on, leave_call_keeps, leave_call_err, leave_call_ok, unleft_adds}
use Rattle.tunnel_link.proofs.Faulted.{sends_of, passed_on}
use Rattle.tunnel_link.proofs.Prompts.{none_timeless, sends_timeless}
use Rattle.tunnel_link.proofs.AloneCalls.{leave_once, leave_none}
use Rattle.tunnel_link.proofs.tunnel.Tunnel.leave.Goals as goal

pub invariant_of-self : goal.invariant_of-self
invariant_of-self g c = leave_call_keeps _ _ _ _ _ c.self.invariant c.in_ok-standing.ensures.stands _ _ (sym c.leaves.ensures.answer ∙ c.in-Some.is) c.leaves.ensures.next c.sent.ensures.so

pub returns-in_err-sent-in-Some-clause-grows : goal.returns-in_err-sent-in-Some-clause-grows
returns-in_err-sent-in-Some-clause-grows g c = rw (← ap (λ v. v.link) c.self.view_is) (sends_go_on _ _ _ _ _ _ c.sent.ensures.so).on

pub returns-in_err-sent-in-Some-clause-adds : goal.returns-in_err-sent-in-Some-clause-adds
returns-in_err-sent-in-Some-clause-adds g c = rw (← ap (λ v. v.link) c.self.view_is) (leave_call_err _ _ _ _ _ c.self.invariant c.in_ok-standing.ensures.stands _ _ (sym c.leaves.ensures.answer ∙ c.in-Some.is) c.leaves.ensures.next c.sent.ensures.so _ c.in_err-sent-in-Some.field-0.0 (search rules))

pub invariant_of-self-in-Some : goal.invariant_of-self-in-Some
invariant_of-self-in-Some g c = leave_call_keeps _ _ _ _ _ c.self.invariant c.in_ok-standing.ensures.stands _ _ (sym c.leaves.ensures.answer ∙ c.in-Some.is) c.leaves.ensures.next c.sent.ensures.so

pub returns-in_ok-sent-in-Some-clause-grows : goal.returns-in_ok-sent-in-Some-clause-grows
returns-in_ok-sent-in-Some-clause-grows g c = rw (← ap (λ v. v.link) c.self.view_is) (sends_go_on _ _ _ _ _ _ c.sent.ensures.so).on

pub returns-in_ok-sent-in-Some-clause-adds : goal.returns-in_ok-sent-in-Some-clause-adds
returns-in_ok-sent-in-Some-clause-adds g c = rw (← ap (λ v. v.link) c.self.view_is) (leave_call_ok _ _ _ _ _ c.self.invariant c.in_ok-standing.ensures.stands _ _ (sym c.leaves.ensures.answer ∙ c.in-Some.is) c.leaves.ensures.next c.sent.ensures.so _ (search rules))

pub returns-in-None-clause-adds : goal.returns-in-None-clause-adds
returns-in-None-clause-adds g c = rw (← ap (λ v. v.link) c.self.view_is) (unleft_adds _ _ c.self.invariant c.in_ok-standing.ensures.stands (sym c.leaves.ensures.answer ∙ c.in-None.is))

pub returns-in_err-sent-in-Some-clause-by_tunnel : goal.returns-in_err-sent-in-Some-clause-by_tunnel
returns-in_err-sent-in-Some-clause-by_tunnel g c = λ u. (passed_on c.sent.result _ c.in_err-sent-in-Some.field-0.0 (search rules) (search rules) (sends_of _ _ _ _ _ _ c.sent.ensures.so))

pub returns-in_err-sent-in-Some-clause-timeless : goal.returns-in_err-sent-in-Some-clause-timeless
returns-in_err-sent-in-Some-clause-timeless g c = rw (← ap (λ v. v.link) c.self.view_is) (sends_timeless _ _ _ _ _ _ c.self.invariant.legal c.sent.ensures.so)

pub returns-in_ok-sent-in-Some-clause-timeless : goal.returns-in_ok-sent-in-Some-clause-timeless
returns-in_ok-sent-in-Some-clause-timeless g c = rw (← ap (λ v. v.link) c.self.view_is) (sends_timeless _ _ _ _ _ _ c.self.invariant.legal c.sent.ensures.so)

pub returns-in-None-clause-timeless : goal.returns-in-None-clause-timeless
returns-in-None-clause-timeless g c = rw (← ap (λ v. v.link) c.self.view_is) (none_timeless _)

pub returns-in_err-sent-in-Some-clause-alone : goal.returns-in_err-sent-in-Some-clause-alone
returns-in_err-sent-in-Some-clause-alone g c = rw (← ap (λ v. v.link) c.self.view_is) (leave_once _ _ _ _ _ c.self.invariant c.in_ok-standing.ensures.stands _ _ (sym c.leaves.ensures.answer ∙ c.in-Some.is) c.sent.ensures.so)

pub returns-in_ok-sent-in-Some-clause-alone : goal.returns-in_ok-sent-in-Some-clause-alone
returns-in_ok-sent-in-Some-clause-alone g c = rw (← ap (λ v. v.link) c.self.view_is) (leave_once _ _ _ _ _ c.self.invariant c.in_ok-standing.ensures.stands _ _ (sym c.leaves.ensures.answer ∙ c.in-Some.is) c.sent.ensures.so)

pub returns-in-None-clause-alone : goal.returns-in-None-clause-alone
returns-in-None-clause-alone g c = rw (← ap (λ v. v.link) c.self.view_is) (leave_none _)

pub returns-in_err-standing-clause-alone : goal.returns-in_err-standing-clause-alone
returns-in_err-standing-clause-alone g c = rw (← ap (λ v. v.link) c.self.view_is) (leave_none _)
