use Rattle.std.proofs.Common.{sym, ◌∙◌, ap}
use Rattle.tunnel_link.proofs.CallAnswers.{sends_go_on, put_call_keeps, put_call_adds}
use Rattle.tunnel_link.proofs.CallsKept.{unput_adds}
use Rattle.tunnel_link.proofs.Faulted.{sends_of}
use Rattle.tunnel_link.proofs.Prompts.{none_timeless, sends_timeless}
use Rattle.tunnel_link.specs.Alone.{LeavesAlone}
use Rattle.tunnel_link.proofs.Alone.{none_each}
use Rattle.tunnel_link.proofs.AloneCalls.{put_alone}
use Rattle.tunnel_link.proofs.tunnel.Tunnel.put.Goals as goal

pub invariant_of-self : goal.invariant_of-self
invariant_of-self g c = put_call_keeps _ _ _ _ _ c.self.invariant c.in_ok-standing.ensures.stands _ _ _ _ c.now-now.ensures.told c.requires (sym c.puts.ensures.answer ∙ c.in-Some.is) c.puts.ensures.next c.sent.ensures.so

pub returns-in-Some-clause-grows : goal.returns-in-Some-clause-grows
returns-in-Some-clause-grows g c = rw (← ap (λ v. v.link) c.self.view_is) (sends_go_on _ _ _ _ _ _ c.sent.ensures.so).on

pub returns-in-Some-clause-adds : goal.returns-in-Some-clause-adds
returns-in-Some-clause-adds g c = rw (← ap (λ v. v.link) c.self.view_is) (put_call_adds _ _ _ _ _ c.self.invariant c.in_ok-standing.ensures.stands _ _ _ _ c.now-now.ensures.told c.requires (sym c.puts.ensures.answer ∙ c.in-Some.is) c.puts.ensures.next c.sent.ensures.so)

pub returns-in-None-clause-adds : goal.returns-in-None-clause-adds
returns-in-None-clause-adds g c = rw (← ap (λ v. v.link) c.self.view_is) (unput_adds _ _ c.self.invariant c.in_ok-standing.ensures.stands {X = Unit {0}} tt _ (sym c.puts.ensures.answer ∙ c.in-None.is))

pub returns-in-Some-clause-by_tunnel : goal.returns-in-Some-clause-by_tunnel
returns-in-Some-clause-by_tunnel g c = λ u. (sends_of _ _ _ _ _ _ c.sent.ensures.so)

pub returns-in-Some-clause-timeless : goal.returns-in-Some-clause-timeless
returns-in-Some-clause-timeless g c = rw (← ap (λ v. v.link) c.self.view_is) (sends_timeless _ _ _ _ _ _ c.self.invariant.legal c.sent.ensures.so)

pub returns-in-None-clause-timeless : goal.returns-in-None-clause-timeless
returns-in-None-clause-timeless g c = rw (← ap (λ v. v.link) c.self.view_is) (none_timeless _)

pub returns-in-Some-clause-alone : goal.returns-in-Some-clause-alone
returns-in-Some-clause-alone g c = rw (← ap (λ v. v.link) c.self.view_is) (put_alone _ _ _ _ _ c.self.invariant c.in_ok-standing.ensures.stands _ _ _ _ c.now-now.ensures.told c.requires (sym c.puts.ensures.answer ∙ c.in-Some.is) c.sent.ensures.so)

pub returns-in-None-clause-alone : goal.returns-in-None-clause-alone
returns-in-None-clause-alone g c = rw (← ap (λ v. v.link) c.self.view_is) (none_each LeavesAlone _)
