use Rattle.std.proofs.Common.{rules, ap}
use Rattle.tunnel_link.proofs.SeekKept.{seek_keeps, seek_goes}
use Rattle.tunnel_link.proofs.CallAnswers.{sought_err, sought_ok}
use Rattle.tunnel_link.proofs.Faulted.{connects_of, passed_on}
use Rattle.tunnel_link.proofs.Prompts.{connects_timeless, sought_ready}
use Rattle.tunnel_link.proofs.AloneCalls.{connects_ends_none}
use Rattle.tunnel_link.proofs.tunnel.Tunnel.seek.Goals as goal

pub invariant_of-self : goal.invariant_of-self
invariant_of-self g c = seek_keeps _ _ _ _ _ c.self.invariant c.in_ok-standing.ensures.stands (c.may_connect.ensures.0 (search rules)) c.connected.ensures.so

pub returns-in_err-connected-clause-grows : goal.returns-in_err-connected-clause-grows
returns-in_err-connected-clause-grows g c = rw (← ap (λ v. v.link) c.self.view_is) (seek_goes _ _ _ _ _ c.self.invariant c.in_ok-standing.ensures.stands (c.may_connect.ensures.0 (search rules)) c.connected.ensures.so).on

pub returns-in_err-connected-clause-adds : goal.returns-in_err-connected-clause-adds
returns-in_err-connected-clause-adds g c = rw (← ap (λ v. v.link) c.self.view_is) (sought_err _ _ _ _ c.self.invariant c.in_ok-standing.ensures.stands (c.may_connect.ensures.0 (search rules)) _ _ c.in_err-connected.field-0.0 (search rules) c.in_err-connected.was c.connected.ensures.so)

pub invariant_of-self-2 : goal.invariant_of-self-2
invariant_of-self-2 g c = seek_keeps _ _ _ _ _ c.self.invariant c.in_ok-standing.ensures.stands (c.may_connect.ensures.0 (search rules)) c.connected.ensures.so

pub returns-clause-grows : goal.returns-clause-grows
returns-clause-grows g c = rw (← ap (λ v. v.link) c.self.view_is) (seek_goes _ _ _ _ _ c.self.invariant c.in_ok-standing.ensures.stands (c.may_connect.ensures.0 (search rules)) c.connected.ensures.so).on

pub returns-clause-adds : goal.returns-clause-adds
returns-clause-adds g c = rw (← ap (λ v. v.link) c.self.view_is) (sought_ok _ _ _ _ c.self.invariant c.in_ok-standing.ensures.stands (c.may_connect.ensures.0 (search rules)) _ _ c.in_ok-connected.was c.connected.ensures.so)

pub returns-in_err-connected-clause-by_tunnel : goal.returns-in_err-connected-clause-by_tunnel
returns-in_err-connected-clause-by_tunnel g c = λ u. (passed_on c.connected.result _ c.in_err-connected.field-0.0 c.in_err-connected.was (search rules) (connects_of _ _ _ _ _ c.connected.ensures.so))

pub returns-in_err-connected-clause-timeless : goal.returns-in_err-connected-clause-timeless
returns-in_err-connected-clause-timeless g c = rw (← ap (λ v. v.link) c.self.view_is) (connects_timeless _ _ _ _ _ c.self.invariant.legal c.connected.ensures.so)

pub returns-clause-timeless : goal.returns-clause-timeless
returns-clause-timeless g c = rw (← ap (λ v. v.link) c.self.view_is) (connects_timeless _ _ _ _ _ c.self.invariant.legal c.connected.ensures.so)

pub returns-clause-ready : goal.returns-clause-ready
returns-clause-ready g c =
    λ acted. (sought_ready _ _ c.in_ok-connected.was _ _ _ _ (seek_keeps _ _ _ _ _ c.self.invariant c.in_ok-standing.ensures.stands (c.may_connect.ensures.0 (search rules)) c.connected.ensures.so) c.connected.ensures.so)

pub returns-in_err-connected-clause-alone : goal.returns-in_err-connected-clause-alone
returns-in_err-connected-clause-alone g c = rw (← ap (λ v. v.link) c.self.view_is) (connects_ends_none _ _ _ _ _ c.self.invariant.legal c.connected.ensures.so)

pub returns-clause-alone : goal.returns-clause-alone
returns-clause-alone g c = rw (← ap (λ v. v.link) c.self.view_is) (connects_ends_none _ _ _ _ _ c.self.invariant.legal c.connected.ensures.so)
