use Rattle.tunnel_link.proofs.CallsKept.{time_is}
use Rattle.tunnel_link.proofs.tunnel.Tunnel.now.Goals as goal

pub returns-clause-newest : goal.returns-clause-newest
returns-clause-newest g c = rw (← c.self.view_is) (λ old p. (time_is _ _ old c.self.invariant.legal c.now.ensures.told p))
