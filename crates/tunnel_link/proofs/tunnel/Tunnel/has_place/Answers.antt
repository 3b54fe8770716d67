use Rattle.tunnel_link.proofs.HasPlaces.{told_place}
use Rattle.tunnel_link.proofs.tunnel.Tunnel.has_place.Goals as goal

pub returns : goal.returns
returns g c = rw (← c.self.view_is) (record { told = told_place _ _ _ c.has_place.ensures c.self.invariant })
