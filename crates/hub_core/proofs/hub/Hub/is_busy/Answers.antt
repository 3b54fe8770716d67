use Rattle.std.proofs.Common.{◌≡◌, None}
use Rattle.hub_core.proofs.Keeps.{none_inside}
use Rattle.hub_core.proofs.Polls.{busy_told}
use Rattle.hub_core.proofs.hub.Hub.is_busy.Goals as goal

pub returns : goal.returns
returns g c stands =
    let none : c.self.inside.tunnel.known.fault ≡ None = none_inside _ _ c.self.view_is stands in
    rw (← c.self.view_is) (busy_told _ _ c.self.inside.work _ _ none c.self.invariant c.now-now.result c.now-now.ensures.newest c.has_place-has_place.result (c.has_place-has_place.ensures.told none) c.is_busy.result c.is_busy.ensures.rightly)
