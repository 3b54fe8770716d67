use Rattle.hub_core.proofs.Headlines.{dropped_in}
use Rattle.hub_core.specs.Promises.{DropsIn}
use Rattle.std.proofs.Common.{ℕ, sym, subst}
use Rattle.line_model.specs.LinkStory.{record_in}
use Rattle.hub_core.proofs.hub.Hub.close.Goals as goal

pub returns-clause-dropped : goal.returns-clause-dropped
returns-clause-dropped g c =
    rw (← c.self.view_is) (subst (λ (n : ℕ). DropsIn n (record_in (g.L.Link.story c.self.inside.tunnel.link))) (sym c.dropped-dropped.ensures) (dropped_in c.self.inside.tunnel.known _ c.keeps.ensures.record))
