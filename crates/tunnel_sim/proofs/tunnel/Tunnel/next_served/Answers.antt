use Rattle.std.proofs.Common.{ℕ, ap, sym, ◌∙◌}
use Rattle.line_model.specs.Deliveries.{oldest}
use Rattle.line_model.specs.Tunnel.{Serves}
use Rattle.network_sim.specs.declared.place.Reach.TheVariants.{Every}
use Rattle.network_sim.specs.Arriving.{passes}
use Rattle.tunnel_sim.proofs.Going.{next_comes}
use Rattle.tunnel_sim.proofs.tunnel.Tunnel.next_served.Goals as goal

pub returns-clause-value : goal.returns-clause-value
returns-clause-value c t is =
    c.next.ensures.simulates t.network.down is.down ∙ ap (λ (m : ℕ). oldest (passes Every m) 0 t.network.down) (sym is.gateway.made) ∙ sym (c.the_youngest_are_enough.ensures.one_way_down Serves t)

pub returns-clause-comes : goal.returns-clause-comes
returns-clause-comes c = next_comes Every c.args.self.now.gateway.made c.args.self.now.down.kept c.next.result c.next.ensures.value
