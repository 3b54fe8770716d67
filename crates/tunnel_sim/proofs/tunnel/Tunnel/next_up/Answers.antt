use Rattle.std.proofs.Common.{ℕ, ap, sym, ◌∙◌}
use Rattle.line_model.specs.Deliveries.{oldest}
use Rattle.network_sim.specs.declared.place.Reach.TheVariants.{Every}
use Rattle.network_sim.specs.Arriving.{passes}
use Rattle.tunnel_sim.specs.Tunnels.{tunnel_now}
use Rattle.tunnel_sim.proofs.Going.{may_up, next_comes}
use Rattle.tunnel_sim.proofs.tunnel.Tunnel.next_up.Goals as goal

pub returns-clause-value : goal.returns-clause-value
returns-clause-value c t is =
    c.next.ensures.simulates t.network.up is.up ∙ ap (λ (m : ℕ). oldest (passes Every m) 0 t.network.up) (sym is.gateway.made) ∙ sym (c.the_youngest_are_enough.ensures.one_way_up t)

pub returns-clause-may : goal.returns-clause-may
returns-clause-may c = may_up (tunnel_now c.args.self.now) c.next.result c.next.ensures.simulates

pub returns-clause-comes : goal.returns-clause-comes
returns-clause-comes c = next_comes Every c.args.self.now.gateway.made c.args.self.now.up.kept c.next.result c.next.ensures.value
