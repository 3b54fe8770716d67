use Rattle.std.proofs.Common.{ℕ, ap, sym, ◌∙◌}
use Rattle.line_model.specs.Deliveries.{oldest}
use Rattle.line_model.specs.Tunnel.{Commissions, made}
use Rattle.network_sim.specs.declared.place.Reach.TheVariants.{To}
use Rattle.network_sim.specs.Arriving.{passes}
use Rattle.tunnel_sim.specs.Tunnels.{tunnel_now}
use Rattle.tunnel_sim.proofs.Going.{may_down, next_comes}
use Rattle.tunnel_sim.proofs.tunnel.Tunnel.next_down.Goals as goal

pub returns-clause-value : goal.returns-clause-value
returns-clause-value c t is =
    c.next.ensures.simulates t.network.down is.down ∙ ap (λ (m : ℕ). oldest (passes (To c.args.self.now.present) m) 0 t.network.down) (sym is.gateway.made)
    ∙ ap (λ (p : ℕ). oldest (passes (To p) (made t)) 0 t.network.down) (sym is.present) ∙ sym (c.the_youngest_are_enough.ensures.one_way_down Commissions t)

pub returns-clause-may : goal.returns-clause-may
returns-clause-may c = may_down (tunnel_now c.args.self.now) c.next.result c.next.ensures.simulates

pub returns-clause-comes : goal.returns-clause-comes
returns-clause-comes c = next_comes (To c.args.self.now.present) c.args.self.now.gateway.made c.args.self.now.down.kept c.next.result c.next.ensures.value
