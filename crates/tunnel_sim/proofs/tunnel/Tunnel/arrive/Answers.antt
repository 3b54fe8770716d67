use Rattle.std.proofs.Common.{slice_get}
use Rattle.line_model.specs.Gateway.{GatewayTook, gateway_took}
use Rattle.line_model.specs.Network.{changed_at, once_more}
use Rattle.line_model.specs.Tunnel.{with_up, with_gateway}
use Rattle.tunnel_sim.proofs.Tunnels.{arrives, arrives_not}
use Rattle.tunnel_sim.proofs.tunnel.Tunnel.arrive.Goals as goal

pub returns-in_default-clause-next : goal.returns-in_default-clause-next
returns-in_default-clause-next c t is can = arrives_not _ (with_up t (changed_at c.args.age once_more t.network.up)) (slice_get t.network.up c.args.age) (c.in_default.ensures t is) (record { present = is.present; now = is.now; up = c.deliver.ensures.simulates t.network.up is.up; down = is.down; short = is.short; gateway = is.gateway })

pub returns-clause-next : goal.returns-clause-next
returns-clause-next c t is can =
    let took : GatewayTook = gateway_took t.gateway c.in-Some.from c.args.self.now.time c.in-Some.frame in
    arrives _ (with_up t (changed_at c.args.age once_more t.network.up)) c.args.self.now.time (slice_get t.network.up c.args.age) c.in-Some.from c.in-Some.frame (c.in-Some.ensures t is) is.now
    (c.answer.ensures (with_gateway (with_up t (changed_at c.args.age once_more t.network.up)) took.after) took.send (record { present = is.present; now = is.now; up = c.deliver-2.ensures.simulates t.network.up is.up; down = is.down; short = is.short; gateway = c.in_ok-send.ensures.next t.gateway is.gateway can }) (c.in_ok-send.ensures.answer t.gateway is.gateway))
