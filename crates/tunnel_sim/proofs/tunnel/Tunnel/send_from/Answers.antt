use Rattle.std.proofs.Common.{length, refl}
use Rattle.line_model.specs.Tunnel.{after, From}
use Rattle.tunnel_sim.proofs.Tunnels.{pushed}
use Rattle.tunnel_sim.proofs.tunnel.Tunnel.send_from.Goals as goal

pub returns : goal.returns
returns c t is = c.put_next.ensures (after t (From c.args.endpoint c.args.octets.now)) (record { present = refl; now = is.now; up = pushed t.network.up c.args.octets.now c.args.endpoint c.args.endpoint (length t.gateway.makers) c.args.self.now.gateway.made _ refl is.gateway.made (c.push.ensures.simulates t.network.up is.up); down = is.down; short = is.short; gateway = is.gateway })
