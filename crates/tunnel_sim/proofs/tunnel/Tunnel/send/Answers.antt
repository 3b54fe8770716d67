use Rattle.std.proofs.Common.{length}
use Rattle.line_model.specs.Tunnel.{after, Send}
use Rattle.tunnel_sim.proofs.Tunnels.{pushed}
use Rattle.tunnel_sim.proofs.tunnel.Tunnel.send.Goals as goal

pub returns : goal.returns
returns c t is = c.put_next.ensures (after t (Send c.args.octets.now)) (record { present = is.present; now = is.now; up = pushed t.network.up c.args.octets.now t.present c.args.self.now.present (length t.gateway.makers) c.args.self.now.gateway.made _ is.present is.gateway.made (c.push.ensures.simulates t.network.up is.up); down = is.down; short = is.short; gateway = is.gateway })
