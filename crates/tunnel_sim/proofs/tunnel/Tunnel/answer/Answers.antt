use Rattle.std.proofs.Common.{sym, ◌∙◌}
use Rattle.tunnel_sim.proofs.Tunnels.{answered}
use Rattle.tunnel_sim.proofs.tunnel.Tunnel.answer.Goals as goal

pub returns-in-Some : goal.returns-in-Some
returns-in-Some c t frame is e = answered _ _ c.in-Some.octets c.args.to t frame is (sym c.in-Some.is ∙ e) c.post.ensures
