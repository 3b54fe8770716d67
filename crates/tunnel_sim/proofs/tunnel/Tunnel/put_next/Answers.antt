use Rattle.line_model.specs.Gateway.{next_put}
use Rattle.tunnel_sim.proofs.Tunnels.{put_posts}
use Rattle.tunnel_sim.proofs.tunnel.Tunnel.put_next.Goals as goal

pub returns-in-Some : goal.returns-in-Some
returns-in-Some c t is = put_posts _ _ _ _ t (next_put t.gateway.channel t.gateway.waiting) is (c.put.ensures.next t.gateway is.gateway) (c.in-Some.ensures.answer t.gateway is.gateway) c.post.ensures
