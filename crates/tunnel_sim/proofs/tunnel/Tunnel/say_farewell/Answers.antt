use Rattle.std.proofs.Common.{refl}
use Rattle.tunnel_sim.proofs.Tunnels.{farewell_posts, no_farewell}
use Rattle.tunnel_sim.proofs.tunnel.Tunnel.say_farewell.Goals as goal

pub returns-in-Some : goal.returns-in-Some
returns-in-Some c t is = farewell_posts _ _ _ _ t t.gateway.channel is (c.shut.ensures.next t.gateway is.gateway) (c.in-Some.ensures.answer t.gateway is.gateway) c.post.ensures

pub returns-in_default : goal.returns-in_default
returns-in_default c t is = no_farewell _ _ t t.gateway.channel refl is (c.shut.ensures.next t.gateway is.gateway) (c.in_default.ensures.answer t.gateway is.gateway)
