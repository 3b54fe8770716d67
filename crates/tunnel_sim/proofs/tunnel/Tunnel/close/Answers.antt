use Rattle.line_model.specs.Tunnel.{closes}
use Rattle.tunnel_sim.proofs.tunnel.Tunnel.close.Goals as goal

pub returns : goal.returns
returns c t is = c.put_next.ensures (closes t t.gateway.channel) (c.say_farewell.ensures t is)
