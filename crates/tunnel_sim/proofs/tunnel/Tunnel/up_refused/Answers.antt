use Rattle.line_model.specs.Tunnel.{after, UpRefused}
use Rattle.tunnel_sim.proofs.tunnel.Tunnel.up_refused.Goals as goal

pub returns : goal.returns
returns c t is = c.put_next.ensures (after t (UpRefused c.args.age c.args.status)) (c.refuse.ensures t is)
