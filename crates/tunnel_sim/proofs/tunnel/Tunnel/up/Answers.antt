use Rattle.line_model.specs.Tunnel.{after, Up}
use Rattle.tunnel_sim.proofs.tunnel.Tunnel.up.Goals as goal

pub returns-clause-next : goal.returns-clause-next
returns-clause-next c t is can = c.put_next.ensures (after t (Up c.args.age)) (c.in_ok-arrive.ensures.next t is can)
