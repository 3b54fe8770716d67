use Rattle.line_model.specs.Tunnel.{after, Carried}
use Rattle.tunnel_sim.proofs.tunnel.Tunnel.carried.Goals as goal

pub returns : goal.returns
returns c t is = c.put_next.ensures (after t (Carried c.args.confirmation)) (record { present = is.present; now = is.now; up = is.up; down = is.down; short = is.short; gateway = c.carried.ensures t.gateway is.gateway })
