use Rattle.line_model.specs.Tunnel.{after, LoseUp}
use Rattle.tunnel_sim.proofs.tunnel.Tunnel.lose_up.Goals as goal

pub returns : goal.returns
returns c t is = c.put_next.ensures (after t (LoseUp c.args.age)) (record { present = is.present; now = is.now; up = c.lose.ensures.simulates t.network.up is.up; down = is.down; short = is.short; gateway = is.gateway })
