use Rattle.tunnel_sim.specs.Tunnels.{tunnel_now}
use Rattle.tunnel_sim.proofs.Deadlines.{still_until, still_always}
use Rattle.tunnel_sim.proofs.tunnel.Tunnel.still_for.Goals as goal

pub returns-in-Some-clause-still : goal.returns-in-Some-clause-still
returns-in-Some-clause-still c = still_until c.deadline_is_nearest.ensures (tunnel_now c.args.self.now) c.in-Some.end c.sooner.result c.in-Some.ensures c.sooner.ensures.until

pub returns-in-None-clause-still : goal.returns-in-None-clause-still
returns-in-None-clause-still c t is nothing k less = still_always c.deadline_is_nearest.ensures (tunnel_now c.args.self.now) c.in-None.ensures t is _
