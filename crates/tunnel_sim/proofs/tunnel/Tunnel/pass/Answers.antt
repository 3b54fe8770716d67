use Rattle.std.proofs.Common.{arith}
use Rattle.line_model.specs.Tunnel.{after, Pass}
use Rattle.tunnel_sim.proofs.tunnel.Tunnel.pass.Goals as goal

pub returns-clause-next : goal.returns-clause-next
returns-clause-next c t is = c.put_next.ensures (after t (Pass _)) (record { present = is.present; now = omega (arith, is.now); up = is.up; down = is.down; short = is.short; gateway = is.gateway })
