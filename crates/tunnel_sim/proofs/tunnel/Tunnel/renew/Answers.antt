use Rattle.std.proofs.Common.{arith}
use Rattle.line_model.specs.Tunnel.{after, Renew}
use Rattle.tunnel_sim.proofs.tunnel.Tunnel.renew.Goals as goal

pub returns : goal.returns
returns c t is = c.put_next.ensures (after t Renew) (record { present = omega (arith, is.present); now = is.now; up = is.up; down = is.down; short = is.short; gateway = is.gateway })
