use Rattle.std.proofs.Common.{[], ◌∷◌}
use Rattle.line_model.specs.Tunnel.{after, Heard}
use Rattle.tunnel_sim.proofs.tunnel.Tunnel.heard.Goals as goal

pub returns : goal.returns
returns c t is = c.put_next.ensures (after t (Heard (c.args.frame ∷ []))) (record { present = is.present; now = is.now; up = is.up; down = is.down; short = is.short; gateway = c.heard.ensures t.gateway is.gateway })
