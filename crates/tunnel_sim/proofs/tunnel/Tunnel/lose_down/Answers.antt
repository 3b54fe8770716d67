use Rattle.std.proofs.Common.{refl}
use Rattle.line_model.specs.Tunnel.{after, LoseDown}
use Rattle.line_model.specs.Network.{gone}
use Rattle.tunnel_sim.proofs.Tunnels.{short_changed}
use Rattle.tunnel_sim.proofs.tunnel.Tunnel.lose_down.Goals as goal

pub returns : goal.returns
returns c t is = c.put_next.ensures (after t (LoseDown c.args.age)) (record { present = is.present; now = is.now; up = is.up; down = c.lose.ensures.simulates t.network.down is.down; short = short_changed c.args.age gone t.network.down (λ s. refl) is.short; gateway = is.gateway })
