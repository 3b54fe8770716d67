use Rattle.std.proofs.Common.{refl}
use Rattle.line_model.specs.Tunnel.{after, Down}
use Rattle.line_model.specs.Network.{once_more}
use Rattle.tunnel_sim.proofs.Tunnels.{short_changed}
use Rattle.tunnel_sim.proofs.tunnel.Tunnel.down.Goals as goal

pub returns-clause-next : goal.returns-clause-next
returns-clause-next c t is = c.put_next.ensures (after t (Down c.args.age)) (record { present = is.present; now = is.now; up = is.up; down = c.deliver.ensures.simulates t.network.down is.down; short = short_changed c.args.age once_more t.network.down (λ s. refl) is.short; gateway = is.gateway })
