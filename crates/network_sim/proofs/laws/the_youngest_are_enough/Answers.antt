use Rattle.line_model.specs.Tunnel.{made}
use Rattle.network_sim.specs.declared.place.Reach.TheVariants.{Every}
use Rattle.network_sim.proofs.Deliveries.{oldest_kept, down_kept}
use Rattle.network_sim.proofs.laws.the_youngest_are_enough.Goals as goal

pub returns-clause-up : goal.returns-clause-up
returns-clause-up c = λ t kept same. oldest_kept Every (made t) t.network.up kept same

pub returns-clause-down : goal.returns-clause-down
returns-clause-down c = down_kept
