use Rattle.address_sim.proofs.Calm.{nothing_lost}
use Rattle.address_sim.proofs.laws.a_text_without_losses_loses_nothing.Goals as goal

pub returns : goal.returns
returns c start events follows = nothing_lost start events follows
