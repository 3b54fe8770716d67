use Rattle.address_sim.proofs.Calm.{calm_by}
use Rattle.address_sim.proofs.laws.a_bus_that_loses_nothing_is_calm.Goals as goal

pub returns : goal.returns
returns c losses start events follows reached = calm_by start losses events follows reached
