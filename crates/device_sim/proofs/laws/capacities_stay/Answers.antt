use Rattle.device_sim.proofs.laws.capacities_stay.Goals as goal
use Rattle.knx_model.proofs.Capacities.{kept_capacities}

pub returns : goal.returns
returns c = kept_capacities
