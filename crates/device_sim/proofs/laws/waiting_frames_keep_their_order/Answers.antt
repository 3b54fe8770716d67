use Rattle.device_sim.proofs.Waiting.{takes_joins, connected_drops}
use Rattle.device_sim.proofs.laws.waiting_frames_keep_their_order.Goals as goal

pub returns : goal.returns
returns c = record { joins = takes_joins; dropped = connected_drops }
