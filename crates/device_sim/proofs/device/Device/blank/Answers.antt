use Rattle.device_sim.proofs.Capacities.{blank_capacity}
use Rattle.device_sim.proofs.device.Device.blank.Goals as goal

pub at_rest-requires : goal.at_rest-requires
at_rest-requires c = record {
  addr = blank_capacity _ _ _ c.in_ok-blank.ensures c.capacity.ensures;
  assoc = blank_capacity _ _ _ c.in_ok-blank-2.ensures c.capacity-2.ensures;
  objs = blank_capacity _ _ _ c.in_ok-blank-3.ensures c.capacity-3.ensures;
  params = blank_capacity _ _ _ c.in_ok-blank-4.ensures c.capacity-4.ensures;
}
