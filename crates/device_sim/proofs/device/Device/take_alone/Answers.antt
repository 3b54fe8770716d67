use Rattle.device_sim.proofs.Capacities.{served_capacities}
use Rattle.device_sim.proofs.device.Device.take_alone.Goals as goal

pub invariant_of-self-in-Apdu-1 : goal.invariant_of-self-in-Apdu-1
invariant_of-self-in-Apdu-1 c = (served_capacities c.self.inside.kept c.serve-answer.new.kept c.as_slice-in-Apdu.result.now c.args.memory c.serve-answer.ensures.next c.self.invariant.0, c.serve-answer.ensures.index)
