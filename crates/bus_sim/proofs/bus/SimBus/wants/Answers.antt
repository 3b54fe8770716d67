use Rattle.bus_sim.specs.Loaded.{bus_of}
use Rattle.bus_sim.proofs.Sound.{sound_wanting}
use Rattle.bus_sim.proofs.bus.SimBus.wants.Goals as goal

pub invariant_of-self : goal.invariant_of-self
invariant_of-self c = rw c.want.ensures (sound_wanting c.self.inside.faults (bus_of c.self.inside.run))
