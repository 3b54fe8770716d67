use Rattle.bus_sim.specs.Begun.{device_begun, said}
use Rattle.bus_sim.specs.Serving.{served_beginning}
use Rattle.bus_sim.proofs.Starts.{held_start}
use Rattle.bus_sim.proofs.run.Run.begin_to_serve.Goals as goal

pub invariant_of-self : goal.invariant_of-self
invariant_of-self c =
    held_start (served_beginning c.self.inside.begun) c.new-in-One-2.result.list c.self.inside.index c.in_ok-line.line c.in_ok-counts.counts c.new-in-One-3.result.list
    (record { can = c.self.invariant.loaded.can; lines = c.self.invariant.loaded.lines; known = c.self.invariant.loaded.known }) c.new-in-One-2.ensures c.self.invariant.indexed
    (c.in_ok-line.ensures (device_begun (said c.self.inside.begun) c.self.inside.begun.devices) (c.in_ok-devices.ensures.devices (said c.self.inside.begun) c.self.invariant.indexed)) c.in_ok-counts.ensures c.new-in-One-3.ensures
