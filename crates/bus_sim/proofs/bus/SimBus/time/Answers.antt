use Rattle.std.proofs.Common.{ap, sym, ◌∙◌}
use Rattle.bus_sim.specs.Loaded.{BusNow, bus_of}
use Rattle.bus_sim.specs.RunNow.{time}
use Rattle.bus_sim.proofs.bus.SimBus.time.Goals as goal

pub returns-in-Some : goal.returns-in-Some
returns-in-Some c = c.now.ensures.value ∙ ap time (sym (ap bus_of c.in-Some.is) ∙ ap (λ (b : BusNow). b.run) c.self.view_is)
