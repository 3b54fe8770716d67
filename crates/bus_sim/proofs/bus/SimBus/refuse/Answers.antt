use Rattle.std.proofs.Common.{◌≢◌, sym, subst}
use Rattle.line_model.specs.Polled.{none_failed}
use Rattle.bus_sim.specs.Loaded.{BusNow, bus_of}
use Rattle.bus_sim.proofs.Sound.{sound_refused}
use Rattle.bus_sim.proofs.bus.SimBus.refuse.Goals as goal

pub invariant_of-self : goal.invariant_of-self
invariant_of-self c = rw c.fail.ensures (sound_refused c.self.inside.faults (bus_of c.self.inside.run) (subst (λ (b : BusNow). b.faults ≢ none_failed) (sym c.self.view_is) c.requires) c.self.invariant)
