use Rattle.std.proofs.Common.{◌⊎◌, inr, sym, subst}
use Rattle.bus_sim.specs.Ended.{IsAtEnd, IsServing}
use Rattle.bus_sim.specs.Loaded.{BusNow}
use Rattle.bus_sim.proofs.bus.SimBus.fails.Goals as goal

pub invariant_of-self : goal.invariant_of-self
invariant_of-self c = inr (inr (subst (λ (b : BusNow). IsAtEnd b.run ⊎ IsServing b.run) (sym c.self.view_is) c.requires))
