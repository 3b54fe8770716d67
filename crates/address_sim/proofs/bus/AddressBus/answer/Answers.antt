use Rattle.std.proofs.Common.{sym, subst}
use Rattle.address_sim.specs.Driven.{BusNow, FailsOut, bus_of}
use Rattle.address_sim.proofs.Sound.{sound_answered}
use Rattle.address_sim.proofs.bus.AddressBus.answer.Goals as goal

pub invariant_of-self : goal.invariant_of-self
invariant_of-self g c = rw c.count.ensures.after (sound_answered c.args.came c.self.inside.faults (bus_of c.self.inside.run) (subst (λ (b : BusNow). FailsOut c.args.came b.run) (sym c.self.view_is) c.requires) c.self.invariant)
