use Rattle.std.proofs.Common.{refl, sym, subst}
use Rattle.line_model.specs.World.{Renew}
use Rattle.bus_sim.specs.Ended.{FailsForCause}
use Rattle.bus_sim.specs.RunNow.{seen}
use Rattle.bus_sim.proofs.Sound.{sound_after}
use Rattle.bus_sim.proofs.bus.SimBus.renew_run.Goals as goal

pub invariant_of-self : goal.invariant_of-self
invariant_of-self c = subst (FailsForCause c.self.inside.faults) (sym c.in_err-run.ensures.err) c.self.invariant

pub invariant_of-self-2 : goal.invariant_of-self-2
invariant_of-self-2 c = sound_after c.renew-renewed.result c.self.inside.faults (seen c.in_ok-run.run') (seen c.renew-renewed.new.self) Renew refl c.renew-renewed.ensures.went c.renew-renewed.ensures.err
    (subst (FailsForCause c.self.inside.faults) (sym c.in_ok-run.ensures.run) c.self.invariant)
