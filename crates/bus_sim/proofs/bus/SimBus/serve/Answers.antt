use Rattle.std.proofs.Common.{ap, sym, subst, ◌∙◌}
use Rattle.bus_sim.specs.Ended.{FailsForCause}
use Rattle.bus_sim.specs.Loaded.{BusNow}
use Rattle.bus_sim.specs.RunNow.{seen, start}
use Rattle.bus_sim.proofs.Sound.{sound_broken}
use Rattle.bus_sim.proofs.bus.SimBus.serve.Goals as goal

pub returns-in-Ok-clause-start : goal.returns-in-Ok-clause-start
returns-in-Ok-clause-start g c = c.serve-served.ensures.start ∙ ap start (c.in_ok-run.ensures.run ∙ ap (λ (b : BusNow). b.run) c.self.view_is)

pub returns-in-Err-clause-start : goal.returns-in-Err-clause-start
returns-in-Err-clause-start g c = ap start c.port_fault_of.ensures.run ∙ c.serve-served.ensures.start ∙ ap start (c.in_ok-run.ensures.run ∙ ap (λ (b : BusNow). b.run) c.self.view_is)

pub invariant_of-self : goal.invariant_of-self
invariant_of-self g c = subst (FailsForCause c.self.inside.faults) (sym c.in_err-run.ensures.err) c.self.invariant

pub invariant_of-self-in-Err : goal.invariant_of-self-in-Err
invariant_of-self-in-Err g c = sound_broken c.args.turns c.self.inside.faults (seen c.in_ok-run.run') (seen c.serve-served.new.self) (g.P.Port.story c.args.port.now) (g.P.Port.story c.serve-served.new.port) c.in-Err.ensures.broken
    (subst (FailsForCause c.self.inside.faults) (sym c.in_ok-run.ensures.run) c.self.invariant)
