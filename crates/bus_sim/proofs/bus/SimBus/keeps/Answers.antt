use Rattle.std.proofs.Common.{ap, sym, subst, ◌∙◌}
use Rattle.line_model.specs.Follows.{Follows}
use Rattle.line_model.specs.Fresh.{IsFresh}
use Rattle.line_model.specs.Legal.{IsLegal}
use Rattle.bus_sim.specs.Ended.{FailsForCause}
use Rattle.bus_sim.specs.Loaded.{BusNow, bus_of}
use Rattle.bus_sim.specs.RunNow.{RunNow, mode, script, start}
use Rattle.bus_sim.proofs.bus.SimBus.keeps.Goals as goal

pub returns-in-Some-clause-legal : goal.returns-in-Some-clause-legal
returns-in-Some-clause-legal c = subst (λ (r : RunNow). IsLegal (mode r) (start r) r.events) (sym (ap bus_of c.in-Some.is) ∙ ap (λ (b : BusNow). b.run) c.self.view_is) c.keeps.ensures.legal

pub returns-in-Some-clause-follows : goal.returns-in-Some-clause-follows
returns-in-Some-clause-follows c = subst (λ (r : RunNow). Follows (script r) (mode r) (start r) r.events) (sym (ap bus_of c.in-Some.is) ∙ ap (λ (b : BusNow). b.run) c.self.view_is) c.keeps.ensures.follows

pub returns-in-Some-clause-fresh : goal.returns-in-Some-clause-fresh
returns-in-Some-clause-fresh c = subst (λ (r : RunNow). IsFresh (start r)) (sym (ap bus_of c.in-Some.is) ∙ ap (λ (b : BusNow). b.run) c.self.view_is) c.keeps.ensures.fresh

pub returns-in-Some-clause-faults : goal.returns-in-Some-clause-faults
returns-in-Some-clause-faults c = subst (λ (b : BusNow). FailsForCause b.faults b.run) c.self.view_is c.self.invariant
