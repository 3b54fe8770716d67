use Rattle.std.proofs.Common.{◌≡◌, refl, inr, sym, subst}
use Rattle.bus_sim.specs.Ended.{IsAtEnd}
use Rattle.bus_sim.specs.Serving.{after_broken}
use Rattle.bus_sim.proofs.Faults.{port_failed}
use Rattle.bus_sim.proofs.bus.SimBus.port_fault_of.Goals as goal

pub returns-in-NoMemory-clause-counts : goal.returns-in-NoMemory-clause-counts
returns-in-NoMemory-clause-counts c = λ before after is. (subst (λ b. after ≡ after_broken b before) c.in-NoMemory.is is, refl)

pub returns-in-Port-clause-counts : goal.returns-in-Port-clause-counts
returns-in-Port-clause-counts c = λ before after is. port_failed c.in-Port.fault before after _ _ _ (subst (λ b. after ≡ after_broken b before) c.in-Port.is is) refl

pub returns-in-AtEnd-clause-counts : goal.returns-in-AtEnd-clause-counts
returns-in-AtEnd-clause-counts c = λ before after is. inr (subst (λ b. after ≡ after_broken b before) c.in-AtEnd.is is, c.fails.ensures.counts, subst IsAtEnd (sym c.fails.ensures.run) (c.requires c.in-AtEnd.is))
