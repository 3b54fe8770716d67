use Rattle.std.proofs.Common.{ap, sym, subst, ◌∙◌}
use Rattle.hub_work.specs.Closes.{Begins}
use Rattle.hub_work.specs.declared.work.Work.{Work}
use Rattle.hub_core.specs.Keeps.{IsAllDone}
use Rattle.hub_core.proofs.Closings.{kept_as, closing_run, begun_stays}
use Rattle.hub_core.proofs.Endings.{some_begun}
use Rattle.hub_core.proofs.Hastening.{asked_begun}
use Rattle.hub_core.proofs.hub.Hub.closing.Goals as goal

pub invariant_of-self : goal.invariant_of-self
invariant_of-self g c =
    kept_as _ _ c.self.inside.work c.closing_at.new.self _ _ c.closing_at.ensures.rest (subst (λ v. IsAllDone v.devices v.turns v.log) (sym c.self.view_is) c.requires.over) (asked_begun c.now-now.result c.self.inside.work.closing c.closing_at.new.self.closing c.closing_at.ensures.begins) c.self.invariant

pub returns-clause-begins : goal.returns-clause-begins
returns-clause-begins g c =
    rw (← c.self.view_is) (λ places told. subst (λ t. Begins t c.self.inside.work.closing c.closing_at.new.self.closing) (c.now-now.ensures.newest places told) c.closing_at.ensures.begins)

pub returns-clause-stays : goal.returns-clause-stays
returns-clause-stays g c = rw (← c.self.view_is) (begun_stays c.now-now.result c.self.inside.work.closing c.closing_at.new.self.closing c.closing_at.ensures.begins)

pub returns-clause-begun : goal.returns-clause-begun
returns-clause-begun g c = λ none. some_begun c.closing_at.result (sym c.closing_at.ensures.is ∙ none)

pub returns-clause-crew : goal.returns-clause-crew
returns-clause-crew g c = rw (← c.self.view_is) (ap (λ (w : Work). w.crew) c.closing_at.ensures.rest)

pub returns-clause-log : goal.returns-clause-log
returns-clause-log g c = rw (← c.self.view_is) (ap (λ (w : Work). w.journal.entries) c.closing_at.ensures.rest)

pub returns-clause-run : goal.returns-clause-run
returns-clause-run g c = rw (← c.self.view_is) (closing_run _ _ _ _ c.self.inside.work c.closing_at.new.self _ _ _ c.closing_at.ensures.rest)
