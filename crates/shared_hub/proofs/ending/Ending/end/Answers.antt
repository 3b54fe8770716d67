use Rattle.std.proofs.Common.{List, sym, subst}
use Rattle.line_model.specs.declared.log.LogEntry.{LogEntry}
use Rattle.hub_core.specs.Seats.{IsOfWorkers}
use Rattle.shared_hub.proofs.Leaving.{through_leaves}
use Rattle.shared_hub.proofs.Told.{told_for}
use Rattle.shared_hub.proofs.ending.Ending.end.Goals as goal

pub close-requires-clause-leaves : goal.close-requires-clause-leaves
close-requires-clause-leaves g c = through_leaves _ _ c.requires.through

pub returns-in-Ok-clause-tells : goal.returns-in-Ok-clause-tells
returns-in-Ok-clause-tells g c = λ workers seats.
    told_for workers _ _ _ _ _ _ _ _ _ c.closes.ensures.since.run.tasks c.closes.ensures.since.run.devices c.closes.ensures.since.run.turns
    (c.close-in-Ok.ensures.tells workers (subst (λ (l : List LogEntry). IsOfWorkers workers l) (sym c.closes.ensures.log) seats))

pub returns-in-Ok-clause-counts : goal.returns-in-Ok-clause-counts
returns-in-Ok-clause-counts g c = λ before was. c.close-in-Ok.ensures.counts before (c.closes.ensures.since.counts before was)

pub returns-in-Err-clause-tells : goal.returns-in-Err-clause-tells
returns-in-Err-clause-tells g c = λ workers seats.
    told_for workers _ _ _ _ _ _ _ _ _ c.closes.ensures.since.run.tasks c.closes.ensures.since.run.devices c.closes.ensures.since.run.turns
    (c.close-in-Err.ensures.tells workers (subst (λ (l : List LogEntry). IsOfWorkers workers l) (sym c.closes.ensures.log) seats))

pub returns-in-Err-clause-counts : goal.returns-in-Err-clause-counts
returns-in-Err-clause-counts g c = λ before was. c.close-in-Err.ensures.counts before (c.closes.ensures.since.counts before was)
