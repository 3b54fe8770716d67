use Rattle.std.proofs.Common.{refl, ap, ◌∙◌}
use Rattle.hub_work.specs.Crew.{holdings}
use Rattle.hub_work.proofs.Came.{rises_so, for_nobody}
use Rattle.hub_work.proofs.Crews.{same_holdings}
use Rattle.hub_work.proofs.crew.Crew.came_at.Goals as goal

pub returns-in-Some-clause-held : goal.returns-in-Some-clause-held
returns-in-Some-clause-held c = ap holdings c.set.ensures ∙ same_holdings _ _ _ _ c.in-Some.ensures refl

pub returns-in-Some-clause-came : goal.returns-in-Some-clause-came
returns-in-Some-clause-came c = rises_so _ _ _ _ _ c.in-Some.ensures c.set.ensures c.saturating_add-came.ensures

pub returns-in_default-clause-came : goal.returns-in_default-clause-came
returns-in_default-clause-came c = for_nobody _ _ c.in_default.ensures
