use Rattle.std.proofs.Common.{refl, ap, ◌∙◌}
use Rattle.hub_work.specs.Crew.{holdings}
use Rattle.hub_work.proofs.Came.{same_waits}
use Rattle.hub_work.proofs.Crews.{begun_holdings, none_begun}
use Rattle.hub_work.proofs.crew.Crew.begins.Goals as goal

pub returns-in-Some-clause-held : goal.returns-in-Some-clause-held
returns-in-Some-clause-held c = ap holdings c.set.ensures ∙ begun_holdings _ _ _ _ _ (c.place_of-place.ensures c.requires) c.in-Some.ensures refl

pub returns-in_default-clause-held : goal.returns-in_default-clause-held
returns-in_default-clause-held c = none_begun _ _ _ (c.place_of-place.ensures c.requires) c.in_default.ensures

pub returns-in-Some-clause-came : goal.returns-in-Some-clause-came
returns-in-Some-clause-came c = same_waits _ _ _ _ _ c.in-Some.ensures c.set.ensures refl
