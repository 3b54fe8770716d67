use Rattle.std.proofs.Common.{◌≡◌, refl, ap, subst, ◌∙◌}
use Rattle.hub_work.specs.Came.{waiting_at}
use Rattle.hub_work.specs.Crew.{holdings}
use Rattle.hub_work.proofs.Came.{takes_so, takes_none, none_waits}
use Rattle.hub_work.proofs.Crews.{same_holdings}
use Rattle.hub_work.proofs.crew.Crew.takes_in.Goals as goal

pub returns-in-Some-clause-held : goal.returns-in-Some-clause-held
returns-in-Some-clause-held c = ap holdings c.set.ensures ∙ same_holdings _ _ _ _ c.in-Some.ensures refl

pub returns-in-Some-clause-came : goal.returns-in-Some-clause-came
returns-in-Some-clause-came c = takes_so _ _ _ _ _ _ (c.place_of-place.ensures c.requires) c.in-Some.ensures c.set.ensures c.saturating_sub-came.ensures

pub returns-in_default-clause-came : goal.returns-in_default-clause-came
returns-in_default-clause-came c = takes_none c.args.self.now c.args.worker (subst (λ p. waiting_at c.args.self.now p ≡ 0) (c.place_of-place.ensures c.requires) (none_waits c.args.self.now c.place_of-place.result c.in_default.ensures))
