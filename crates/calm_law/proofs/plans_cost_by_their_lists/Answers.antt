use Rattle.calm_law.proofs.PlanCosts.{load_costs, check_costs}
use Rattle.calm_law.proofs.plans_cost_by_their_lists.Goals as goal

pub returns-clause-loads : goal.returns-clause-loads
returns-clause-loads c = load_costs

pub returns-clause-checks : goal.returns-clause-checks
returns-clause-checks c = check_costs
