use Rattle.load_law.proofs.each_moment_is_right.Goals as goal
use Rattle.load_law.proofs.Jobs.{plans_right, plan_right}

pub returns-clause-jobs : goal.returns-clause-jobs
returns-clause-jobs c = plans_right

pub returns-clause-good_plan : goal.returns-clause-good_plan
returns-clause-good_plan c = plan_right
