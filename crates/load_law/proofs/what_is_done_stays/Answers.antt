use Rattle.load_law.proofs.what_is_done_stays.Goals as goal
use Rattle.load_law.proofs.Jobs.{plans_stay, plan_stays}

pub returns-clause-jobs : goal.returns-clause-jobs
returns-clause-jobs c = plans_stay

pub returns-clause-good_plan : goal.returns-clause-good_plan
returns-clause-good_plan c = plan_stays
