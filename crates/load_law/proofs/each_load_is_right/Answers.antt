use Rattle.load_law.proofs.each_load_is_right.Goals as goal
use Rattle.load_law.proofs.Jobs.{load_right, jobs_right}

pub returns-clause-loads : goal.returns-clause-loads
returns-clause-loads c = load_right

pub returns-clause-loads_and_checks : goal.returns-clause-loads_and_checks
returns-clause-loads_and_checks c = jobs_right
