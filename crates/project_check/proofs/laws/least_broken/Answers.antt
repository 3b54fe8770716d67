use Rattle.project_check.proofs.Breaking.{least, none}
use Rattle.project_check.proofs.laws.least_broken.Goals as goal

pub returns-clause-least : goal.returns-clause-least
returns-clause-least c = least

pub returns-clause-none : goal.returns-clause-none
returns-clause-none c = none
