use Rattle.knx_model.proofs.LeastLine.{least, none}
use Rattle.knx_model.specs.Statements.{project_says}
use Rattle.project_text.proofs.laws.least_line.Goals as goal

pub returns-clause-least : goal.returns-clause-least
returns-clause-least c = λ grammar. least (project_says grammar)

pub returns-clause-none : goal.returns-clause-none
returns-clause-none c = λ grammar. none (project_says grammar)
