use Rattle.knx_model.proofs.LeastLine.{least, none}
use Rattle.knx_model.specs.ScriptText.{script_says}
use Rattle.script_text.proofs.laws.least_line.Goals as goal

pub returns-clause-least : goal.returns-clause-least
returns-clause-least c = least script_says

pub returns-clause-none : goal.returns-clause-none
returns-clause-none c = none script_says
