use Rattle.line_model.proofs.laws.a_device_acts_as_it_began_or_by_its_new_project.Goals as goal
use Rattle.line_model.proofs.Scripts.{acts_by_new}

pub returns-clause-told : goal.returns-clause-told
returns-clause-told c = acts_by_new

pub returns-clause-untold : goal.returns-clause-untold
returns-clause-untold c = λ before after group service image old new acts. acts
