use Rattle.line_model.proofs.laws.confirmations_are_true.Goals as goal
use Rattle.line_model.proofs.Buses.{to_group, lost, by_taking}

pub returns-clause-group : goal.returns-clause-group
returns-clause-group c = to_group

pub returns-clause-lost : goal.returns-clause-lost
returns-clause-lost c = lost

pub returns-clause-came : goal.returns-clause-came
returns-clause-came c = by_taking
