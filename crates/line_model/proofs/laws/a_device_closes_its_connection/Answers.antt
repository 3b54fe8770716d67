use Rattle.line_model.proofs.laws.a_device_closes_its_connection.Goals as goal
use Rattle.line_model.proofs.Concerned.{closing_closes, closing_keeps}

pub returns-clause-closed : goal.returns-clause-closed
returns-clause-closed c = closing_closes

pub returns-clause-values : goal.returns-clause-values
returns-clause-values c = closing_keeps
