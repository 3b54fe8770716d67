use Rattle.line_model.proofs.runs.a_line_begins.Goals as goal
use Rattle.line_model.proofs.Begins.{is_fresh, is_settled}

pub returns-clause-fresh : goal.returns-clause-fresh
returns-clause-fresh c = is_fresh

pub returns-clause-settled : goal.returns-clause-settled
returns-clause-settled c = is_settled
