use Rattle.line_model.proofs.runs.a_channel_dies.Goals as goal
use Rattle.line_model.proofs.Disturbed.{lives, dies}

pub returns-clause-open : goal.returns-clause-open
returns-clause-open c = lives

pub returns-clause-lost : goal.returns-clause-lost
returns-clause-lost c = dies
