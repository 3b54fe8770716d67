use Rattle.line_law.proofs.every_interleaving.Goals as goal
use Rattle.line_law.proofs.Headline.{every_run}

pub returns : goal.returns
returns c = every_run
