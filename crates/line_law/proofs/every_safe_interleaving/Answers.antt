use Rattle.line_law.proofs.every_safe_interleaving.Goals as goal
use Rattle.line_law.proofs.Headline.{safe_run}

pub returns : goal.returns
returns c = safe_run
