use Rattle.script_text.proofs.Strangers.{first, none}
use Rattle.script_text.proofs.laws.least_stranger.Goals as goal

pub returns-clause-first : goal.returns-clause-first
returns-clause-first c = first

pub returns-clause-none : goal.returns-clause-none
returns-clause-none c = none
