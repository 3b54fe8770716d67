use Rattle.calm_law.proofs.each_check_is_exact.Goals as goal
use Rattle.calm_law.proofs.JoinedLaw.{checks_right}

pub returns : goal.returns
returns c = checks_right
