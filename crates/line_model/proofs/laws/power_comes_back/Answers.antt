use Rattle.line_model.proofs.laws.power_comes_back.Goals as goal
use Rattle.line_model.proofs.Concerned.{power_is_back, power_finds, power_stays}

pub returns-clause-power : goal.returns-clause-power
returns-clause-power c = power_is_back

pub returns-clause-emptied : goal.returns-clause-emptied
returns-clause-emptied c = power_finds

pub returns-clause-same : goal.returns-clause-same
returns-clause-same c = power_stays
