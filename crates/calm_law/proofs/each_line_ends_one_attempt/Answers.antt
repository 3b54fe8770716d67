use Rattle.calm_law.proofs.Disturbances.{each_line_once}
use Rattle.calm_law.proofs.each_line_ends_one_attempt.Goals as goal

pub returns : goal.returns
returns c = each_line_once
