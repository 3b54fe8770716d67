use Rattle.tunnel_law.proofs.requests_act_once_on_the_line.Goals as goal
use Rattle.tunnel_law.proofs.Line.{line_once}

pub returns : goal.returns
returns c = line_once
