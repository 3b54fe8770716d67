use Rattle.tunnel_law.proofs.requests_act_once.Goals as goal
use Rattle.tunnel_law.proofs.Joined.{once_both}

pub returns : goal.returns
returns c = once_both
