use Rattle.tunnel_channel.proofs.Deadline.{nearest}
use Rattle.tunnel_channel.proofs.laws.deadline_is_nearest.Goals as goal

pub returns : goal.returns
returns c = record { reached = nearest }
