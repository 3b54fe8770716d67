use Rattle.tunnel_channel.proofs.Quiet.{quiet_follows}
use Rattle.tunnel_channel.proofs.laws.quiet_polls_change_nothing.Goals as goal

pub returns : goal.returns
returns c = quiet_follows
