use Rattle.tunnel_channel.proofs.Calls.{leave_follows}
use Rattle.tunnel_channel.proofs.channel.Channel.leave.Goals as goal

pub returns-clause-follows : goal.returns-clause-follows
returns-clause-follows c = leave_follows _
