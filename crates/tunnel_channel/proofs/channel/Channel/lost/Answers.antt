use Rattle.tunnel_channel.proofs.Calls.{lost_follows}
use Rattle.tunnel_channel.proofs.channel.Channel.lost.Goals as goal

pub returns-clause-follows : goal.returns-clause-follows
returns-clause-follows c = lost_follows _
