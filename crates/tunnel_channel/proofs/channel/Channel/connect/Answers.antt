use Rattle.tunnel_channel.proofs.Calls.{connect_follows}
use Rattle.tunnel_channel.proofs.channel.Channel.connect.Goals as goal

pub returns-clause-follows : goal.returns-clause-follows
returns-clause-follows c = connect_follows _ c.args.now c.requires
