use Rattle.tunnel_channel.proofs.Calls.{put_follows}
use Rattle.tunnel_channel.proofs.channel.Channel.put.Goals as goal

pub returns-clause-follows : goal.returns-clause-follows
returns-clause-follows c = put_follows _ c.args.cemi.now c.args.now c.requires
