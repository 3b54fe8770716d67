use Rattle.tunnel_channel.proofs.Expired.{expire_follows}
use Rattle.tunnel_channel.proofs.channel.Channel.expire.Goals as goal

pub returns-clause-follows : goal.returns-clause-follows
returns-clause-follows c = expire_follows _ c.args.now
