use Rattle.tunnel_channel.proofs.Answered.{take_follows}
use Rattle.tunnel_channel.proofs.channel.Channel.take.Goals as goal

pub returns-clause-follows : goal.returns-clause-follows
returns-clause-follows c = take_follows _ c.args.frame.now c.args.now c.requires
