use Rattle.discovery.proofs.Once.{only_frame}
use Rattle.discovery.proofs.frame.decode.Goals as goal

pub returns-clause-only : goal.returns-clause-only
returns-clause-only c = only_frame c.args.octets.now c.frame_of.result c.frame_of.ensures.read c.frame_of.ensures.refused
