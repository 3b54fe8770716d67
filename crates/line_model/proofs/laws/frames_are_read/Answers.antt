use Rattle.line_model.proofs.laws.frames_are_read.Goals as goal
use Rattle.line_model.proofs.Datagrams.{datagram_reads}
use Rattle.line_model.proofs.Frames.{frame_reads}

pub returns-clause-datagrams : goal.returns-clause-datagrams
returns-clause-datagrams c = datagram_reads

pub returns-clause-frames : goal.returns-clause-frames
returns-clause-frames c = frame_reads
