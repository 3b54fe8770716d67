use Rattle.transport_conn.proofs.Carried.{frame_read, carried}
use Rattle.transport_conn.proofs.laws.frames_are_read.Goals as goal

pub returns-clause-read : goal.returns-clause-read
returns-clause-read c = frame_read

pub returns-clause-carried : goal.returns-clause-carried
returns-clause-carried c = carried
