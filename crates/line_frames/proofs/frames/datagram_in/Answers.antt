use Rattle.line_frames.proofs.frames.datagram_in.Goals as goal
use Rattle.line_frames.proofs.Read.{datagram_read, datagram_unread, has_tunnel}

pub returns-in-Ok : goal.returns-in-Ok
returns-in-Ok c = record {
  value = datagram_read c.frames_are_read.ensures.datagrams _ _ c.in-Ok.ensures.read;
  tunnel = has_tunnel _ _ c.in-Ok.ensures.read;
}

pub returns-in-Err : goal.returns-in-Err
returns-in-Err c = record {
  value = datagram_unread c.frames_are_read.ensures.datagrams _ _ c.in-Err.ensures.only;
  tunnel = tt;
}
