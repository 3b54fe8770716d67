use Rattle.line_frames.proofs.frames.ldata_in.Goals as goal
use Rattle.line_frames.proofs.Read.{frame_read, frame_unread}

pub returns-in-Ok : goal.returns-in-Ok
returns-in-Ok c = frame_read c.frames_are_read.ensures.frames _ _ c.in-Ok.ensures.read

pub returns-in-Err : goal.returns-in-Err
returns-in-Err c = frame_unread c.frames_are_read.ensures.frames _ _ c.in-Err.ensures.only
