use Rattle.session_law.proofs.runs.a_descriptor_is_read_through_losses.Goals as goal
use Rattle.session_law.proofs.Computed.{lossy_legal, lossy_delivered, lossy_accepted, lossy_end}

pub returns-clause-legal : goal.returns-clause-legal
returns-clause-legal c = lossy_legal

pub returns-clause-delivered : goal.returns-clause-delivered
returns-clause-delivered c = lossy_delivered

pub returns-clause-accepted : goal.returns-clause-accepted
returns-clause-accepted c = lossy_accepted

pub returns-clause-up : goal.returns-clause-up
returns-clause-up c = lossy_end
