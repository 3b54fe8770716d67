use Rattle.session_law.proofs.runs.one_frame_at_a_time.Goals as goal
use Rattle.session_law.proofs.Computed.{before_legal, before_pending, not_ordered}

pub returns-clause-legal : goal.returns-clause-legal
returns-clause-legal c = before_legal

pub returns-clause-pending : goal.returns-clause-pending
returns-clause-pending c = before_pending

pub returns-clause-not_in_order : goal.returns-clause-not_in_order
returns-clause-not_in_order c = not_ordered
