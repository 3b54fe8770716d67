use Rattle.transport_conn.proofs.ClientEnd.{silent, unacknowledged, unanswered}
use Rattle.transport_conn.proofs.laws.silent_exactly.Goals as goal

pub returns-clause-only : goal.returns-clause-only
returns-clause-only c = silent

pub returns-clause-unacknowledged : goal.returns-clause-unacknowledged
returns-clause-unacknowledged c = unacknowledged

pub returns-clause-unanswered : goal.returns-clause-unanswered
returns-clause-unanswered c = unanswered
