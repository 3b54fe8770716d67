use Rattle.transport_conn.proofs.Closing.{client_only, client_each}
use Rattle.transport_conn.proofs.laws.client_closes_exactly.Goals as goal

pub returns-clause-only : goal.returns-clause-only
returns-clause-only c = client_only

pub returns-clause-each : goal.returns-clause-each
returns-clause-each c = client_each
