use Rattle.transport_conn.proofs.Closing.{expires_only, expires_each}
use Rattle.transport_conn.proofs.laws.device_expires_exactly.Goals as goal

pub returns-clause-only : goal.returns-clause-only
returns-clause-only c = expires_only

pub returns-clause-each : goal.returns-clause-each
returns-clause-each c = expires_each
