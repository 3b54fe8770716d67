use Rattle.transport_conn.proofs.Closing.{device_only, device_each}
use Rattle.transport_conn.proofs.laws.device_closes_exactly.Goals as goal

pub returns-clause-only : goal.returns-clause-only
returns-clause-only c = device_only

pub returns-clause-each : goal.returns-clause-each
returns-clause-each c = device_each
