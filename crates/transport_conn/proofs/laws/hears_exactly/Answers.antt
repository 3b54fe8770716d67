use Rattle.transport_conn.proofs.ClientEnd.{hears_only, hears_each}
use Rattle.transport_conn.proofs.laws.hears_exactly.Goals as goal

pub returns-clause-only : goal.returns-clause-only
returns-clause-only c = hears_only

pub returns-clause-each : goal.returns-clause-each
returns-clause-each c = hears_each
