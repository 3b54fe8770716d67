use Rattle.transport_conn.proofs.Closing.{asks_again_only, asks_again_each}
use Rattle.transport_conn.proofs.laws.asks_again_exactly.Goals as goal

pub returns-clause-only : goal.returns-clause-only
returns-clause-only c = asks_again_only

pub returns-clause-each : goal.returns-clause-each
returns-clause-each c = asks_again_each
