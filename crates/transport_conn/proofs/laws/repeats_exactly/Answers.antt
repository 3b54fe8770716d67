use Rattle.transport_conn.proofs.DeviceEnd.{repeats, repeated}
use Rattle.transport_conn.proofs.laws.repeats_exactly.Goals as goal

pub returns-clause-only : goal.returns-clause-only
returns-clause-only c = repeats

pub returns-clause-each : goal.returns-clause-each
returns-clause-each c = repeated
