use Rattle.transport_conn.proofs.DeviceEnd.{delivered, delivers}
use Rattle.transport_conn.proofs.laws.delivers_exactly.Goals as goal

pub returns-clause-only : goal.returns-clause-only
returns-clause-only c = delivered

pub returns-clause-each : goal.returns-clause-each
returns-clause-each c = delivers
