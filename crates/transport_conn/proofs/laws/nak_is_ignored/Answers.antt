use Rattle.transport_conn.proofs.DeviceEnd.{nak_ignored as device_ignores}
use Rattle.transport_conn.proofs.ClientEnd.{nak_ignored as client_ignores}
use Rattle.transport_conn.proofs.laws.nak_is_ignored.Goals as goal

pub returns-clause-device : goal.returns-clause-device
returns-clause-device c = device_ignores

pub returns-clause-client : goal.returns-clause-client
returns-clause-client c = client_ignores
