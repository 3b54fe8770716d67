use Rattle.transport_conn.proofs.Carrying.{device_connects, client_connects}
use Rattle.transport_conn.proofs.laws.connects_anew.Goals as goal

pub returns-clause-device : goal.returns-clause-device
returns-clause-device c = device_connects

pub returns-clause-client : goal.returns-clause-client
returns-clause-client c = client_connects
