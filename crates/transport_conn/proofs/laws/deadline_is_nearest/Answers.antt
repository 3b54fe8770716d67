use Rattle.transport_conn.proofs.DeviceEnd.{due as device_due, reached as device_reached}
use Rattle.transport_conn.proofs.ClientEnd.{due as client_due, reached as client_reached}
use Rattle.transport_conn.proofs.laws.deadline_is_nearest.Goals as goal

pub returns-clause-device : goal.returns-clause-device
returns-clause-device c = λ e now l. (device_due e now l, device_reached e now l)

pub returns-clause-client : goal.returns-clause-client
returns-clause-client c = λ e now l. (client_due e now l, client_reached e now l)
