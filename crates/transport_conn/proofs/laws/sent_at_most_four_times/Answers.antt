use Rattle.transport_conn.proofs.Runs.{device_always, client_always}
use Rattle.transport_conn.proofs.laws.sent_at_most_four_times.Goals as goal

pub returns-clause-device : goal.returns-clause-device
returns-clause-device c = device_always

pub returns-clause-client : goal.returns-clause-client
returns-clause-client c = client_always
