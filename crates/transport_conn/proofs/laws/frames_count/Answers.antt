use Rattle.transport_conn.proofs.Counting.{device_counts, client_counts}
use Rattle.transport_conn.proofs.laws.frames_count.Goals as goal

pub returns-clause-device : goal.returns-clause-device
returns-clause-device c = device_counts

pub returns-clause-client : goal.returns-clause-client
returns-clause-client c = client_counts
