use Rattle.transport_conn.proofs.Carrying.{device_sends, client_sends, device_carries, client_carries}
use Rattle.transport_conn.proofs.laws.sent_carries_number.Goals as goal

pub returns-clause-device : goal.returns-clause-device
returns-clause-device c = device_sends

pub returns-clause-client : goal.returns-clause-client
returns-clause-client c = client_sends

pub returns-clause-device_keeps : goal.returns-clause-device_keeps
returns-clause-device_keeps c = device_carries

pub returns-clause-client_keeps : goal.returns-clause-client_keeps
returns-clause-client_keeps c = client_carries
