use Rattle.transport_conn.proofs.Counting.{device_answers, device_waits, client_confirms, client_sends, client_waits}
use Rattle.transport_conn.proofs.laws.other_calls_keep_numbers.Goals as goal

pub returns-clause-device_answers : goal.returns-clause-device_answers
returns-clause-device_answers c = device_answers

pub returns-clause-device_waits : goal.returns-clause-device_waits
returns-clause-device_waits c = device_waits

pub returns-clause-client_confirms : goal.returns-clause-client_confirms
returns-clause-client_confirms c = client_confirms

pub returns-clause-client_sends : goal.returns-clause-client_sends
returns-clause-client_sends c = client_sends

pub returns-clause-client_waits : goal.returns-clause-client_waits
returns-clause-client_waits c = client_waits
