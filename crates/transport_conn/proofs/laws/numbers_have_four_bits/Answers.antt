use Rattle.transport_conn.proofs.Numbers.{device_numbers, client_numbers}
use Rattle.transport_conn.proofs.laws.numbers_have_four_bits.Goals as goal

pub returns-clause-device : goal.returns-clause-device
returns-clause-device c = device_numbers

pub returns-clause-client : goal.returns-clause-client
returns-clause-client c = client_numbers
