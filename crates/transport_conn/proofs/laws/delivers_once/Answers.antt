use Rattle.transport_conn.proofs.DeviceEnd.{once}
use Rattle.transport_conn.proofs.laws.delivers_once.Goals as goal

pub returns : goal.returns
returns c = once
