use Rattle.transport_conn.proofs.ClientEnd.{once}
use Rattle.transport_conn.proofs.laws.hears_once.Goals as goal

pub returns : goal.returns
returns c = once
