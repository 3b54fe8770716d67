use Rattle.transport_conn.proofs.Carried.{grammatical}
use Rattle.transport_conn.proofs.laws.numbered_is_grammatical.Goals as goal

pub returns : goal.returns
returns c = grammatical
