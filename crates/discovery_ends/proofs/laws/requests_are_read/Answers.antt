use Rattle.discovery_ends.proofs.Requests.{requests_read}
use Rattle.discovery_ends.proofs.laws.requests_are_read.Goals as goal

pub returns : goal.returns
returns c = requests_read
