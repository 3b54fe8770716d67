use Rattle.address_world.proofs.Requests.{puts_only}
use Rattle.address_world.proofs.laws.requests_are_those_that_were_put.Goals as goal

pub returns : goal.returns
returns c wanted r right first = puts_only wanted r right first
