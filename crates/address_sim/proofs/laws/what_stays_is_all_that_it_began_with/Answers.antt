use Rattle.address_sim.proofs.Stays.{all_that_began}
use Rattle.address_sim.proofs.laws.what_stays_is_all_that_it_began_with.Goals as goal

pub returns : goal.returns
returns c = all_that_began
