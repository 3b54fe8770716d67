use Rattle.address_law.proofs.Law.{law}
use Rattle.address_law.proofs.the_units_determine_what_comes_of_it.Goals as goal

pub returns : goal.returns
returns c wanted start events came three fresh legal calm renews sends acknowledges ends = law wanted start events came three fresh legal calm renews sends acknowledges ends
