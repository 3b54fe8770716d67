use Rattle.address_world.proofs.Always.{always}
use Rattle.address_world.proofs.laws.units_keep_their_addresses.Goals as goal

pub returns : goal.returns
returns c wanted start events f h = always wanted start events f h
