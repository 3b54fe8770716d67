use Rattle.std.proofs.Common.{◌∙◌}
use Rattle.address_sim.proofs.Places.{addresses_alike}
use Rattle.address_sim.proofs.units.Units.has_address.Goals as goal

pub returns : goal.returns
returns c states are = c.is_there.ensures ∙ addresses_alike c.args.raw c.args.self.now.units.items c.args.self.now.answers.items states c.args.self.now.even are
