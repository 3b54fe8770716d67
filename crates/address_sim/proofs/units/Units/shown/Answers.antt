use Rattle.std.proofs.Common.{◌∙◌}
use Rattle.address_sim.proofs.Places.{shown_alike}
use Rattle.address_sim.proofs.units.Units.shown.Goals as goal

pub returns : goal.returns
returns c states are = c.as_slice.ensures.value ∙ shown_alike c.args.self.now.units.items c.args.self.now.answers.items states c.args.self.now.even are
