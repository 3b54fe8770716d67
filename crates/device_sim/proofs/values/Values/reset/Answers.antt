use Rattle.std.proofs.Common.{ap, ◌∙◌}
use Rattle.device_sim.proofs.Slots.{padded, no_slots}
use Rattle.device_sim.proofs.values.Values.reset.Goals as goal

pub returns : goal.returns
returns c = ap padded c.clear.ensures.items ∙ no_slots
