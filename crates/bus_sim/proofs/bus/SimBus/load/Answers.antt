use Rattle.std.proofs.Common.{inr}
use Rattle.bus_sim.proofs.bus.SimBus.load.Goals as goal

pub returns-in-Err-clause-refused : goal.returns-in-Err-clause-refused
returns-in-Err-clause-refused c = inr c.want_of.ensures
