use Rattle.bus_sim.specs.RunNow.{mode, seen}
use Rattle.bus_sim.specs.Went.{world}
use Rattle.bus_sim.proofs.run.Run.at_devices.Goals as goal

pub let_pass-requires-clause-settled : goal.let_pass-requires-clause-settled
let_pass-requires-clause-settled c = c.what_is_settled.ensures (mode (seen c.args.self.now)) (world c.args.self.now) c.requires.up c.requires.down c.requires.bus c.in-None.ensures.none c.requires.gateway
