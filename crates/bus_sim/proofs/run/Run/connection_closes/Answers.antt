use Rattle.std.proofs.Common.{refl}
use Rattle.line_model.specs.World.{DevClose}
use Rattle.bus_sim.specs.RunNow.{seen}
use Rattle.bus_sim.proofs.Meets.{connection_right}
use Rattle.bus_sim.proofs.Turning.{ok_happens}
use Rattle.bus_sim.proofs.run.Run.connection_closes.Goals as goal

pub dev_close-requires : goal.dev_close-requires
dev_close-requires c = connection_right (seen c.args.self.now) c.args.device c.keeps.ensures c.requires

pub returns-clause-happens : goal.returns-clause-happens
returns-clause-happens c = ok_happens c.dev_close.result c.args.self.now c.dev_close.new.self (DevClose c.args.device) c.dev_close.ensures.went (connection_right (seen c.args.self.now) c.args.device c.keeps.ensures c.requires) refl refl
