use Rattle.std.proofs.Common.{refl}
use Rattle.line_model.specs.World.{BusAgain}
use Rattle.bus_sim.specs.RunNow.{seen}
use Rattle.bus_sim.proofs.Meets.{last_right}
use Rattle.bus_sim.proofs.Turning.{ok_happens}
use Rattle.bus_sim.proofs.run.Run.frame_again.Goals as goal

pub bring_again-requires : goal.bring_again-requires
bring_again-requires c = last_right (seen c.args.self.now) c.args.device c.requires

pub returns-clause-happens : goal.returns-clause-happens
returns-clause-happens c = ok_happens c.bring_again.result c.args.self.now c.bring_again.new.self (BusAgain c.args.device) c.bring_again.ensures.went (last_right (seen c.args.self.now) c.args.device c.requires) refl refl
