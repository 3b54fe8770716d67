use Rattle.std.proofs.Common.{refl}
use Rattle.line_model.specs.World.{GwClose}
use Rattle.bus_sim.specs.RunNow.{seen}
use Rattle.bus_sim.proofs.Meets.{channel_right}
use Rattle.bus_sim.proofs.Turning.{ok_happens}
use Rattle.bus_sim.proofs.run.Run.channel_closes.Goals as goal

pub gw_close-requires : goal.gw_close-requires
gw_close-requires c = channel_right (seen c.args.self.now) c.keeps.ensures c.requires

pub returns-clause-happens : goal.returns-clause-happens
returns-clause-happens c = ok_happens c.gw_close.result c.args.self.now c.gw_close.new.self GwClose c.gw_close.ensures.went (channel_right (seen c.args.self.now) c.keeps.ensures c.requires) refl refl
