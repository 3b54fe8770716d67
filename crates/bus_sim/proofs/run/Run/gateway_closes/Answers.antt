use Rattle.std.proofs.Common.{refl}
use Rattle.line_model.specs.World.{GwClose}
use Rattle.bus_sim.specs.RunNow.{mode, seen}
use Rattle.bus_sim.specs.Went.{world}
use Rattle.bus_sim.proofs.NextEvents.{gateway_closes_right}
use Rattle.bus_sim.proofs.Turning.{ok_happens}
use Rattle.bus_sim.proofs.run.Run.gateway_closes.Goals as goal

pub gw_close-requires : goal.gw_close-requires
gw_close-requires c = gateway_closes_right c.args.self.now c.requires.free c.requires.due (c.what_is_due_is_allowed.ensures.gateway_closes (mode (seen c.args.self.now)) (world c.args.self.now) c.requires.due)

pub returns-clause-happens : goal.returns-clause-happens
returns-clause-happens c = ok_happens c.gw_close.result c.args.self.now c.gw_close.new.self GwClose c.gw_close.ensures.went
    (gateway_closes_right c.args.self.now c.requires.free c.requires.due (c.what_is_due_is_allowed.ensures.gateway_closes (mode (seen c.args.self.now)) (world c.args.self.now) c.requires.due)) refl refl
