use Rattle.std.proofs.Common.{refl}
use Rattle.line_model.specs.World.{GwRepeat}
use Rattle.bus_sim.specs.RunNow.{mode, seen}
use Rattle.bus_sim.specs.Went.{world}
use Rattle.bus_sim.proofs.NextEvents.{gateway_repeats_right}
use Rattle.bus_sim.proofs.Turning.{ok_happens}
use Rattle.bus_sim.proofs.run.Run.gateway_repeats.Goals as goal

pub gw_repeat-requires-clause-right : goal.gw_repeat-requires-clause-right
gw_repeat-requires-clause-right c = gateway_repeats_right c.args.self.now c.requires.free c.requires.due (c.what_is_due_is_allowed.ensures.gateway_repeats (mode (seen c.args.self.now)) (world c.args.self.now) c.requires.due)

pub returns-clause-happens : goal.returns-clause-happens
returns-clause-happens c = ok_happens c.gw_repeat.result c.args.self.now c.gw_repeat.new.self GwRepeat c.gw_repeat.ensures.went
    (gateway_repeats_right c.args.self.now c.requires.free c.requires.due (c.what_is_due_is_allowed.ensures.gateway_repeats (mode (seen c.args.self.now)) (world c.args.self.now) c.requires.due)) refl refl
