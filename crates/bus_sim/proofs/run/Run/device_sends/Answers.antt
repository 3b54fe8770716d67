use Rattle.std.proofs.Common.{[], Some, ap, refl, ◌∙◌}
use Rattle.line_model.specs.World.{DevSend, DevRepeat, DevClose}
use Rattle.bus_sim.specs.Choices.{heard_so}
use Rattle.bus_sim.specs.RunNow.{mode, seen}
use Rattle.bus_sim.specs.Went.{world}
use Rattle.bus_sim.proofs.NextEvents.{sends_right, repeats_right, closing_right}
use Rattle.bus_sim.proofs.Turning.{ok_happens}
use Rattle.bus_sim.proofs.run.Run.device_sends.Goals as goal

pub dev_repeat-requires-clause-right : goal.dev_repeat-requires-clause-right
dev_repeat-requires-clause-right c = (repeats_right c.args.self.now c.args.device c.requires.free (c.requires.found ∙ ap Some c.in-Repeat.is) (c.what_is_due_is_allowed.ensures.repeat (mode (seen c.args.self.now)) (world c.args.self.now) c.args.device (heard_so c.args.self.now c.args.device) (c.requires.found ∙ ap Some c.in-Repeat.is)))

pub returns-in-Waiting-clause-happens : goal.returns-in-Waiting-clause-happens
returns-in-Waiting-clause-happens c = ok_happens c.dev_send.result c.args.self.now c.dev_send.new.self (DevSend c.args.device (heard_so c.args.self.now c.args.device) []) c.dev_send.ensures.went (sends_right c.args.self.now c.args.device c.requires.free (c.what_is_due_is_allowed.ensures.waiting (mode (seen c.args.self.now)) (world c.args.self.now) c.args.device (heard_so c.args.self.now c.args.device) [] (c.requires.found ∙ ap Some c.in-Waiting.is))) refl refl

pub returns-in-Repeat-clause-happens : goal.returns-in-Repeat-clause-happens
returns-in-Repeat-clause-happens c = ok_happens c.dev_repeat.result c.args.self.now c.dev_repeat.new.self (DevRepeat c.args.device (heard_so c.args.self.now c.args.device)) c.dev_repeat.ensures.went (repeats_right c.args.self.now c.args.device c.requires.free (c.requires.found ∙ ap Some c.in-Repeat.is) (c.what_is_due_is_allowed.ensures.repeat (mode (seen c.args.self.now)) (world c.args.self.now) c.args.device (heard_so c.args.self.now c.args.device) (c.requires.found ∙ ap Some c.in-Repeat.is))) refl refl

pub returns-in-Closing-clause-happens : goal.returns-in-Closing-clause-happens
returns-in-Closing-clause-happens c = ok_happens c.dev_close.result c.args.self.now c.dev_close.new.self (DevClose c.args.device) c.dev_close.ensures.went (closing_right c.args.self.now c.args.device c.requires.free (c.requires.found ∙ ap Some c.in-Closing.is) (c.what_is_due_is_allowed.ensures.closing (mode (seen c.args.self.now)) (world c.args.self.now) c.args.device (c.requires.found ∙ ap Some c.in-Closing.is))) refl refl
