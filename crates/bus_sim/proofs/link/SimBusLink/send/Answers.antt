use Rattle.std.proofs.Common.{inr, refl, ap, ◌∙◌}
use Rattle.line_model.specs.Record.{Put}
use Rattle.line_model.specs.World.{Send}
use Rattle.bus_sim.specs.RunNow.{story}
use Rattle.bus_sim.proofs.Linked.{added, added_still, stayed_still}
use Rattle.bus_sim.proofs.link.SimBusLink.send.Goals as goal

pub returns-in-Ok-clause-sent : goal.returns-in-Ok-clause-sent
returns-in-Ok-clause-sent c = added (Put c.args.octets.now) (Send c.args.octets.now) c.args.self.now.run c.send_to_run.new.self.run c.in-Ok.ensures.one c.in-Ok.ensures.went

pub returns-in-Ok-clause-time : goal.returns-in-Ok-clause-time
returns-in-Ok-clause-time c = added_still (Send c.args.octets.now) c.args.self.now.run c.send_to_run.new.self.run refl c.in-Ok.ensures.went

pub returns-in-Err-clause-failed : goal.returns-in-Err-clause-failed
returns-in-Err-clause-failed c = inr (ap story (c.fault_of.ensures.run ∙ c.in-Err.ensures.err))

pub returns-in-Err-clause-time : goal.returns-in-Err-clause-time
returns-in-Err-clause-time c = stayed_still c.args.self.now.run c.fault_of.new.self.run (c.fault_of.ensures.run ∙ c.in-Err.ensures.err)

pub returns-then-not-is_sound-clause-failed : goal.returns-then-not-is_sound-clause-failed
returns-then-not-is_sound-clause-failed c = inr (ap story c.refuse.ensures.run)

pub returns-then-not-is_sound-clause-time : goal.returns-then-not-is_sound-clause-time
returns-then-not-is_sound-clause-time c = stayed_still c.args.self.now.run c.refuse.new.self.run c.refuse.ensures.run
