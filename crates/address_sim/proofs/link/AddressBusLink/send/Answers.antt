use Rattle.std.proofs.Common.{ap, inr, refl, ◌∙◌}
use Rattle.line_model.specs.LinkStory.{Sends}
use Rattle.line_model.specs.Record.{Put}
use Rattle.line_model.specs.World as world
use Rattle.address_world.specs.AddressWorld.{Send}
use Rattle.address_sim.specs.Told.{happened, story, time, world}
use Rattle.address_sim.proofs.Links.{RunsLater, added_later, either_later, either_still, err_stays, ok_adds, stayed_later}
use Rattle.address_sim.proofs.Seen.{timeless}
use Rattle.address_sim.proofs.link.AddressBusLink.send.Goals as goal

later : (c : goal.After-answer) → RunsLater c.args.self.now.run c.answer.new.self.run
later c = rw c.answer.ensures.run (either_later c.send_to_run-sent.result c.args.self.now.run c.send_to_run-sent.new.self.run (happened c.args.self.now.run (Send c.args.octets.now)) c.send_to_run-sent.ensures.went c.send_to_run-sent.ensures.err
    (added_later (Put c.args.octets.now) (Send c.args.octets.now) c.args.self.now.run (happened c.args.self.now.run (Send c.args.octets.now)) refl refl refl))

pub returns-clause-sent : goal.returns-clause-sent
returns-clause-sent c = rw c.answer.ensures.same (rw c.answer.ensures.run (ok_adds (Put c.args.octets.now) (Send c.args.octets.now) (world.Send c.args.octets.now) c.send_to_run-sent.result c.args.self.now.run c.send_to_run-sent.new.self.run refl refl c.send_to_run-sent.ensures.went))

pub returns-clause-failed : goal.returns-clause-failed
returns-clause-failed c = rw c.answer.ensures.same (rw c.answer.ensures.run (err_stays (Sends c.args.octets.now (story c.args.self.now.run) (story c.send_to_run-sent.new.self.run)) c.send_to_run-sent.result c.args.self.now.run c.send_to_run-sent.new.self.run c.send_to_run-sent.ensures.err))

pub returns-clause-time : goal.returns-clause-time
returns-clause-time c = ap time c.answer.ensures.run ∙ either_still c.send_to_run-sent.result c.args.self.now.run c.send_to_run-sent.new.self.run (happened c.args.self.now.run (Send c.args.octets.now)) c.send_to_run-sent.ensures.went c.send_to_run-sent.ensures.err
    (timeless (world c.args.self.now.run) (Send c.args.octets.now) refl)

pub returns-clause-events : goal.returns-clause-events
returns-clause-events c = (later c).entries

pub returns-then-not-is_sound-clause-failed : goal.returns-then-not-is_sound-clause-failed
returns-then-not-is_sound-clause-failed c = inr (ap story c.refuse.ensures.run)

pub returns-then-not-is_sound-clause-time : goal.returns-then-not-is_sound-clause-time
returns-then-not-is_sound-clause-time c = ap time c.refuse.ensures.run

pub returns-then-not-is_sound-clause-events : goal.returns-then-not-is_sound-clause-events
returns-then-not-is_sound-clause-events c = (stayed_later c.args.self.now.run c.refuse.new.self.run c.refuse.ensures.run).entries
