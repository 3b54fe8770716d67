use Rattle.std.proofs.Common.{ap, inr, refl, ◌∙◌}
use Rattle.line_model.specs.LinkStory.{Renews}
use Rattle.line_model.specs.Record.{Renewed}
use Rattle.line_model.specs.World as world
use Rattle.address_world.specs.AddressWorld.{Renew}
use Rattle.address_sim.specs.Told.{happened, story, time, world}
use Rattle.address_sim.proofs.Links.{RunsLater, added_later, either_later, either_still, err_stays, ok_adds, stayed_later}
use Rattle.address_sim.proofs.Seen.{timeless}
use Rattle.address_sim.proofs.link.AddressBusLink.renew.Goals as goal

later : (c : goal.After-answer) → RunsLater c.args.self.now.run c.answer.new.self.run
later c = rw c.answer.ensures.run (either_later c.renew_run-renewed.result c.args.self.now.run c.renew_run-renewed.new.self.run (happened c.args.self.now.run Renew) c.renew_run-renewed.ensures.went c.renew_run-renewed.ensures.err
    (added_later Renewed Renew c.args.self.now.run (happened c.args.self.now.run Renew) refl refl refl))

pub returns-clause-renewed : goal.returns-clause-renewed
returns-clause-renewed c = rw c.answer.ensures.same (rw c.answer.ensures.run (ok_adds Renewed Renew world.Renew c.renew_run-renewed.result c.args.self.now.run c.renew_run-renewed.new.self.run refl refl c.renew_run-renewed.ensures.went))

pub returns-clause-failed : goal.returns-clause-failed
returns-clause-failed c = rw c.answer.ensures.same (rw c.answer.ensures.run (err_stays (Renews (story c.args.self.now.run) (story c.renew_run-renewed.new.self.run)) c.renew_run-renewed.result c.args.self.now.run c.renew_run-renewed.new.self.run c.renew_run-renewed.ensures.err))

pub returns-clause-time : goal.returns-clause-time
returns-clause-time c = ap time c.answer.ensures.run ∙ either_still c.renew_run-renewed.result c.args.self.now.run c.renew_run-renewed.new.self.run (happened c.args.self.now.run Renew) c.renew_run-renewed.ensures.went c.renew_run-renewed.ensures.err
    (timeless (world c.args.self.now.run) Renew refl)

pub returns-clause-events : goal.returns-clause-events
returns-clause-events c = (later c).entries

pub returns-then-not-is_sound-clause-failed : goal.returns-then-not-is_sound-clause-failed
returns-then-not-is_sound-clause-failed c = inr (ap story c.refuse.ensures.run)

pub returns-then-not-is_sound-clause-time : goal.returns-then-not-is_sound-clause-time
returns-then-not-is_sound-clause-time c = ap time c.refuse.ensures.run

pub returns-then-not-is_sound-clause-events : goal.returns-then-not-is_sound-clause-events
returns-then-not-is_sound-clause-events c = (stayed_later c.args.self.now.run c.refuse.new.self.run c.refuse.ensures.run).entries
