use Rattle.std.proofs.Common.{◌≤◌, subst, sym}
use Rattle.address_sim.specs.Told.{RunNow, time}
use Rattle.address_sim.proofs.Links.{nothing_happened, polled_later, stayed_later}
use Rattle.address_sim.proofs.link.AddressBusLink.poll.Goals as goal

pub returns-clause-time : goal.returns-clause-time
returns-clause-time c = subst (λ (r : RunNow). time c.args.self.now.run ≤ time r) (sym c.answer.ensures.run) (polled_later c.poll_run-polled.result _ c.args.wait_ms c.args.self.now.run c.poll_run-polled.new.self.run c.poll_run-polled.ensures.polled).time

pub returns-clause-events : goal.returns-clause-events
returns-clause-events c = rw c.answer.ensures.run (polled_later c.poll_run-polled.result _ c.args.wait_ms c.args.self.now.run c.poll_run-polled.new.self.run c.poll_run-polled.ensures.polled).entries

pub returns-then-not-is_sound-clause-polled : goal.returns-then-not-is_sound-clause-polled
returns-then-not-is_sound-clause-polled c = nothing_happened c.args.wait_ms c.args.self.now.run c.refuse.new.self.run c.refuse.ensures.run

pub returns-then-not-is_sound-clause-time : goal.returns-then-not-is_sound-clause-time
returns-then-not-is_sound-clause-time c = (stayed_later c.args.self.now.run c.refuse.new.self.run c.refuse.ensures.run).time

pub returns-then-not-is_sound-clause-events : goal.returns-then-not-is_sound-clause-events
returns-then-not-is_sound-clause-events c = (stayed_later c.args.self.now.run c.refuse.new.self.run c.refuse.ensures.run).entries
