use Rattle.std.proofs.Common.{refl}
use Rattle.bus_sim.proofs.Linked.{nothing_polled, polled_run_later, still_nothing, stopped_later}
use Rattle.bus_sim.proofs.link.SimBusLink.poll.Goals as goal

pub returns-in-Ok-clause-time : goal.returns-in-Ok-clause-time
returns-in-Ok-clause-time c = (polled_run_later c.in-Ok.polled _ c.args.wait_ms c.args.self.now.run c.poll_run.new.self.run c.in-Ok.ensures.one c.poll_run.ensures.begun c.in-Ok.ensures.polled).time

pub returns-in-Ok-clause-events : goal.returns-in-Ok-clause-events
returns-in-Ok-clause-events c = (polled_run_later c.in-Ok.polled _ c.args.wait_ms c.args.self.now.run c.poll_run.new.self.run c.in-Ok.ensures.one c.poll_run.ensures.begun c.in-Ok.ensures.polled).events

pub returns-in-Err-clause-polled : goal.returns-in-Err-clause-polled
returns-in-Err-clause-polled c = still_nothing c.args.wait_ms c.args.self.now.run c.poll_run.new.self.run c.fault_of.new.self.run c.fault_of.ensures.run c.in-Err.ensures.err

pub returns-in-Err-clause-time : goal.returns-in-Err-clause-time
returns-in-Err-clause-time c = (stopped_later c.args.wait_ms c.args.self.now.run c.poll_run.new.self.run c.fault_of.new.self.run c.fault_of.ensures.run c.in-Err.ensures.err).time

pub returns-in-Err-clause-events : goal.returns-in-Err-clause-events
returns-in-Err-clause-events c = (stopped_later c.args.wait_ms c.args.self.now.run c.poll_run.new.self.run c.fault_of.new.self.run c.fault_of.ensures.run c.in-Err.ensures.err).events

pub returns-then-not-is_sound-clause-polled : goal.returns-then-not-is_sound-clause-polled
returns-then-not-is_sound-clause-polled c = still_nothing c.args.wait_ms c.args.self.now.run c.args.self.now.run c.refuse.new.self.run c.refuse.ensures.run (nothing_polled c.args.wait_ms c.args.self.now.run c.args.self.now.run refl)

pub returns-then-not-is_sound-clause-time : goal.returns-then-not-is_sound-clause-time
returns-then-not-is_sound-clause-time c = (stopped_later c.args.wait_ms c.args.self.now.run c.args.self.now.run c.refuse.new.self.run c.refuse.ensures.run (nothing_polled c.args.wait_ms c.args.self.now.run c.args.self.now.run refl)).time

pub returns-then-not-is_sound-clause-events : goal.returns-then-not-is_sound-clause-events
returns-then-not-is_sound-clause-events c = (stopped_later c.args.wait_ms c.args.self.now.run c.args.self.now.run c.refuse.new.self.run c.refuse.ensures.run (nothing_polled c.args.wait_ms c.args.self.now.run c.args.self.now.run refl)).events
