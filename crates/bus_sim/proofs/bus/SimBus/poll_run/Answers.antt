use Rattle.std.proofs.Common.{ap, sym, subst, refl, ◌∙◌}
use Rattle.bus_sim.specs.Ended.{FailsForCause}
use Rattle.bus_sim.specs.Loaded.{BusNow, bus_of}
use Rattle.bus_sim.specs.Polls.{StopsRun}
use Rattle.bus_sim.specs.RunNow.{seen}
use Rattle.bus_sim.proofs.Linked.{nothing_polled, polled_from, stopped_from}
use Rattle.bus_sim.proofs.Polling.{OnErrAny}
use Rattle.bus_sim.proofs.Sound.{sound_polled}
use Rattle.bus_sim.proofs.bus.SimBus.poll_run.Goals as goal

pub invariant_of-self : goal.invariant_of-self
invariant_of-self c = subst (FailsForCause c.self.inside.faults) (sym c.in_err-run.ensures.err) c.self.invariant

pub invariant_of-self-2 : goal.invariant_of-self-2
invariant_of-self-2 c = sound_polled c.poll-polled.result _ c.args.wait_ms c.self.inside.faults (seen c.in_ok-run.run') (seen c.poll-polled.new.self) c.poll-polled.ensures.one c.poll-polled.ensures.begun c.poll-polled.ensures.polled
    (stopped_from c.poll-polled.result c.args.wait_ms c.in_ok-run.run' c.poll-polled.new.self (seen c.in_ok-run.run') refl c.poll-polled.ensures.err) c.in_time.ensures
    (subst (FailsForCause c.self.inside.faults) (sym c.in_ok-run.ensures.run) c.self.invariant)

pub returns-in_err-run-clause-err : goal.returns-in_err-run-clause-err
returns-in_err-run-clause-err c = OnErrAny c.from_residual.result (StopsRun c.args.wait_ms c.args.self.now.run (bus_of c.take_run.new.run))
    (nothing_polled c.args.wait_ms c.args.self.now.run (bus_of c.take_run.new.run) (c.in_err-run.ensures.err ∙ ap (λ (b : BusNow). b.run) c.self.view_is))

pub returns-clause-polled : goal.returns-clause-polled
returns-clause-polled c = polled_from c.poll-polled.result _ c.args.wait_ms (seen c.in_ok-run.run') c.args.self.now.run (seen c.poll-polled.new.self) (c.in_ok-run.ensures.run ∙ ap (λ (b : BusNow). b.run) c.self.view_is) c.poll-polled.ensures.polled

pub returns-clause-err : goal.returns-clause-err
returns-clause-err c = stopped_from c.poll-polled.result c.args.wait_ms c.in_ok-run.run' c.poll-polled.new.self c.args.self.now.run (c.in_ok-run.ensures.run ∙ ap (λ (b : BusNow). b.run) c.self.view_is) c.poll-polled.ensures.err
