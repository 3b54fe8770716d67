use Rattle.std.proofs.Common.{sym, subst}
use Rattle.address_sim.specs.Driven.{FailsForCause}
use Rattle.address_sim.specs.Turns.{seen}
use Rattle.address_sim.proofs.Sound.{sound_polled}
use Rattle.address_sim.proofs.bus.AddressBus.poll_run.Goals as goal

pub invariant_of-self-2 : goal.invariant_of-self-2
invariant_of-self-2 c = sound_polled c.poll-polled.result c.args.wait_ms c.self.inside.faults (seen c.in_ok-run.run') (seen c.poll-polled.new.self) c.poll-polled.ensures.ended c.poll-polled.ensures.err (subst (FailsForCause c.self.inside.faults) (sym c.in_ok-run.ensures.run) c.self.invariant)
