use Rattle.std.proofs.Common.{subst}
use Rattle.address_sim.specs.Turns.{SettledSo, seen}
use Rattle.address_sim.proofs.run.Run.poll.Goals as goal

pub returns-in-Got-clause-ended : goal.returns-in-Got-clause-ended
returns-in-Got-clause-ended c = (subst (λ s. SettledSo s (seen c.args.self.now) (seen c.settle.new.self)) c.in-Got.is c.in_ok-octets.ensures.settled) c.args.wait_ms
