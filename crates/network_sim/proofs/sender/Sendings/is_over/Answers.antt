use Rattle.network_sim.proofs.Over.{over_exactly}
use Rattle.network_sim.proofs.sender.Sendings.is_over.Goals as goal

pub returns-clause-simulates : goal.returns-clause-simulates
returns-clause-simulates c = λ sent same.
    over_exactly c.args.reach c.args.made sent c.next.result c.is_none.result (c.next.ensures.simulates sent same) c.is_none.ensures
