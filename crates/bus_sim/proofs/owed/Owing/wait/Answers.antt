use Rattle.std.proofs.Common.{subst}
use Rattle.bus_sim.specs.Owing.{LetsClient, OwingNow}
use Rattle.bus_sim.proofs.Owings.{lets_client}
use Rattle.bus_sim.proofs.owed.Owing.wait.Goals as goal

pub returns-clause-lets : goal.returns-clause-lets
returns-clause-lets c = subst (λ (v : OwingNow). LetsClient v.list) c.self.view_is (lets_client c.self.inside.items.items)
