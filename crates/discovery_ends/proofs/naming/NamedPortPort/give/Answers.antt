use Rattle.discovery_ends.proofs.Named.{given_named, not_given_named}
use Rattle.discovery_ends.proofs.naming.NamedPortPort.give.Goals as goal

pub returns-clause-given : goal.returns-clause-given
returns-clause-given g c = rw (← c.self.view_is) (given_named c.give_named.result c.self.inside.own c.args.to c.args.octets.now _ _ c.self.invariant c.give_named.ensures.given)

pub returns-clause-failed : goal.returns-clause-failed
returns-clause-failed g c = rw (← c.self.view_is) (not_given_named c.give_named.result c.self.inside.own c.args.to c.args.octets.now _ _ c.self.invariant c.give_named.ensures.failed)
