use Rattle.address_sim.proofs.Places.{sent_counted, sent_units}
use Rattle.address_sim.proofs.units.Units.send.Goals as goal

pub returns-clause-units : goal.returns-clause-units
returns-clause-units c states are = sent_units c.args.self.now.units.items c.args.self.now.answers.items states c.args.place c.args.n c.requires are

pub returns-clause-counted : goal.returns-clause-counted
returns-clause-counted c events at counted more = sent_counted c.args.self.now.answers.items events c.args.place c.args.n at c.requires counted more
