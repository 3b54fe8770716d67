use Rattle.std.proofs.lemmas.Bool.{ltb-true}
use Rattle.device_tables.proofs.Halves.{below_to}
use Rattle.device_tables.proofs.index.TableIndex.is_below.Goals as goal

pub returns-clause-below : goal.returns-clause-below
returns-clause-below g c = λ yes. below_to c.args.self.now c.args.at c.args.group.raw c.look-of.result c.look-of.ensures.ascending c.requires c.look-of.ensures.pair (ltb-true c.look-of.result.0 c.args.group.raw yes)
