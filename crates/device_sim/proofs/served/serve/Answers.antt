use Rattle.std.proofs.Common.{sym, ◌∙◌}
use Rattle.device_sim.proofs.Capacities.{served_capacities}
use Rattle.device_sim.proofs.WhileLoaded.{served_indexed}
use Rattle.device_sim.proofs.served.serve.Goals as goal

pub index_tables-requires-clause-capacities : goal.index_tables-requires-clause-capacities
index_tables-requires-clause-capacities c = served_capacities c.args.kept.now c.serve-answer.new.self c.args.octets.now c.args.memory c.serve-answer.ensures.next c.requires.capacities

pub index_tables-requires-clause-before : goal.index_tables-requires-clause-before
index_tables-requires-clause-before c = λ ran.
    served_indexed c.args.kept.now c.serve-answer.new.self c.args.octets.now c.args.memory c.args.index.now c.serve-answer.ensures.next c.requires.index (sym c.runs-ran.ensures ∙ ran)
