use Rattle.line_sim.proofs.Counting.{run_counted}
use Rattle.line_sim.proofs.laws.events_bound_the_counts.Goals as goal

pub returns : goal.returns
returns c = run_counted
