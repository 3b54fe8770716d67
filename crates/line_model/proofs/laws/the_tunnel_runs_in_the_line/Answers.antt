use Rattle.line_model.proofs.laws.the_tunnel_runs_in_the_line.Goals as goal
use Rattle.line_model.proofs.Projection.{runs, legal, records}

pub returns-clause-runs : goal.returns-clause-runs
returns-clause-runs c = runs

pub returns-clause-legal : goal.returns-clause-legal
returns-clause-legal c = legal

pub returns-clause-records : goal.returns-clause-records
returns-clause-records c = records
