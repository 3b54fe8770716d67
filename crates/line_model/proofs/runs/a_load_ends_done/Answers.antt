use Rattle.line_model.proofs.runs.a_load_ends_done.Goals as goal
use Rattle.line_model.proofs.Loads.{legal, follows, disciplined, done_runs}

pub returns-clause-legal : goal.returns-clause-legal
returns-clause-legal c = legal

pub returns-clause-follows : goal.returns-clause-follows
returns-clause-follows c = follows

pub returns-clause-disciplined : goal.returns-clause-disciplined
returns-clause-disciplined c = disciplined

pub returns-clause-new : goal.returns-clause-new
returns-clause-new c = done_runs
