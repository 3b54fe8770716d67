use Rattle.load_law.proofs.each_load_can_end_done.Goals as goal
use Rattle.load_law.proofs.Always.{can_always}
use Rattle.load_law.proofs.Jobs.{load_ends, load_runs}

pub returns-clause-legal : goal.returns-clause-legal
returns-clause-legal c = λ image me d fits has power. (load_ends image me d fits has power).legal

pub returns-clause-follows : goal.returns-clause-follows
returns-clause-follows c = λ image me d fits has power. (load_ends image me d fits has power).follows

pub returns-clause-done : goal.returns-clause-done
returns-clause-done c = λ image me d fits has power. (load_ends image me d fits has power).done

pub returns-clause-runs : goal.returns-clause-runs
returns-clause-runs c = load_runs

pub returns-clause-always : goal.returns-clause-always
returns-clause-always c = can_always
