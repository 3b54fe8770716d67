use Rattle.line_model.proofs.runs.a_worker_waits_for_its_confirmation.Goals as goal
use Rattle.line_model.proofs.Turns.{waits, polls, goes_on}

pub returns-clause-waits : goal.returns-clause-waits
returns-clause-waits c = waits

pub returns-clause-polls : goal.returns-clause-polls
returns-clause-polls c = polls

pub returns-clause-goes_on : goal.returns-clause-goes_on
returns-clause-goes_on c = goes_on
