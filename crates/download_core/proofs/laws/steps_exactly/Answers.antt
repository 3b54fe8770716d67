use Rattle.download_core.proofs.Decided.{ends_exactly, sends_exactly, waits_exactly, deadline_is_exact}
use Rattle.download_core.proofs.laws.steps_exactly.Goals as goal

pub returns-clause-ends : goal.returns-clause-ends
returns-clause-ends c = ends_exactly

pub returns-clause-sends : goal.returns-clause-sends
returns-clause-sends c = sends_exactly

pub returns-clause-waits : goal.returns-clause-waits
returns-clause-waits c = waits_exactly

pub returns-clause-deadline : goal.returns-clause-deadline
returns-clause-deadline c = deadline_is_exact
