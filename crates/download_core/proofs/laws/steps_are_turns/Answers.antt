use Rattle.download_core.proofs.Turns.{logs_truly, turn_waits_exactly, connects_at_rest}
use Rattle.download_core.proofs.laws.steps_are_turns.Goals as goal

pub returns-clause-logs : goal.returns-clause-logs
returns-clause-logs c = logs_truly

pub returns-clause-waits : goal.returns-clause-waits
returns-clause-waits c = turn_waits_exactly

pub returns-clause-connects : goal.returns-clause-connects
returns-clause-connects c = connects_at_rest
