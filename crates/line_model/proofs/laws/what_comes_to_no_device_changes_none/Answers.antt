use Rattle.line_model.proofs.laws.what_comes_to_no_device_changes_none.Goals as goal
use Rattle.line_model.proofs.Concerned.{sender_keeps}
use Rattle.line_model.proofs.Reached.{apart}

pub returns-clause-apart : goal.returns-clause-apart
returns-clause-apart c = apart

pub returns-clause-sender : goal.returns-clause-sender
returns-clause-sender c = sender_keeps
