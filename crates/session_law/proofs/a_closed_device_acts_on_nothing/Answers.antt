use Rattle.session_law.proofs.a_closed_device_acts_on_nothing.Goals as goal
use Rattle.session_law.proofs.Closed.{stays_closed, acts_on_nothing}

pub returns-clause-nothing : goal.returns-clause-nothing
returns-clause-nothing c = acts_on_nothing

pub returns-clause-closed : goal.returns-clause-closed
returns-clause-closed c = stays_closed
