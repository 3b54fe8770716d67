use Rattle.session_law.proofs.sessions_are_in_order.Goals as goal
use Rattle.session_law.proofs.Law.{law}

pub returns : goal.returns
returns c = law
