use Rattle.session_law.proofs.the_next_service_is_acted_on.Goals as goal
use Rattle.session_law.proofs.Law.{next_law}

pub returns : goal.returns
returns c = next_law
