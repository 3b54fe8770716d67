use Rattle.shared_hub.proofs.Watched.{begins_watched}
use Rattle.shared_hub.proofs.run.begun.Goals as goal

pub returns-in-Ok-begin-clause-watched : goal.returns-in-Ok-begin-clause-watched
returns-in-Ok-begin-clause-watched g c = begins_watched _ _ _ _ _ _ c.in-Ok-new.ensures.watch c.in-Ok-new.ensures.told
