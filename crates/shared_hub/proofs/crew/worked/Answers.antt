use Rattle.shared_hub.specs.Items.{HasFinished}
use Rattle.shared_hub.proofs.Works.{stays_sees, was_now}
use Rattle.shared_hub.proofs.crew.worked.Goals as goal

pub returns-clause-sees : goal.returns-clause-sees
returns-clause-sees g c = stays_sees _ _ c.work.ensures.seat

pub returns-clause-done : goal.returns-clause-done
returns-clause-done g c = was_now (HasFinished c.args.worker) c.args.worker c.args.relay.now _ _ c.requires.leads c.work.ensures.seat.sees c.work.ensures.done
