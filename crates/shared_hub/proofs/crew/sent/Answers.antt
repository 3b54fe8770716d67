use Rattle.shared_hub.specs.Items.{HasTold}
use Rattle.shared_hub.proofs.Works.{stays_sees, was_now}
use Rattle.shared_hub.proofs.crew.sent.Goals as goal

pub returns-clause-sees : goal.returns-clause-sees
returns-clause-sees g c = stays_sees _ _ c.send_groups.ensures.seat

pub returns-clause-done : goal.returns-clause-done
returns-clause-done g c = was_now HasTold 0 c.args.relay.now _ _ c.requires.leads c.send_groups.ensures.seat.sees c.send_groups.ensures.done
