use Rattle.std.proofs.Common.{subst, sym}
use Rattle.bus_sim.specs.Loaded.{BusNow}
use Rattle.bus_sim.specs.RunNow.{story}
use Rattle.line_model.specs.LinkStory.{IsNewLink}
use Rattle.shared_hub.proofs.Running.{opens_so}
use Rattle.thread_vectors.proofs.works.hub_for_two.Goals as goal

pub returns-in-Ok-clause-opening : goal.returns-in-Ok-clause-opening
returns-in-Ok-clause-opening c =
    opens_so (λ (line : BusNow). story line.run) c.in-Ok.hub (subst (λ (line : BusNow). IsNewLink (story line.run)) (sym c.in-Ok.ensures.link) c.in_ok-blank_line.ensures) c.in-Ok.ensures.log c.in-Ok.ensures.fault c.in-Ok.ensures.unbegun c.in-Ok.ensures.missed
