use Rattle.std.proofs.Common.{sym, subst}
use Rattle.bus_sim.specs.Loaded.{BusNow}
use Rattle.bus_sim.specs.RunNow.{story}
use Rattle.line_model.specs.LinkStory.{IsNewLink}
use Rattle.hub_runs.proofs.tests.failing.run.Goals as goal

pub commission-link-requires-clause-new : goal.commission-link-requires-clause-new
commission-link-requires-clause-new g c = λ κs within. subst (λ (line : BusNow). IsNewLink (story line.run)) (sym c.new-link.ensures.given.0) c.in_ok-line.ensures
