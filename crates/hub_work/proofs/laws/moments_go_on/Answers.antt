use Rattle.hub_work.proofs.Events.{stays_fitting}
use Rattle.hub_work.proofs.Moments.{aside_follows}
use Rattle.hub_work.proofs.laws.moments_go_on.Goals as goal

pub returns-clause-aside : goal.returns-clause-aside
returns-clause-aside c = aside_follows c.of_a_downloader.ensures

pub returns-clause-later : goal.returns-clause-later
returns-clause-later c = stays_fitting
