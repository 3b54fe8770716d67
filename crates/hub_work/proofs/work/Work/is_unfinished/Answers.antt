use Rattle.hub_work.proofs.Unfinished.{has_unfinished}
use Rattle.hub_work.proofs.work.Work.is_unfinished.Goals as goal

pub returns : goal.returns
returns c = has_unfinished c.args.self.now
