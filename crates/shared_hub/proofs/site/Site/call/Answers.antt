use Rattle.std.proofs.Common.{◌∙◌}
use Rattle.shared_hub.specs.Items.{HasFinished}
use Rattle.shared_hub.specs.Sites.{items_of}
use Rattle.shared_hub.proofs.Works.{polls_then, relay_kept}
use Rattle.shared_hub.proofs.site.Site.call.Goals as goal

pub or_polls-requires-clause-of : goal.or_polls-requires-clause-of
or_polls-requires-clause-of g c = relay_kept (HasFinished c.args.worker) c.args.worker c.args.self.now c.work-came.new.self c.work-came.result c.work-came.ensures.steps ∙ c.requires.of

pub returns-clause-steps : goal.returns-clause-steps
returns-clause-steps g c = polls_then (HasFinished c.args.worker) c.args.worker (items_of c.args.self.now) (items_of c.work-came.new.self) (items_of c.or_polls.new.self) c.work-came.result c.or_polls.result c.work-came.ensures.steps c.or_polls.ensures.polls
