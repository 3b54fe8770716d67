use Rattle.std.proofs.Common.{sym, ap, subst, ◌∙◌}
use Rattle.line_model.specs.LinkStory.{IsNewLink}
use Rattle.hub_core.proofs.Beginning.{begins}
use Rattle.hub_core.proofs.View.{seen_tasks}
use Rattle.hub_core.proofs.hub.Hub.begin.Goals as goal

pub invariant_of-result : goal.invariant_of-result
invariant_of-result g c =
    begins _ _ c.in-Ok.work _ c.args.jobs (ap (λ k. k.fault) c.begin.ensures.fault) (subst (λ l. IsNewLink (g.L.Link.story l)) (sym c.begin.ensures.link) c.requires.new) c.in-Ok.ensures.books c.in-Ok.ensures.begins.journal c.in-Ok.ensures.tasks c.in-Ok.ensures.unbegun c.in-Ok.ensures.fits

pub returns-in-Ok-clause-jobs : goal.returns-in-Ok-clause-jobs
returns-in-Ok-clause-jobs g c = seen_tasks c.in-Ok.work ∙ c.in-Ok.ensures.tasks
