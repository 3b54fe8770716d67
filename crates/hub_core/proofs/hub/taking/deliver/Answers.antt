use Rattle.std.proofs.Common.{sym, subst}
use Rattle.tunnel_link.specs.declared.came.What.{What}
use Rattle.hub_core.specs.Taking.{DeliversIn}
use Rattle.hub_core.proofs.Keeps.{of_books}
use Rattle.hub_core.proofs.Losing.{frame_follows}
use Rattle.hub_core.specs.Came.{CountsTaken}
use Rattle.hub_core.proofs.hub.taking.deliver.Goals as goal

pub returns-in-Frame-clause-fits : goal.returns-in-Frame-clause-fits
returns-in-Frame-clause-fits c =
    subst (λ (x : What). DeliversIn x c.args.now c.args.work.now c.deliver.new.self) (sym c.in-Frame.is)
    (frame_follows c.args.work.now c.deliver.new.self c.in-Frame.frame c.args.now (of_books _ _ c.deliver.ensures.books) c.moments_go_on.ensures.aside c.deliver.ensures.follows)

pub returns-in-Frame-clause-came : goal.returns-in-Frame-clause-came
returns-in-Frame-clause-came c = subst (λ (x : What). CountsTaken x c.args.work.now c.deliver.new.self) (sym c.in-Frame.is) (c.deliver.ensures.came, c.deliver.ensures.counts)
