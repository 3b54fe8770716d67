use Rattle.std.proofs.Common.{Bool, Option, subst}
use Rattle.hub_work.specs.declared.closing.Closing.{Closing}
use Rattle.hub_core.specs.Closes.{ClosesBy}
use Rattle.hub_core.proofs.Losing.{taken_follows}
use Rattle.hub_core.proofs.hub.taking.take_in.Goals as goal

pub returns-clause-fits : goal.returns-clause-fits
returns-clause-fits c =
    taken_follows c.args.work.now c.deliver-heard.new.work c.lose.new.work c.args.came.now.loss c.args.now c.lose.ensures.fits c.args.came.now.what c.deliver-heard.ensures.books c.deliver-heard.ensures.fits

pub returns-clause-closes : goal.returns-clause-closes
returns-clause-closes c =
    subst (λ (b : Bool). ClosesBy b c.args.came.now.loss c.args.now c.args.work.now.closing c.lose.new.work.closing) c.is_got.ensures
    (subst (λ (o : Option Closing). ClosesBy c.is_got.result c.args.came.now.loss c.args.now o c.lose.new.work.closing) c.deliver-heard.ensures.closing c.lose.ensures.closes)

pub returns-clause-came : goal.returns-clause-came
returns-clause-came c = record { told = c.deliver-heard.new.work; same = c.deliver-heard.ensures.books; taken = c.deliver-heard.ensures.came; lost = c.lose.ensures.came }
