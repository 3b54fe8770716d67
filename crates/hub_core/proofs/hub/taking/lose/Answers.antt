use Rattle.std.proofs.Common.{List, Option, ap, sym, subst, ◌∙◌}
use Rattle.std.specs.Prelude.{is_some}
use Rattle.hub_work.specs.declared.closing.Closing.{Closing}
use Rattle.hub_work.specs.declared.crew.Held.{Held}
use Rattle.hub_work.specs.declared.work.Work.{Work}
use Rattle.hub_core.specs.Closes.{ClosesBy}
use Rattle.hub_core.specs.Came.{CountsLoss}
use Rattle.hub_core.specs.Taking.{SameWork, AsideOrLost, LosesIn}
use Rattle.hub_core.proofs.Closes.{begun_by}
use Rattle.hub_core.proofs.Keeps.{of_books}
use Rattle.hub_core.proofs.Losing.{closing_follows}
use Rattle.hub_core.proofs.hub.taking.lose.Goals as goal

pub returns-clause-fits : goal.returns-clause-fits
returns-clause-fits c =
    subst (λ (w : Work). LosesIn c.args.loss c.args.now c.args.work.now w) (sym c.closes.ensures.rest)
    (closing_follows (AsideOrLost c.args.loss) c.args.now c.args.work.now c.give_up.new.work c.closes.new.work.closing c.give_up.ensures.fits)

pub returns-clause-closes : goal.returns-clause-closes
returns-clause-closes c = subst (λ (o : Option Closing). ClosesBy c.args.got c.args.loss c.args.now o c.closes.new.work.closing) c.give_up.ensures.books.closing c.closes.ensures.closes

pub returns-clause-books : goal.returns-clause-books
returns-clause-books c =
    let b : SameWork c.args.work.now c.give_up.new.work = of_books _ _ c.give_up.ensures.books in
    subst (λ (w : Work). SameWork c.args.work.now w) (sym c.closes.ensures.rest) (record {
      reservation = b.reservation;
      turns = b.turns;
      told = b.told;
      held = b.held;
      journal = b.journal;
      unfinished = b.unfinished;
      tasks_are = b.tasks_are;
      begun = begun_by c.args.got c.args.loss c.args.now _ _ c.closes.ensures.closes ∙ ap is_some c.give_up.ensures.books.closing;
    })

pub returns-clause-came : goal.returns-clause-came
returns-clause-came c = subst (λ (crew : List (Option Held)). CountsLoss c.args.loss c.args.now c.args.work.now crew) (sym (ap (λ (w : Work). w.crew) c.closes.ensures.rest)) c.give_up.ensures.came
