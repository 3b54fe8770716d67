use Rattle.std.proofs.Common.{sym, ◌∙◌}
use Rattle.hub_core.proofs.Left.{all_over, not_over, left_by_next, no_next}
use Rattle.hub_core.proofs.hub.Hub.has_work_left.Goals as goal

pub returns-then-is_unfinished-clause-left : goal.returns-then-is_unfinished-clause-left
returns-then-is_unfinished-clause-left g c =
    rw (← c.self.view_is) (λ e all are f. not_over c.self.inside.work _ c.self.invariant.books all are c.is_unfinished.result c.is_unfinished.ensures c.if-is_unfinished.true f.jobs_over)

pub returns-else-is_unfinished-clause-left : goal.returns-else-is_unfinished-clause-left
returns-else-is_unfinished-clause-left g c = λ e. left_by_next c.args.self.now c.next_group.result c.next_group.ensures.next (sym c.is_some.ensures ∙ e)

pub returns-else-is_unfinished-clause-done : goal.returns-else-is_unfinished-clause-done
returns-else-is_unfinished-clause-done g c = λ e. record {
  jobs = rw (← c.self.view_is) (λ all are. all_over c.self.inside.work _ c.self.invariant.books all are c.is_unfinished.result c.is_unfinished.ensures c.if-is_unfinished.false);
  telegrams = c.next_group.ensures.all (no_next c.next_group.result (sym c.is_some.ensures ∙ e));
}
