use Rattle.std.proofs.Common.{◌≤◌, length, refl, sym, ap, subst, ◌∙◌}
use Rattle.std.specs.Prelude.{is_some}
use Rattle.shared_hub.specs.Items.{HasFinished}
use Rattle.shared_hub.specs.Sites.{items_of}
use Rattle.shared_hub.specs.Steps.{GoesOn, IsOn, Steps}
use Rattle.shared_hub.proofs.Sites.{failed_so, none_of, opening_same, relay_same}
use Rattle.shared_hub.proofs.Works.{steps_then}
use Rattle.shared_hub.proofs.Items.{log_is}
use Rattle.shared_hub.proofs.Through.{all_finished}
use Rattle.shared_hub.proofs.site.Site.step.Goals as goal

pub returns-then-is_some : goal.returns-then-is_some
returns-then-is_some g c = failed_so c.args.self.now (ap is_some (ap (λ s. s.hub.fault) (sym c.self.view_is) ∙ sym c.fault.ensures) ∙ (sym c.is_some.ensures ∙ c.if-is_some.true))

pub returns-then-not-has_work_left : goal.returns-then-not-has_work_left
returns-then-not-has_work_left g c = (
  refl,
  subst (λ s. HasFinished c.args.worker (items_of s)) c.self.view_is
      (all_finished c.self.inside.hub c.self.inside.opening.value (length c.self.inside.opening.value.crew) _ c.self.invariant.0.since.run.devices c.self.invariant.0.since.run.turns c.keeps.ensures.form c.self.invariant.0.seats (c.has_work_left.ensures.done c.if-not-has_work_left.true) (items_of (record { hub = c.self.inside.hub; feed = c.self.inside.feed; watching = c.self.inside.watching; opening = c.self.inside.opening; relay = c.self.inside.relay; watched = c.self.inside.watched })) refl (log_is (record { hub = c.self.inside.hub; feed = c.self.inside.feed; watching = c.self.inside.watching; opening = c.self.inside.opening; relay = c.self.inside.relay; watched = c.self.inside.watched })) c.args.worker),
)

pub loop-init : goal.loop-init
loop-init g c = record { same = refl; on = subst (λ s. IsOn s.hub) c.self.view_is (none_of _ (ap is_some (sym c.fault.ensures) ∙ (sym c.is_some.ensures ∙ c.if-is_some.false)), c.has_work_left.ensures.left c.if-not-has_work_left.false) }

pub call-came-requires-clause-within : goal.call-came-requires-clause-within
call-came-requires-clause-within g c = subst (λ o. c.args.worker ≤ length o.value.crew) (sym (opening_same c.loop.self c.args.self.now c.loop.invariant.same)) c.requires.within

pub call-came-requires-clause-of : goal.call-came-requires-clause-of
call-came-requires-clause-of g c = ap (λ r. r.value) (relay_same c.loop.self c.args.self.now c.loop.invariant.same) ∙ c.requires.of

pub call-came-requires-clause-on : goal.call-came-requires-clause-on
call-came-requires-clause-on g c = c.loop.invariant.on

pub loop-preserved : goal.loop-preserved
loop-preserved g c = record {
  same = subst (Steps (HasFinished c.args.worker) c.args.worker (items_of c.loop.self) (items_of c.call-came.new.self)) c.in-Moved.is c.call-came.ensures.steps ∙ c.loop.invariant.same;
  on = subst (λ came. GoesOn came c.call-came.new.self.hub) c.in-Moved.is c.call-came.ensures.on;
}

pub returns-in_default : goal.returns-in_default
returns-in_default g c = steps_then (HasFinished c.args.worker) c.args.worker _ (items_of c.loop.self) (items_of c.call-came.new.self) c.call-came.result c.loop.invariant.same c.call-came.ensures.steps

pub returns : goal.returns
returns g c = c.loop.invariant.same
