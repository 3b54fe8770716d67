use Rattle.std.proofs.Common.{not, sym, ap, ◌∙◌}
use Rattle.knx_model.specs.Rules.{is_undeclared}
use Rattle.project_check.proofs.Firsts.{any_here, any_later, any_nowhere}
use Rattle.project_check.proofs.rules.Whole.lacks_group.Goals as goal

pub returns-then-not-has_group : goal.returns-then-not-has_group
returns-then-not-has_group c = λ catalogue all h. any_here (is_undeclared all) c.args.groups.now c.loop-group.group-index (record { raw = 0 }) c.loop-group-test.true (c.loop-group.invariant catalogue all h) (ap not (sym (c.has_group.ensures catalogue all h.declared) ∙ c.if-not-has_group.true))

pub loop-group-preserved : goal.loop-group-preserved
loop-group-preserved c = λ catalogue all h. any_later (is_undeclared all) c.args.groups.now c.loop-group.group-index (record { raw = 0 }) c.loop-group-test.true (c.loop-group.invariant catalogue all h) (ap not (sym (c.has_group.ensures catalogue all h.declared) ∙ c.if-not-has_group.false))

pub returns : goal.returns
returns c = λ catalogue all h. any_nowhere (is_undeclared all) c.args.groups.now c.loop-group.group-index c.loop-group-test.false (c.loop-group.invariant catalogue all h)
