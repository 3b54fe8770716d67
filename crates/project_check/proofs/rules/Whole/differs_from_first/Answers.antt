use Rattle.std.proofs.Common.{sym, ap, ◌∙◌}
use Rattle.knx_model.specs.Rules.{differ, differs_from_first}
use Rattle.project_check.proofs.Firsts.{any_here, any_later}
use Rattle.project_check.proofs.rules.Whole.differs_from_first.Goals as goal

pub returns-then-differ : goal.returns-then-differ
returns-then-differ c = λ catalogue all h. any_here (differs_from_first catalogue all c.args.size) c.args.groups.now c.loop-group.group-index (record { raw = 0 }) c.loop-group-test.true (c.loop-group.invariant catalogue all h) (ap (differ c.args.size) (sym (c.first_size.ensures catalogue all h)) ∙ sym c.if-differ.ensures)

pub loop-group-preserved : goal.loop-group-preserved
loop-group-preserved c = λ catalogue all h. any_later (differs_from_first catalogue all c.args.size) c.args.groups.now c.loop-group.group-index (record { raw = 0 }) c.loop-group-test.true (c.loop-group.invariant catalogue all h) (ap (differ c.args.size) (sym (c.first_size.ensures catalogue all h)) ∙ sym c.if-differ.ensures)
