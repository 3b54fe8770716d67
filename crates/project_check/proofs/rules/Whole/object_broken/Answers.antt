use Rattle.std.proofs.Common.{refl, ◌∙◌}
use Rattle.knx_model.specs.Rules.{rule_of}
use Rattle.project_check.proofs.rules.Whole.object_broken.Goals as goal

pub returns : goal.returns
unfolding rule_of
returns c = λ size flags catalogue before all h k. c.first_broken_rule.ensures ∙ rw (c.has_twice-twice.ensures size flags catalogue before all h k, c.has_device-declared.ensures catalogue all h.declared) refl
