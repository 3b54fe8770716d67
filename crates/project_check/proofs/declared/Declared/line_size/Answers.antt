use Rattle.std.proofs.Common.{◌∙◌}
use Rattle.project_check.proofs.declared.Declared.line_size.Goals as goal

pub returns : goal.returns
returns c = λ catalogue ss h. c.copied.ensures ∙ c.get.ensures.value ∙ h.sizes c.args.object
