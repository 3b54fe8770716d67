use Rattle.std.proofs.Common.{◌∙◌}
use Rattle.knx_model.specs.Rules.{first_some, model_in}
use Rattle.project_check.proofs.Named.{kept_known}
use Rattle.project_check.proofs.Steps.{modelled}
use Rattle.project_check.proofs.declared.Declared.has_device.Goals as goal

pub returns : goal.returns
returns c = λ catalogue ss h.
    let d = c.args.device in
    c.is_some.ensures ∙ kept_known catalogue c.get.result (first_some (model_in d) ss) (h.devices d c.get.result c.get.ensures) ∙ modelled d ss
