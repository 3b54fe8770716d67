use Rattle.std.specs.Option.{option_flatten}
use Rattle.knx_model.specs.Rules.{first_some, model_in, model_of}
use Rattle.project_check.proofs.Named.{kept_model, indexed_found, indexed_nothing}
use Rattle.project_check.proofs.declared.Declared.model.Goals as goal

pub returns-clause-some : goal.returns-clause-some
returns-clause-some c =
    let d = c.args.device in
    let kept = c.get.result in
    rw c.flatten.ensures (indexed_found (λ catalogue ss. model_of catalogue ss d) (option_flatten kept) (λ catalogue ss h. kept_model catalogue kept (first_some (model_in d) ss) (h.devices d kept c.get.ensures)))

pub returns-clause-none : goal.returns-clause-none
returns-clause-none c =
    let d = c.args.device in
    let kept = c.get.result in
    rw c.flatten.ensures (indexed_nothing (λ catalogue ss. model_of catalogue ss d) (option_flatten kept) (λ catalogue ss h. kept_model catalogue kept (first_some (model_in d) ss) (h.devices d kept c.get.ensures)))
