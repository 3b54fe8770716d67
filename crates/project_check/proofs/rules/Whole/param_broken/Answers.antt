use Rattle.std.proofs.Common.{◌≡◌, ◌&&◌, not, refl, ap, ◌∙◌}
use Rattle.std.specs.Prelude.{is_none}
use Rattle.knx_model.specs.Models.{has_field, field_in}
use Rattle.knx_model.specs.Rules.{rule_of, asked_of, model_of, is_out_of}
use Rattle.project_check.specs.Keys.{is_outside}
use Rattle.project_check.specs.declared.known.KnownParameter.{KnownParameter}
use Rattle.project_check.proofs.Asked.{unknown_of, outside_of}
use Rattle.project_check.proofs.rules.Whole.param_broken.Goals as goal

pub returns : goal.returns
unfolding rule_of
returns c = λ catalogue before all h.
    let m = model_of catalogue all c.args.device.raw in
    let name = c.args.name.now in
    let known = c.known_parameter-known.ensures catalogue all h.declared in
    let unknown : c.is_unknown-unknown.result ≡ asked_of m (λ m. not (has_field m name)) = c.is_unknown-unknown.ensures ∙ ap (λ (s : KnownParameter). s.modelled && is_none s.range) known ∙ unknown_of m name in
    let outside : c.excludes-outside.result ≡ asked_of m (λ m. is_out_of (field_in m.parameters name) c.args.value) =
    c.excludes-outside.ensures ∙ ap (λ (s : KnownParameter). is_outside s.range c.args.value) known ∙ outside_of m name c.args.value in
    c.first_broken_rule.ensures ∙ rw (unknown, outside, c.has_device-declared.ensures catalogue all h.declared) refl
