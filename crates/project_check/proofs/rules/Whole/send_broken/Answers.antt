use Rattle.std.proofs.Common.{◌≡◌, ◌&&◌, refl, ap, ◌∙◌}
use Rattle.std.specs.Prelude.{is_none}
use Rattle.knx_model.specs.Rules.{rule_of, asked_of, model_of, is_no_object, some_line, links_to}
use Rattle.project_check.specs.declared.known.KnownObject.{KnownObject}
use Rattle.project_check.proofs.Asked.{missing}
use Rattle.project_check.proofs.rules.Whole.send_broken.Goals as goal

pub returns : goal.returns
unfolding rule_of
returns c = λ catalogue before all h.
    let d = c.args.device.raw in
    let n = c.args.object in
    let lacks : c.is_missing-missing.result ≡ asked_of (model_of catalogue all d) (is_no_object all d n) =
    c.is_missing-missing.ensures ∙ ap (λ (l : KnownObject). l.modelled && is_none l.size) (c.known_object-known.ensures catalogue all h.declared) ∙ missing catalogue all d n in
    let linked : c.is_linked-linked.result ≡ some_line (links_to d n c.args.group.raw) all = c.is_linked-linked.ensures all (rw c.as_slice.ensures.value h.links) in
    c.first_broken_rule.ensures ∙ rw (c.has_group-has_group.ensures catalogue all h.declared, lacks, c.has_device-declared.ensures catalogue all h.declared, linked) refl
