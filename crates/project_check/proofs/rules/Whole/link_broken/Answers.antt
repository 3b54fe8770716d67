use Rattle.std.proofs.Common.{◌≡◌, Bool, ◌&&◌, ◌||◌, refl, sym, ap, ◌∙◌}
use Rattle.std.specs.Prelude.{is_none}
use Rattle.knx_model.specs.Rules.{rule_of, asked_of, model_of, size_of, is_no_object, repeats_group}
use Rattle.project_check.specs.declared.known.KnownObject.{KnownObject}
use Rattle.project_check.proofs.Asked.{missing}
use Rattle.project_check.proofs.rules.Whole.link_broken.Goals as goal

pub returns : goal.returns
unfolding rule_of
returns c = λ catalogue before all h k repeats.
    let d = c.args.device.raw in
    let n = c.args.object in
    let known = c.known_object-known.ensures catalogue all h.declared in
    let lacks : c.is_missing-missing.result ≡ asked_of (model_of catalogue all d) (is_no_object all d n) =
    c.is_missing-missing.ensures ∙ ap (λ (l : KnownObject). l.modelled && is_none l.size) known ∙ missing catalogue all d n in
    let size : c.known_object-known.result.size ≡ size_of catalogue all d n = ap (λ (l : KnownObject). l.size) known in
    c.first_broken_rule.ensures ∙ rw (
      k,
      c.lacks_group-lacks_group.ensures catalogue all h,
      lacks,
      c.links_twice-twice.ensures ∙ ap (λ (b : Bool). b || repeats_group c.args.groups.now) (sym repeats),
      c.size_differs-differs.ensures catalogue all h,
      size,
      c.has_device-declared.ensures catalogue all h.declared,
    ) refl
