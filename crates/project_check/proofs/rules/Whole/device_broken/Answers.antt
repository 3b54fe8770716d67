use Rattle.std.proofs.Common.{◌≡◌, Bool, true, false, not, refl, sym, ap, ◌∙◌}
use Rattle.std.specs.Prelude.{is_some, is_none}
use Rattle.knx_model.specs.Models.{model_named}
use Rattle.knx_model.specs.Rules.{rule_of}
use Rattle.project_check.proofs.Named.{none_not}
use Rattle.project_check.proofs.rules.Whole.device_broken.Goals as goal

other_way : (a b : Bool) → a ≡ not b → b ≡ not a
other_way a true e = rw e refl
other_way a false e = rw e refl

pub returns : goal.returns
unfolding rule_of
returns c = λ device catalogue before all h named k.
    let model = c.args.model.now in
    let unknown : c.is_none-unknown.result ≡ is_none (model_named catalogue model) =
    other_way (is_some c.named.result) c.is_none-unknown.result c.is_none-unknown.ensures ∙ ap not (c.named.ensures.known catalogue all h.models named) ∙ sym (none_not (model_named catalogue model)) in
    c.first_broken_rule.ensures ∙ rw (k, unknown) refl
