use Rattle.std.proofs.Common.{◌≡◌, List, ℕ, ap, ◌∙◌}
use Rattle.std.specs.List.{flat_map, zip}
use Rattle.std.proofs.lemmas.List.Folds.{flat_map-map}
use Rattle.std.proofs.lemmas.Result.{IfOk-weaker}
use Rattle.knx_model.specs.declared.address.IndAddr.{IndAddr}
use Rattle.knx_model.specs.declared.config.Image.{Image}
use Rattle.call_words.specs.ReportText.{tables_lines}
use Rattle.report_text.proofs.project.tables_text.Goals as goal

pub returns : goal.returns
returns g c =
    let told : IndAddr × Image → List ℕ = λ p. tables_lines p.0 p.1 in
    let whole = λ (texts : List (List ℕ)). flat_map (λ each. each) texts in
    IfOk-weaker c.joined.result _ _ (λ text e. e ∙ ap whole (c.as_slice.ensures ∙ c.in_ok-texts.ensures)
    ∙ flat_map-map (λ each. each) told (zip c.args.devices.now c.args.images.now)) c.joined.ensures
