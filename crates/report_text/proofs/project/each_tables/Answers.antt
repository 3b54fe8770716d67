use Rattle.std.proofs.Common.{◌≡◌, ◌≤◌, ℕ, IfOk, List, map, min, take, length, length-take, ap, ◌∙◌, arith, Bor}
use Rattle.std.proofs.lemmas.List.{length-map}
use Rattle.rayon.proofs.ToStd.{slice-zip}
use Rattle.rayon.proofs.ListFacts.{AllZip-through}
use Rattle.knx_model.specs.declared.address.IndAddr.{IndAddr}
use Rattle.knx_model.specs.declared.config.Image.{Image}
use Rattle.call_words.specs.ReportText.{tables_lines}
use Rattle.report_text.proofs.EachTables.{all_ok}
use Rattle.report_text.proofs.project.each_tables.Goals as goal

pub returns : goal.returns
returns g c =
    let cut = c.zip.ensures in
    let devices = c.args.devices.now in
    let images = c.args.images.now in
    let n = min (length devices) (length images) in
    let both : Bor IndAddr × Bor Image → IndAddr × Image = λ p. (p.0.now, p.1.now) in
    let told : IndAddr × Image → List ℕ = λ p. tables_lines p.0 p.1 in
    let chain = rw (c.map.ensures.base, c.with_min_len.ensures.base) at c.in_ok-texts.ensures in
    let texts = rw c.in_ok-texts-2.was at chain.2 in
    let pairs = chain.1.1 in
    let left : map (λ (z : Bor IndAddr). z.now) pairs.0 ≡ take n devices = pairs.2 ∙ rw (c.par_iter.ensures, cut.right) at cut.left in
    let right : map (λ (z : Bor Image). z.now) pairs.1 ≡ take (length pairs.1) images = rw (cut.right, cut.at) at pairs.3 in
    let long : n ≤ length pairs.1 =
    omega (arith, pairs.4, ap length left, length-map pairs.0 (λ (z : Bor IndAddr). z.now), length-take n devices, ap length cut.right, cut.at) in
    let zipped = ap (map both) pairs.5 ∙ slice-zip pairs.0 pairs.1 devices images n _ left right (omega arith) long in
    let each = AllZip-through both _ (λ p answer. IfOk answer (λ text. text ≡ told p)) (λ z answer e. e) chain.1.0 chain.0 chain.1.2 in
    c.from_vec.ensures ∙ texts.2 ∙ all_ok told (map both chain.1.0) chain.0 texts.0 texts.1 each ∙ ap (map told) zipped
