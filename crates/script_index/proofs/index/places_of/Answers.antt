use Rattle.std.proofs.Common.{◌≡◌, ◌+◌, ◌-◌, drop, sym, ap, ◌∙◌, arith}
use Rattle.std.specs.BTreeMap.{get}
use Rattle.knx_model.specs.declared.script.ScriptLine.{ScriptLine}
use Rattle.line_model.specs.Lines.{script_of, or_later}
use Rattle.script_index.specs.Places.{placed, value_in, value_at}
use Rattle.script_index.specs.Stands.{place_cmp}
use Rattle.script_index.proofs.Entered.{place_more}
use Rattle.script_index.proofs.index.places_of.Goals as goal

pub loop-at-preserved : goal.loop-at-preserved
loop-at-preserved c =
    let same : c.loop-at.at - 1 + 1 ≡ c.loop-at.at = omega arith in
    record {
      within = omega arith;
      said = λ q.
          c.in_ok-enter_place.ensures q
          ∙ ap (λ p. or_later (value_in q p) (get place_cmp c.loop-at.places q)) c.placed.ensures
          ∙ ap (λ (line : ScriptLine). or_later (value_in q (placed line.what)) (get place_cmp c.loop-at.places q)) (sym c.index-lines-at.is)
          ∙ ap (λ later. or_later (value_in q (placed c.index-lines-at.result.what)) later) (c.loop-at.invariant.said q)
          ∙ ap (λ n. or_later (value_in q (placed c.index-lines-at.result.what)) (value_at q (script_of (drop n c.args.lines.now)))) (sym same)
          ∙ sym (place_more c.args.lines.now (c.loop-at.at - 1) c.index-lines-at.result q (omega arith) c.index-lines-at.is);
    }
