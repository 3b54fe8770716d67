use Rattle.std.proofs.Common.{eqb, sym, refl, ◌∙◌}
use Rattle.knx_model.proofs.Parts.{three_numbers, no_third}
use Rattle.address_text.proofs.address.three_parts.Goals as goal

pub returns-in_err-part-clause-value : goal.returns-in_err-part-clause-value
returns-in_err-part-clause-value c =
    c.from_residual-in_err-part.ensures ∙ sym (no_third (15, 15, 255) (λ b. eqb b 46) c.args.word.now c.in_ok-area.area.now c.in_ok-area.rest.now c.in_ok-line.line.now c.in_ok-line.part.now c.in_ok-area-2.area c.in_ok-line-2.line
    c.in_ok-area.ensures c.in_ok-line.ensures (sym c.in_ok-area-2.ensures.value) (sym c.in_ok-line-2.ensures.value) (sym c.in_err-part.ensures.value))

pub returns-clause-value : goal.returns-clause-value
returns-clause-value c =
    sym (three_numbers (15, 15, 255) 46 c.args.word.now c.in_ok-area.area.now c.in_ok-area.rest.now c.in_ok-line.line.now c.in_ok-line.part.now c.in_ok-area-2.area c.in_ok-line-2.line c.in_ok-part.part
    refl c.in_ok-area.ensures c.in_ok-line.ensures (sym c.in_ok-area-2.ensures.value) (sym c.in_ok-line-2.ensures.value) (sym c.in_ok-part.ensures.value))
