use Rattle.std.proofs.Common.{eqb, sym, ◌∙◌}
use Rattle.knx_model.proofs.Parts.{three_numbers, no_third}
use Rattle.knx_model.proofs.words.address.three_parts.Goals as goal

pub returns-in_err-third-clause-value : goal.returns-in_err-third-clause-value
returns-in_err-third-clause-value c =
    c.from_residual-in_err-third.ensures ∙ sym (no_third c.args.most (λ b. eqb b c.args.by) c.args.word.now c.in_ok-first.first.now c.in_ok-first.rest.now c.in_ok-second.second.now c.in_ok-second.third.now c.in_ok-first-2.first c.in_ok-second-2.second
    c.in_ok-first.ensures c.in_ok-second.ensures (sym c.in_ok-first-2.ensures.value) (sym c.in_ok-second-2.ensures.value) (sym c.in_err-third.ensures.value))

pub returns-clause-value : goal.returns-clause-value
returns-clause-value c =
    sym (three_numbers c.args.most c.args.by c.args.word.now c.in_ok-first.first.now c.in_ok-first.rest.now c.in_ok-second.second.now c.in_ok-second.third.now c.in_ok-first-2.first c.in_ok-second-2.second c.in_ok-third.third
    c.requires c.in_ok-first.ensures c.in_ok-second.ensures (sym c.in_ok-first-2.ensures.value) (sym c.in_ok-second-2.ensures.value) (sym c.in_ok-third.ensures.value))
