use Rattle.std.proofs.Common.{eqb, sym, ◌∙◌}
use Rattle.knx_model.proofs.Parts.{two_numbers, no_second}
use Rattle.knx_model.proofs.words.address.two_parts.Goals as goal

pub returns-in_err-sub-clause-value : goal.returns-in_err-sub-clause-value
returns-in_err-sub-clause-value c =
    c.from_residual-in_err-sub.ensures ∙ sym (no_second (λ b. eqb b 47) c.args.word.now c.in_ok-main.main.now c.in_ok-main.sub.now c.in_ok-main-2.main
    c.in_ok-main.ensures (sym c.in_ok-main-2.ensures.value) (sym c.in_err-sub.ensures.value))

pub returns-clause-value : goal.returns-clause-value
returns-clause-value c =
    sym (two_numbers c.args.word.now c.in_ok-main.main.now c.in_ok-main.sub.now c.in_ok-main-2.main c.in_ok-sub.sub
    c.in_ok-main.ensures (sym c.in_ok-main-2.ensures.value) (sym c.in_ok-sub.ensures.value))
