use Rattle.std.proofs.Common.{ℕ, arith, length-take}
use Rattle.std.proofs.lemmas.List.{take_rest}
use Rattle.knx_model.proofs.Cutting.{line_found, line_last}
use Rattle.knx_model.proofs.words.cut.next_line.Goals as goal

pub returns-then-len-rest-clause-found : goal.returns-then-len-rest-clause-found
returns-then-len-rest-clause-found c =
    let kept = c.len_without_return-kept.ensures in
    line_found c.args.octets.now _ c.args.at _ _ (take_rest c.args.octets.now c.args.at) c.line_len-len.ensures.value c.if-len-rest.true (omega (arith, kept.within, length-take {A = ℕ})) kept.value

pub returns-then-len-gt0-clause-found : goal.returns-then-len-gt0-clause-found
returns-then-len-gt0-clause-found c = line_last c.args.octets.now c.args.at _ c.requires (simp take_rest at c.line_len-len.ensures.value) (simp take_rest at c.if-len-rest.false) c.if-len-gt0.true
