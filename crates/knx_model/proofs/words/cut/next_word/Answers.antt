use Rattle.std.proofs.Common.{◌+◌, arith, length-drop}
use Rattle.std.proofs.lemmas.List.{take_rest}
use Rattle.knx_model.proofs.Cutting.{words_none, word_found, IsWord}
use Rattle.knx_model.proofs.words.cut.next_word.Goals as goal

pub returns-then-skipped-rest-clause-none : goal.returns-then-skipped-rest-clause-none
returns-then-skipped-rest-clause-none c = words_none c.args.line.now c.args.at _ (simp take_rest at c.blank_len-skipped.ensures.value) (omega (arith, length-drop c.args.at c.args.line.now))

pub returns-clause-found : goal.returns-clause-found
returns-clause-found c = (word_found c.args.line.now c.args.at _ _ c.requires (simp take_rest at c.blank_len-skipped.ensures.value) (omega (arith, length-drop c.args.at c.args.line.now)) (simp take_rest at c.word_len.ensures.value)).found

pub returns-clause-within : goal.returns-clause-within
returns-clause-within c =
    let w : IsWord c.args.line.now c.args.at (c.args.at + c.blank_len-skipped.result) (c.args.at + c.blank_len-skipped.result + c.word_len.result) = word_found c.args.line.now c.args.at _ _ c.requires (simp take_rest at c.blank_len-skipped.ensures.value) (omega (arith, length-drop c.args.at c.args.line.now)) (simp take_rest at c.word_len.ensures.value) in
    let some = w.some in let within = w.within in
    (omega arith, omega arith, omega arith, omega arith)
