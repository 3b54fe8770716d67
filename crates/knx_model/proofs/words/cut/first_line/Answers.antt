use Rattle.std.proofs.lemmas.List.{take_rest}
use Rattle.knx_model.proofs.words.cut.first_line.Goals as goal

pub returns-in-Some-clause-first : goal.returns-in-Some-clause-first
returns-in-Some-clause-first c = simp take_rest c.in-Some.ensures.found
