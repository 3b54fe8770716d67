use Rattle.line_model.proofs.laws.channel_numbers_come_again.Goals as goal
use Rattle.line_model.proofs.Networks.{comes_again, not_before, never_zero}

pub returns-clause-again : goal.returns-clause-again
returns-clause-again c = comes_again

pub returns-clause-before : goal.returns-clause-before
returns-clause-before c = not_before

pub returns-clause-least : goal.returns-clause-least
returns-clause-least c = λ place. (never_zero place).0

pub returns-clause-greatest : goal.returns-clause-greatest
returns-clause-greatest c = λ place. (never_zero place).1
