use Rattle.project_text.proofs.Again.{reading_again}
use Rattle.project_text.proofs.laws.printed_again.Goals as goal

pub returns : goal.returns
returns c = reading_again
