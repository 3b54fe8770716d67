use Rattle.script_text.proofs.Lengths.{longer, shorter}
use Rattle.script_text.proofs.laws.words_too_many_or_few.Goals as goal

pub returns-clause-longer : goal.returns-clause-longer
returns-clause-longer c = longer

pub returns-clause-shorter : goal.returns-clause-shorter
returns-clause-shorter c = shorter
