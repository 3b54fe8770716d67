use Rattle.call_words.proofs.laws.a_report_is_printed.Goals as goal
use Rattle.call_words.proofs.Prints.{prints}

pub returns : goal.returns
returns c = prints
