use Rattle.line_model.proofs.laws.a_device_changes_by_what_reaches_it.Goals as goal
use Rattle.line_model.proofs.Concerned.{sends_so, repeats_so, shuts_so, cuts_so, goes_on_so}
use Rattle.line_model.proofs.Reached.{unreached, reached}

pub returns-clause-nothing : goal.returns-clause-nothing
returns-clause-nothing c = unreached

pub returns-clause-frame : goal.returns-clause-frame
returns-clause-frame c = reached

pub returns-clause-sends : goal.returns-clause-sends
returns-clause-sends c = sends_so

pub returns-clause-repeats : goal.returns-clause-repeats
returns-clause-repeats c = repeats_so

pub returns-clause-closes : goal.returns-clause-closes
returns-clause-closes c = shuts_so

pub returns-clause-cut : goal.returns-clause-cut
returns-clause-cut c = cuts_so

pub returns-clause-on : goal.returns-clause-on
returns-clause-on c = goes_on_so
