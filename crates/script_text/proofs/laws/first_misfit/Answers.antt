use Rattle.script_text.proofs.Misfits.{first_misfit}
use Rattle.script_text.proofs.laws.first_misfit.Goals as goal

pub returns : goal.returns
returns c = first_misfit
