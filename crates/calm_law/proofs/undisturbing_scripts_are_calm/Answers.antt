use Rattle.calm_law.proofs.undisturbing_scripts_are_calm.Goals as goal
use Rattle.calm_law.proofs.Scripts.{are_calm}

pub returns : goal.returns
returns c = λ script start events undisturbed legal follows. are_calm script undisturbed start events legal follows
