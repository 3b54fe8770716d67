use Rattle.std.proofs.Common.{◌+◌, ◌-◌, ◌*◌}
use Rattle.project_check.proofs.parts.+halves.Given as goal

abbrev pub decreases-first_in_halves : goal.decreases-first_in_halves
decreases-first_in_halves g l = 2 * (l.to - l.from)

abbrev pub decreases-join+arg2 : goal.decreases-join+arg2
decreases-join+arg2 g l = 2 * (l.middle - l.from) + 1

abbrev pub decreases-join+arg3 : goal.decreases-join+arg3
decreases-join+arg3 g l = 2 * (l.to - l.middle) + 1
